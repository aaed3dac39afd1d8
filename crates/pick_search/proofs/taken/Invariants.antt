-- The loop of `taken`: its invariant is `Sweeping`, its measure the places left and whether the search goes on. Assumes nothing.
use Rattle.pick_search.specs.SearchLaws.{Sweeping, left_of}
use Rattle.pick_search.proofs.taken.Given as goal

abbrev pub invariant-loop-w : goal.invariant-loop-w
invariant-loop-w l = Sweeping l.s.files l.q l.edge l.fn.a l.w

abbrev pub decreases-loop-w : goal.decreases-loop-w
decreases-loop-w l = left_of l.q l.w
