-- The loop of `laid`: its invariant is `Laying`. Assumes nothing.
use Rattle.pick_search.specs.PlacedLaws.{Laying}
use Rattle.pick_search.proofs.laid.Given as goal

abbrev pub invariant-loop-j : goal.invariant-loop-j
invariant-loop-j l = Laying l.s l.fn.c l.out l.j
