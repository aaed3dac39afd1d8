-- The loop of `passed`: its invariant is `Halving`, its measure the number of places left. Assumes nothing.
use Rattle.std.proofs.Common.{◌-◌}
use Rattle.pick_range.specs.Ranges.{span_of}
use Rattle.pick_found.specs.ContiguousLaws.{Halving}
use Rattle.pick_search.proofs.passed.Given as goal

abbrev pub invariant-loop-p : goal.invariant-loop-p
invariant-loop-p l = Halving l.s.files l.fn.q.from l.fn.q.to (span_of l.fn.q.span) l.p.lo l.p.hi

abbrev pub decreases-loop-p : goal.decreases-loop-p
decreases-loop-p l = l.p.hi - l.p.lo
