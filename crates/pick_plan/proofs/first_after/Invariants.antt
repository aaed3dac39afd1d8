-- The loop of `first_after`: its invariant is `Left` for the places from this one on. Assumes nothing.
use Rattle.keys.specs.Key.{key_of}
use Rattle.pick_plan.specs.FirstLaws.{Left}
use Rattle.pick_plan.proofs.first_after.Given as goal

abbrev pub invariant-loop-at : goal.invariant-loop-at
invariant-loop-at l = Left (key_of l.key) l.s.files l.fn.p (record { lo = l.at; hi = l.fn.p.hi })
