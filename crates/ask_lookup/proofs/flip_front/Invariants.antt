-- The loop of `flip_front`: its invariant is `Turning` of the front.
use Rattle.std.proofs.Common.{take}
use Rattle.ask_lookup.specs.FallingLaws.{Turning}
use Rattle.ask_lookup.proofs.flip_front.Given as goal

abbrev pub invariant-loop-x : goal.invariant-loop-x
invariant-loop-x l = Turning (take l.n l.fn.out) l.n l.x-items l.x-index
