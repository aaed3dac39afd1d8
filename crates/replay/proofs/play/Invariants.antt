-- The loop of `play`: it stands before the next call.
use Rattle.replay.specs.ReplayingLaws.{PlayedTo}
use Rattle.replay.proofs.play.Given as goal

abbrev pub invariant-loop-i : goal.invariant-loop-i
invariant-loop-i l = PlayedTo l.recording l.initial.t l.maximum l.n l.fn.room l.room l.t l.at l.i
