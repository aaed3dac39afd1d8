-- The loop's invariant: what is written, with the levels that are left, is all. Assumes nothing.
use Rattle.patch_over.specs.LevelLaws.{LevelsWritten}
use Rattle.patch_over.proofs.lay_levels.Given as goal

abbrev pub invariant-loop-level : goal.invariant-loop-level
invariant-loop-level l = LevelsWritten l.left l.list l.fn.out l.at l.a l.b l.m l.out l.left_at l.list_at l.rest l.next l.level
