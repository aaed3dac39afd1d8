-- The loop of `lay_levels`: what is written, with the entries of the levels that are left, is all.
use Rattle.difference_list.specs.LevelLaws.{LevelsWritten}
use Rattle.difference_list.proofs.lay_levels.Given as goal

abbrev pub invariant-loop-level : goal.invariant-loop-level
invariant-loop-level l = LevelsWritten l.left l.right l.fn.out l.at l.a l.b l.out l.here l.level
