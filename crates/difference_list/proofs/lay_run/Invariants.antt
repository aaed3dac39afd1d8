-- The loop's invariant: what is written, with what is left, is all. Assumes nothing.
use Rattle.std.proofs.Common.{◌+◌}
use Rattle.difference_list.specs.RunLaws.{Written}
use Rattle.difference_list.proofs.lay_run.Given as goal

abbrev pub invariant-loop-p : goal.invariant-loop-p
invariant-loop-p l = Written l.pointer l.level l.left l.right l.fn.out l.fn.at l.fn.from l.out l.p l.next l.listed

abbrev pub decreases-loop-p : goal.decreases-loop-p
decreases-loop-p l = l.p.lefts + l.p.rights
