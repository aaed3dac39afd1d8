-- The loop's invariant: what is written, with what is left, is all. Assumes nothing.
use Rattle.std.proofs.Common.{◌+◌}
use Rattle.patch_scan.specs.OverRunLaws.{OverWritten}
use Rattle.patch_over.proofs.lay_over.Given as goal

abbrev pub invariant-loop-p : goal.invariant-loop-p
invariant-loop-p l = OverWritten l.pointer l.left l.list l.fn.out l.fn.at l.fn.from l.out l.p l.next l.count

abbrev pub decreases-loop-p : goal.decreases-loop-p
decreases-loop-p l = l.p.lefts + l.p.rights
