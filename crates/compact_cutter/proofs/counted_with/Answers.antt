-- The count with the bytes passed, unless the key is the first. Assumes nothing.
use Rattle.std.proofs.Common.{sym}
use Rattle.std.proofs.Math.Nat.{add-zero}
use Rattle.compact_cutter.specs.Cutter.{counted_with}
use Rattle.compact_cutter.proofs.counted_with.Goals as goal

pub returns-then-m : goal.returns-then-m
unfolding counted_with
returns-then-m c = rw c.if-m.true

pub returns-else-m : goal.returns-else-m
unfolding counted_with
returns-else-m c = rw c.if-m.false (sym (add-zero c.args.m.count))
