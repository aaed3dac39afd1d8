-- The number that `number` has read so far is small enough for a digit more. Assumes nothing.
use Rattle.std.proofs.Common.{◌≤◌}
use Rattle.bench.proofs.number.Given as goal

abbrev pub invariant-loop-c : goal.invariant-loop-c
invariant-loop-c l = l.x ≤ 10000000000009
