-- The count of `bases` is at most how many were asked. Assumes nothing.
use Rattle.std.proofs.Common.{◌≤◌}
use Rattle.bench.proofs.bases.Given as goal

abbrev pub invariant-loop-k : goal.invariant-loop-k
invariant-loop-k l = l.others ≤ l.k
