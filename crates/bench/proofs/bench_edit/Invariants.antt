-- The count of `bench_edit` is at most how many were asked. Assumes nothing.
use Rattle.std.proofs.Common.{◌≤◌}
use Rattle.bench.proofs.bench_edit.Given as goal

abbrev pub invariant-loop-k : goal.invariant-loop-k
invariant-loop-k l = l.done ≤ l.k
