-- The loop of `run_long`: those counted, and those that count of the rest, are all that count.
use Rattle.std.proofs.Common.{◌≡◌, ◌+◌, ◌-◌, ◌≤◌, length, drop}
use Rattle.patch_scan.specs.Listed.{run_long}
use Rattle.patch_scan.proofs.run_long.Given as goal

abbrev pub invariant-loop-i : goal.invariant-loop-i
invariant-loop-i l = record {
  within : l.next ≤ length l.list;
  counted : l.i + run_long l.level (l.n - l.i) (drop l.next l.list) ≡ run_long l.level l.n (drop l.at l.list);
}
