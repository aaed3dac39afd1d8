-- The loop of `levels_at`: after the pointers that are left the levels begin.
use Rattle.std.proofs.Common.{◌≡◌, ◌-◌, ◌≤◌, length, drop, true}
use Rattle.difference_scan.specs.Scan.{after_all}
use Rattle.difference_scan.specs.Listing.{levels_at}
use Rattle.difference_list.proofs.levels_at.Given as goal

abbrev pub invariant-loop : goal.invariant-loop
invariant-loop l = record {
  within : l.next ≤ length l.src;
  rest : after_all true (l.n - l.counter) (drop l.next l.src) ≡ levels_at l.src;
}
