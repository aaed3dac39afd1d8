-- The loop of `section_end`: after the entries that are left comes what comes after all.
use Rattle.std.proofs.Common.{◌≡◌, ◌-◌, ◌≤◌, length, drop}
use Rattle.model.specs.Snapshot.{count_long}
use Rattle.snapshot_parse.specs.Parsing.{number_in}
use Rattle.patch_scan.specs.Listed.{after_each}
use Rattle.patch_scan.proofs.section_end.Given as goal

abbrev pub invariant-loop : goal.invariant-loop
invariant-loop l = record {
  within : l.next ≤ length l.list;
  rest : after_each l.pointer (l.n - l.counter) (drop l.next l.list) ≡ after_each l.pointer (number_in count_long (drop l.at l.list)) (drop count_long (drop l.at l.list));
}
