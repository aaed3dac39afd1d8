-- The loop of `put_pointers`: writing the pointers that are set from this level on gives all of them.
use Rattle.std.proofs.Common.{◌≡◌, ◌+◌, length, map}
use Rattle.lemmas.specs.Lists.{join}
use Rattle.lemmas.specs.Slices.{put}
use Rattle.model.specs.Snapshot.{write_entry}
use Rattle.snapshot_parts.specs.LayingLaws.{set_from}
use Rattle.snapshot_parts.proofs.put_pointers.Given as goal

abbrev pub invariant-loop-level : goal.invariant-loop-level
invariant-loop-level l = record {
  to_come : l.next + length (join (map write_entry (set_from l.level l.p-items))) ≡ l.initial.next + length (join (map write_entry (set_from 0 l.p-items)));
  written : put l.out l.next (join (map write_entry (set_from l.level l.p-items))) ≡ put l.initial.out l.initial.next (join (map write_entry (set_from 0 l.p-items)));
}
