-- The loop of `pointers_length`: the bytes counted and those of the pointers that are left are those of all.
use Rattle.std.proofs.Common.{◌≡◌, ◌+◌, ◌*◌, ◌≤◌, length, map}
use Rattle.lemmas.specs.Lists.{join}
use Rattle.model.specs.File.{key_room}
use Rattle.model.specs.Snapshot.{write_entry, entry_long}
use Rattle.snapshot_parts.specs.LayingLaws.{set_from}
use Rattle.snapshot_write.proofs.pointers_length.Given as goal

abbrev pub invariant-loop-p : goal.invariant-loop-p
invariant-loop-p l = record {
  fits : l.sum ≤ (entry_long + key_room) * l.p-index;
  counted : l.sum + length (join (map write_entry (set_from l.p-index l.fn.pointers))) ≡ length (join (map write_entry (set_from 0 l.fn.pointers)));
}
