-- The loop of `files_length`: the bytes counted and those of the files that are left are those of all.
use Rattle.std.proofs.Common.{◌≡◌, ◌+◌, ◌*◌, ◌≤◌, length, map, drop}
use Rattle.lemmas.specs.Lists.{join}
use Rattle.model.specs.File.{key_room}
use Rattle.model.specs.Snapshot.{write_file, file_long}
use Rattle.records.specs.Record.{file_of}
use Rattle.snapshot_write.proofs.files_length.Given as goal

abbrev pub invariant-loop-f : goal.invariant-loop-f
invariant-loop-f l = record {
  fits : l.sum ≤ (file_long + 2 * key_room) * l.f-index;
  counted : l.sum + length (join (map write_file (map file_of (drop l.f-index l.f-items)))) ≡ length (join (map write_file (map file_of l.f-items)));
}
