-- The room in which snapshots are kept under letters. Assumes nothing.
use Rattle.std.specs.Prelude.{ℕ, ◌+◌, ◌*◌}
use Rattle.model.specs.Snapshot.{count_long, longest_snapshot}

-- a slot: a length, then the longest snapshot
abbrev pub slot_long : ℕ
slot_long = count_long + longest_snapshot

-- the slots of both letters
abbrev pub kept_long : ℕ
kept_long = 2 * slot_long
