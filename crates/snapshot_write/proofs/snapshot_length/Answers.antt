-- `snapshot_length` meets its contract: the length for a fresh store, the pointers that are set, the files. Assumes nothing.
use Rattle.std.proofs.Common.{◌≡◌, ◌+◌, ◌≤◌, ℕ, true, map, length, take, min, arith}
use Rattle.lemmas.specs.Lists.{all, join, sum}
use Rattle.model.specs.File.{max_files}
use Rattle.model.specs.Snapshot.{write_file, write_entry, entries, encode, longest_snapshot, fresh_long}
use Rattle.records.specs.Record.{file_of, well_record}
use Rattle.levels.specs.LevelsLaws as levels
use Rattle.store.specs.Store.{pointer_of, state_of, well_store, StoreShape}
use Rattle.store.specs.declared.Store.{Store}
use Rattle.store.proofs.Shape.{shape}
use Rattle.snapshot_write.specs.WritingLaws.{encode_long, snapshot_most, store_pointers, store_levels, levels_records}
use Rattle.snapshot_write.proofs.snapshot_length.Goals as goal

-- how many files a store has, that their records are well-formed, and how long its snapshot is
facts : (s : Store) (n : ℕ) → StoreShape s → well_store s ≡ true → n ≡ min (sum s.counts) (max_files + 1) →
    (n ≤ max_files) × (all well_record (take n s.files) ≡ true) × (length (encode (state_of s)) ≤ longest_snapshot)
    × (length (encode (state_of s)) ≡ fresh_long + length (join (map write_entry (entries 0 (map pointer_of s.pointers)))) + length (join (map write_file (map file_of (take n s.files)))))
facts s n q h e =
    let w = store_levels s q.pointers h in
    let room = ((levels.well_says s.files s.counts).0 w).sound.room in
    let counted : n ≡ sum s.counts = omega arith in
    rw counted (room, levels_records s.files s.counts q.files w, snapshot_most s h, encode_long s q.counts (omega arith))

pub pointers_length-requires : goal.pointers_length-requires
pointers_length-requires c = store_pointers c.args.s (shape c.args.s _ c.well_formed.0).pointers c.requires

pub overflow_add-result : goal.overflow_add-result
overflow_add-result c =
    let f = facts c.args.s c.counted-n.result (shape c.args.s _ c.well_formed.0) c.requires c.counted-n.ensures in
    omega (arith, f.2, f.3, c.pointers_length.ensures)

pub files_length-requires : goal.files_length-requires
files_length-requires c =
    let f = facts c.args.s c.counted-n.result (shape c.args.s _ c.well_formed.0) c.requires c.counted-n.ensures in
    (f.0, f.1)

pub overflow_add-result-2 : goal.overflow_add-result-2
overflow_add-result-2 c =
    let f = facts c.args.s c.counted-n.result (shape c.args.s _ c.well_formed.0) c.requires c.counted-n.ensures in
    omega (arith, f.2, f.3, c.pointers_length.ensures, c.files_length.ensures)

pub returns : goal.returns
returns c =
    let f = facts c.args.s c.counted-n.result (shape c.args.s _ c.well_formed.0) c.requires c.counted-n.ensures in
    omega (arith, f.3, c.pointers_length.ensures, c.files_length.ensures)
