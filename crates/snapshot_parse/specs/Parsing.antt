-- What bytes hold, parsed leniently: missing bytes count as none, and lengths and counts are cut to their room. Assumes nothing.
use Rattle.std.specs.Prelude.{ℕ, zero, suc, ◌-◌, ◌≤◌, min, ◌≡◌, Bool, List, [], ◌∷◌, length, get_or, set, take, drop, replicate}
use Rattle.std.proofs.Math.Option.{none, some}
use Rattle.lemmas.specs.Lists.{sort, up_from}
use Rattle.lemmas.specs.Little.{number}
use Rattle.model.specs.File as model
use Rattle.model.specs.File.{File, State, by_smallest, key_room, level_count, max_files}
use Rattle.model.specs.Snapshot.{Entry, placed, counters_long, byte_long, count_long, number_long, next_at, manifest_at, last_at, log_at, previous_at, keys_at}
use Rattle.records.specs.Record.{file_of, past}
use Rattle.records.specs.declared.FileRecord.{FileRecord}
use Rattle.store.specs.Store.{pointer_record}
use Rattle.store.specs.declared.Pointer.{Pointer}

-- `at` is a place within the bytes, and from there on they are bs
pub record At (src : List ℕ) (at : ℕ) (bs : List ℕ) : Type 0 where
  pub within : at ≤ length src
  pub rest : drop at src ≡ bs

-- a number of w bytes
unfoldable pub number_in : ℕ → List ℕ → ℕ
number_in w bs = number (take w bs)

-- the length of a key, cut to its room
unfoldable pub key_length : List ℕ → ℕ
key_length bs = min (number_in byte_long bs) key_room

-- the bytes of a key
unfoldable pub key_in : List ℕ → List ℕ
key_in bs = take (key_length bs) (drop byte_long bs)

-- the bytes after it
unfoldable pub after_key : List ℕ → List ℕ
after_key bs = drop (key_length bs) (drop byte_long bs)

-- a file: number, size, smallest and largest key
unfoldable pub file_in : List ℕ → File
file_in bs = record { number = number_in number_long bs; size = number_in number_long (drop number_long bs); smallest = key_in (drop keys_at bs); largest = key_in (after_key (drop keys_at bs)) }

-- the bytes after it
unfoldable pub after_file : List ℕ → List ℕ
after_file bs = after_key (after_key (drop keys_at bs))

-- a pointer: its level, then its key
unfoldable pub entry_in : List ℕ → Entry
entry_in bs = record { level = number_in byte_long bs; key = key_in (drop byte_long bs) }

-- the bytes after it
unfoldable pub after_entry : List ℕ → List ℕ
after_entry bs = after_key (drop byte_long bs)

-- n parts one after another. `part` reads one, `after` gives the bytes after it
module _ {A : Type 0} (part : List ℕ → A) (after : List ℕ → List ℕ) where
  -- the parts
  unfoldable pub parts_in : ℕ → List ℕ → List A
  parts_in zero bs = []
  parts_in (suc n) bs = part bs ∷ parts_in n (after bs)

  -- the bytes after them
  unfoldable pub after_parts : ℕ → List ℕ → List ℕ
  after_parts zero bs = bs
  after_parts (suc n) bs = after_parts n (after bs)

-- n files
abbrev pub files_in : ℕ → List ℕ → List File
files_in n bs = parts_in file_in after_file n bs

-- the bytes after them
abbrev pub after_files : ℕ → List ℕ → List ℕ
after_files n bs = after_parts file_in after_file n bs

-- the five counters, which follow their count
unfoldable pub counters_in : List ℕ → model.Counters
counters_in bs = record {
  next = number_in number_long (drop next_at bs);
  manifest = number_in number_long (drop manifest_at bs);
  last = number_in number_long (drop last_at bs);
  log = number_in number_long (drop log_at bs);
  previous = number_in number_long (drop previous_at bs);
}

-- the count of pointers, at most one for each level
unfoldable pub entry_count : List ℕ → ℕ
entry_count bs = min (number_in count_long bs) level_count

-- the pointers of the section
unfoldable pub entries_in : List ℕ → List Entry
entries_in bs = parts_in entry_in after_entry (entry_count bs) (drop count_long bs)

-- the bytes after it
unfoldable pub after_entries : List ℕ → List ℕ
after_entries bs = after_parts entry_in after_entry (entry_count bs) (drop count_long bs)

-- the records of pointers, each put in its level's place
unfoldable pub placed_records : List Entry → List Pointer → List Pointer
placed_records [] ps = ps
placed_records (e ∷ es) ps = placed_records es (set ps e.level (pointer_record (some e.key)))

-- the sections of k levels with room for this many files: each sorted by smallest key, with ties in reading order
unfoldable pub levels_in : ℕ → ℕ → List ℕ → List (List File)
levels_in zero room bs = []
levels_in (suc k) room bs =
    let n : ℕ = min (number_in count_long bs) room in
    sort by_smallest (files_in n (drop count_long bs)) ∷ levels_in k (room - n) (after_files n (drop count_long bs))

-- the state that bytes hold
unfoldable pub state_in : List ℕ → State
state_in bs = record {
  files = levels_in level_count max_files (after_entries (drop counters_long bs));
  pointers = placed (entries_in (drop counters_long bs)) (replicate level_count none);
  counters = counters_in bs;
}

-- r has the smaller smallest key
unfoldable pub smaller : FileRecord → FileRecord → Bool
smaller r q = by_smallest (file_of r) (file_of q)

-- the record at place i has the smaller smallest key
unfoldable pub smaller_at : List FileRecord → ℕ → ℕ → Bool
smaller_at files i j = smaller (get_or files i past) (get_or files j past)

-- the places from one up to another by smallest key, with ties in their order
unfoldable pub places_to : List FileRecord → ℕ → ℕ → List ℕ
places_to files from to = sort (smaller_at files) (up_from from (to - from))
