-- Snapshots: the bytes that a state writes, and the state that bytes read as. Assumes nothing.
use Rattle.std.specs.Prelude.{ℕ, zero, suc, ◌+◌, ◌*◌, Bool, cond, true, false, ◌&&◌, List, [], ◌∷◌, ◌++◌, map, eqb, ltb, leb, length, get_or, replicate, set, take, drop}
use Rattle.std.proofs.Math.Option.{Option, none, some}
use Rattle.lemmas.specs.Lists.{sort, join, up_from}
use Rattle.lemmas.specs.Little.{number, bytes}
use Rattle.model.specs.Key.{Key}
use Rattle.model.specs.File.{Profile, max_files, level_count, key_room, File, Counters, State, level, by_smallest, well_formed}

-- f has the lower number
unfoldable pub by_number : File → File → Bool
by_number f g = ltb f.number g.number

-- ---- the lengths of a snapshot's parts, and their places
-- the bytes of a count
abbrev pub count_long : ℕ
count_long = 2

-- the bytes of a number
abbrev pub number_long : ℕ
number_long = 8

-- the byte of a level or of a key's length
abbrev pub byte_long : ℕ
byte_long = 1

-- the number of counters
abbrev pub counter_count : ℕ
counter_count = 5

-- the place of each counter; they begin a snapshot, after their count
abbrev pub next_at : ℕ
next_at = count_long

abbrev pub manifest_at : ℕ
manifest_at = next_at + number_long

abbrev pub last_at : ℕ
last_at = manifest_at + number_long

abbrev pub log_at : ℕ
log_at = last_at + number_long

abbrev pub previous_at : ℕ
previous_at = log_at + number_long

-- the section of the counters
abbrev pub counters_long : ℕ
counters_long = previous_at + number_long

-- the snapshot of a fresh store: counters, and the counts of pointers and of each level
abbrev pub fresh_long : ℕ
fresh_long = counters_long + count_long + level_count * count_long

-- a pointer, without the bytes of its key
abbrev pub entry_long : ℕ
entry_long = byte_long + byte_long

-- the place of a file's keys, after its number and its size
abbrev pub keys_at : ℕ
keys_at = 2 * number_long

-- a file, without the bytes of its keys
abbrev pub file_long : ℕ
file_long = keys_at + 2 * byte_long

-- the longest snapshot
abbrev pub longest_snapshot : ℕ
longest_snapshot = fresh_long + level_count * (entry_long + key_room) + max_files * (file_long + 2 * key_room)

-- ---- writing
-- a key: a length byte, then its bytes
unfoldable pub write_key : Key → List ℕ
write_key k = bytes byte_long (length k) ++ k

-- a file: number 8 bytes, size 8, length 1, smallest, length 1, largest
unfoldable pub write_file : File → List ℕ
write_file f = bytes number_long f.number ++ bytes number_long f.size ++ write_key f.smallest ++ write_key f.largest

-- a pointer that is set, with its level
pub record Entry : Type 0 where
  pub level : ℕ
  pub key : Key

-- the pointers that are set, by rising level, from level l on
unfoldable pub entries : ℕ → List (Option Key) → List Entry
entries l [] = []
entries l (none ∷ ps) = entries (suc l) ps
entries l (some k ∷ ps) = record { level = l; key = k } ∷ entries (suc l) ps

-- a pointer: level 1 byte, key length 1 byte, key
unfoldable pub write_entry : Entry → List ℕ
write_entry e = bytes byte_long e.level ++ write_key e.key

-- a section: a 2-byte count, then its parts
unfoldable pub section : {A : Type 0} → (A → List ℕ) → List A → List ℕ
section w xs = bytes count_long (length xs) ++ join (map w xs)

-- a level: its files by rising number
unfoldable pub write_level : List File → List ℕ
write_level fs = section write_file (sort by_number fs)

-- the counters in their order: next, manifest, last sequence, log, previous log
unfoldable pub five_of : Counters → List ℕ
five_of c = c.next ∷ c.manifest ∷ c.last ∷ c.log ∷ c.previous ∷ []

-- the snapshot of a state. It has as many levels as the full machine, whatever the profile
unfoldable pub encode : State → List ℕ
encode s = section (bytes number_long) (five_of s.counters) ++ section write_entry (entries 0 s.pointers) ++ join (map (λ l. write_level (level s l)) (up_from 0 level_count))

-- ---- reading
-- a value that was read, and the bytes that are left
pub record Read (A : Type 0) : Type 0 where
  pub value : A
  pub rest : List ℕ

-- a reader of bytes
abbrev pub Reader : Type 0 → Type 0
Reader A = List ℕ → Option (Read A)

module _ {A B : Type 0} where
  -- goes on with the value, if there is one
  unfoldable pub onward : Option (Read A) → (A → Reader B) → Option (Read B)
  onward none f = none
  onward (some r) f = f r.value r.rest

  infixl 10 ◌>>=◌
  -- one reader after another
  unfoldable pub ◌>>=◌ : Reader A → (A → Reader B) → Reader B
  ◌>>=◌ m f = λ bs. onward (m bs) f

module _ {A : Type 0} where
  -- returns a value and reads no byte
  unfoldable pub give : A → Reader A
  give a = λ bs. some (record { value = a; rest = bs })

module _ {A : Type 0} where
  -- n parts one after another
  unfoldable pub times : ℕ → Reader A → Reader (List A)
  times zero r = give []
  times (suc n) r = r >>= λ a. times n r >>= λ as'. give (a ∷ as')

-- n bytes, if there are as many
unfoldable pub read_bytes : ℕ → Reader (List ℕ)
read_bytes n bs = cond (leb n (length bs)) (some (record { value = take n bs; rest = drop n bs })) none

-- a number of w bytes
unfoldable pub read_number : ℕ → Reader ℕ
read_number w = read_bytes w >>= λ bs. give (number bs)

-- a length byte, then a key of that length
unfoldable pub read_key : Reader Key
read_key = read_number byte_long >>= λ n. read_bytes n

-- a file
unfoldable pub read_file : Reader File
read_file = do
  n ← read_number number_long
  z ← read_number number_long
  a ← read_key
  b ← read_key
  give (record { number = n; size = z; smallest = a; largest = b })

-- a section: its count, then its parts
unfoldable pub read_section : {A : Type 0} → Reader A → Reader (List A)
read_section r = read_number count_long >>= λ n. times n r

-- a level: its files, which are written by number, sorted by smallest key. So ties stay by number
unfoldable pub read_level : Reader (List File)
read_level = read_section read_file >>= λ fs. give (sort by_smallest fs)

-- a pointer
unfoldable pub read_pointer : Reader Entry
read_pointer = do
  l ← read_number byte_long
  k ← read_key
  give (record { level = l; key = k })

-- pointers put in their places
unfoldable pub placed : List Entry → List (Option Key) → List (Option Key)
placed [] ps = ps
placed (e ∷ es) ps = placed es (set ps e.level (some e.key))

-- the counters from five numbers
unfoldable pub from_five : List ℕ → Counters
from_five ns = record { next = get_or ns 0 0; manifest = get_or ns 1 0; last = get_or ns 2 0; log = get_or ns 3 0; previous = get_or ns 4 0 }

-- a state: counters, pointers, levels
unfoldable pub read_state : Profile → Reader State
read_state p = do
  ns ← read_section (read_number number_long)
  es ← read_section read_pointer
  fss ← times level_count read_level
  give (record { files = take p.levels fss; pointers = placed es (replicate p.levels none); counters = from_five ns })

-- two lists of bytes are equal
unfoldable pub same_bytes : List ℕ → List ℕ → Bool
same_bytes [] [] = true
same_bytes [] (y ∷ ys) = false
same_bytes (x ∷ xs) [] = false
same_bytes (x ∷ xs) (y ∷ ys) = eqb x y && same_bytes xs ys

-- bytes are a snapshot if the state they read as is well-formed and writes these very bytes
unfoldable pub accept : Profile → List ℕ → Option (Read State) → Option State
accept p bs none = none
accept p bs (some r) = cond (well_formed p r.value && same_bytes (encode r.value) bs) (some r.value) none

-- the state that bytes hold, if they are a snapshot. Nothing may follow it
unfoldable pub decode : Profile → List ℕ → Option State
decode p bs = accept p bs (read_state p bs)
