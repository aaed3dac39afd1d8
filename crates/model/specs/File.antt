-- Files, levels and the state of a store, in the words of document 01. Nothing here depends on how code keeps them. Assumes nothing.
use Rattle.std.specs.Prelude.{ℕ, zero, suc, ◌+◌, ◌-◌, ◌*◌, ◌/◌, ◌^◌, max, Bool, true, not, ◌&&◌, List, [], ◌∷◌, map, eqb, ltb, leb, length, get_or, replicate, set}
use Rattle.std.proofs.Math.Option.{Option, none, some}
use Rattle.lemmas.specs.Lists.{all, chain, join, distinct, sum}
use Rattle.model.specs.Key.{Key, trailer_bytes, good_key, before}

-- ---- the numbers of the full machine, each written once. All others are computed from them, here and in the other crates
-- the most files of a version
abbrev pub max_files : ℕ
max_files = 256

-- the number of levels. A snapshot always has as many level sections, whatever the profile
abbrev pub level_count : ℕ
level_count = 7

-- the last level
abbrev pub last_level : ℕ
last_level = level_count - 1

-- the most bytes of a user key
abbrev pub longest_user : ℕ
longest_user = 32

-- the most deletions of an edit
abbrev pub max_deletions : ℕ
max_deletions = 256

-- the most additions of an edit
abbrev pub max_additions : ℕ
max_additions = 64

-- the most pointers of an edit
abbrev pub max_pointers : ℕ
max_pointers = 16

-- the most bytes of an internal key: a user key and its trailer
abbrev pub key_room : ℕ
key_room = longest_user + trailer_bytes

-- the largest size of a file
abbrev pub max_size : ℕ
max_size = 2 ^ 40

-- the most bytes that the files of a version can have
abbrev pub max_bytes : ℕ
max_bytes = max_files * max_size

-- the largest counter
abbrev pub max_counter : ℕ
max_counter = 2 ^ 56 - 1

-- the largest number of 64 bits
abbrev pub max_word : ℕ
max_word = 2 ^ 64 - 1

-- the numbers that may differ between machines: levels, files of a version, bytes of a user key, entries of an edit
pub record Profile : Type 0 where
  pub levels : ℕ
  pub room : ℕ
  pub longest : ℕ
  pub deletions : ℕ
  pub additions : ℕ
  pub pointers : ℕ

-- the profile of document 01
unfoldable pub full : Profile
full = record { levels = level_count; room = max_files; longest = longest_user; deletions = max_deletions; additions = max_additions; pointers = max_pointers }

-- a file: number, size, smallest and largest internal key. Its allowed seeks follow from its size
pub record File : Type 0 where
  pub number : ℕ
  pub size : ℕ
  pub smallest : Key
  pub largest : Key

-- the five counters: next file number, manifest, last sequence, log number, previous log number
pub record Counters : Type 0 where
  pub next : ℕ
  pub manifest : ℕ
  pub last : ℕ
  pub log : ℕ
  pub previous : ℕ

-- the state of a store: the files of each level, a pointer for each level if set, the counters
pub record State : Type 0 where
  pub files : List (List File)
  pub pointers : List (Option Key)
  pub counters : Counters

-- the files of a level, by its number
unfoldable pub level : State → ℕ → List File
level s l = get_or s.files l []

-- the pointer of a level, if set
unfoldable pub pointer : State → ℕ → Option Key
pointer s l = get_or s.pointers l none

-- allowed seeks: size / 16384 rounded down, at least 100
unfoldable pub seeks : ℕ → ℕ
seeks size = max 100 (size / 16384)

-- the sum of the files' sizes
unfoldable pub total : List File → ℕ
total fs = sum (map (λ (f : File). f.size) fs)

-- the numbers of a list of files
unfoldable pub numbers : List File → List ℕ
numbers fs = map (λ (f : File). f.number) fs

-- the files of all levels
unfoldable pub all_files : State → List File
all_files s = join s.files

-- f is before g by smallest key
unfoldable pub by_smallest : File → File → Bool
by_smallest f g = before f.smallest g.smallest

-- ---- well-formed
-- a file: keys of right length and type, smallest not after largest, size at most 2^40
unfoldable pub good_file : Profile → File → Bool
good_file p f = good_key p.longest f.smallest && good_key p.longest f.largest
    && not (before f.largest f.smallest) && leb f.size max_size

-- each file's largest key is strictly before the next one's smallest
abbrev pub apart : List File → Bool
apart fs = chain (λ (f g : File). before f.largest g.smallest) fs

-- a level is in order: level 0 by smallest key with ties in any order, deeper levels strictly apart
unfoldable pub in_order : ℕ → List File → Bool
in_order zero fs = chain (λ f g. not (by_smallest g f)) fs
in_order (suc l) fs = apart fs

-- survivors do not collide. Level 0 is not asked
unfoldable pub no_collision : ℕ → List File → Bool
no_collision zero fs = true
no_collision (suc l) fs = apart fs

-- each list passes the test of its level, counted from l on
unfoldable pub levelwise : (ℕ → List File → Bool) → ℕ → List (List File) → Bool
levelwise p l [] = true
levelwise p l (fs ∷ rest) = p l fs && levelwise p (suc l) rest

-- a pointer that is set is a good key
unfoldable pub good_pointer : Profile → Option Key → Bool
good_pointer p none = true
good_pointer p (some k) = good_key p.longest k

-- counters at most 2^56 - 1
unfoldable pub good_counters : Counters → Bool
good_counters c = all (λ n. leb n max_counter) (c.next ∷ c.manifest ∷ c.last ∷ c.log ∷ c.previous ∷ [])

-- the levels: as many as the profile has, files good, numbers of 64 bits, no number twice, room for all, each level in order
unfoldable pub good_files : Profile → List (List File) → Bool
good_files p fss = eqb (length fss) p.levels
    && all (λ f. good_file p f && ltb f.number (2 ^ 64)) (join fss)
    && distinct (numbers (join fss))
    && leb (length (join fss)) p.room
    && levelwise in_order 0 fss

-- the state is well-formed
unfoldable pub well_formed : Profile → State → Bool
well_formed p s = good_files p s.files
    && eqb (length s.pointers) p.levels && all (good_pointer p) s.pointers
    && good_counters s.counters

-- ---- the fresh store
-- no files or pointers, next file number 2, other counters 0
unfoldable pub fresh : Profile → State
fresh p = record {
  files = replicate p.levels [];
  pointers = replicate p.levels none;
  counters = record { next = 2; manifest = 0; last = 0; log = 0; previous = 0 };
}

-- ---- setting a part
-- the same state with one pointer set
unfoldable pub set_pointer : State → ℕ → Key → State
set_pointer s l k = record { files = s.files; pointers = set s.pointers l (some k); counters = s.counters }

-- the same state with other counters
unfoldable pub set_counters : State → Counters → State
set_counters s c = record { files = s.files; pointers = s.pointers; counters = c }
