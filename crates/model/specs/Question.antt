-- Questions that change no state: find_file, the cutter, base levels, lookups, the memory table, live files. Assumes nothing.
use Rattle.std.specs.Prelude.{ℕ, zero, suc, ◌+◌, ◌*◌, ◌-◌, Bool, cond, true, false, not, ◌&&◌, ◌||◌, ltb, leb, take, drop}
use mathlib.Core.List.{List, [], ◌∷◌, Option-to_list}
use Rattle.std.proofs.Math.Option.{Option, none, some, map}
use Rattle.lemmas.specs.Lists.{keep, any, all, find, sort, up_from}
use Rattle.model.specs.Key.{Key, user, user_before, before}
use Rattle.model.specs.File.{Profile, File, State, level, total, numbers, all_files}
use Rattle.model.specs.Range.{Range, overlaps}

-- ---- find_file
-- the first file whose largest is not before the key
unfoldable pub find_file : Key → List File → Option File
find_file k fs = find (λ f. not (before f.largest k)) fs

-- the number of files at the front that end before the key
unfoldable pub passed : Key → List File → ℕ
passed k [] = 0
passed k (g ∷ gs) = cond (before g.largest k) (suc (passed k gs)) 0

-- the index of the file found
unfoldable pub find_index : Key → List File → Option ℕ
find_index k fs = map (λ (f : File). passed k fs) (find_file k fs)

-- ---- the cutter
-- its memory: whether a key was seen, its place among the grandparents, the bytes counted
pub record Cutter : Type 0 where
  pub seen : Bool
  pub place : ℕ
  pub count : ℕ

-- a fresh memory
unfoldable pub fresh_cutter : Cutter
fresh_cutter = record { seen = false; place = 0; count = 0 }

-- whether to cut, and the memory after the key
pub record Cut : Type 0 where
  pub answer : Bool
  pub memory : Cutter

-- one step. The key passes the grandparents whose largest is before it, and their bytes count unless it is the first key. If the count is above 10 m it becomes 0
-- and the answer is yes
unfoldable pub cut_step : ℕ → List File → Cutter → Key → Cut
cut_step m gs c k =
    let ahead = drop c.place gs in
    let n = passed k ahead in
    let bytes = c.count + cond c.seen (total (take n ahead)) 0 in
    let over = ltb (10 * m) bytes in
    record { answer = over; memory = record { seen = true; place = c.place + n; count = cond over 0 bytes } }

-- ---- base-level questions
-- the user key lies between the file's smallest and largest user keys, both included
unfoldable pub holds : List ℕ → File → Bool
holds u f = not (user_before u (user f.smallest)) && not (user_before (user f.largest) u)

-- no file at level + 2 or deeper holds the user key
unfoldable pub is_base : Profile → State → ℕ → List ℕ → Bool
is_base p s l u = all (λ j. not (any (holds u) (level s j))) (up_from (l + 2) (p.levels - (l + 2)))

-- the user key is not before the one asked last, if any
unfoldable pub not_before : Option (List ℕ) → List ℕ → Bool
not_before none u = true
not_before (some v) u = not (user_before u v)

-- ---- lookups: numbers of files
-- above level 0: the file that find_file finds, if its smallest user key is not above the key's
unfoldable pub candidate : Key → List File → List ℕ
candidate k fs = numbers (keep (λ f. not (user_before (user k) (user f.smallest))) (Option-to_list (find_file k fs)))

-- the numbers of the files that may hold the key. Level 0 gives every file holding the user key, greatest number first
unfoldable pub lookup : ℕ → List File → Key → List ℕ
lookup zero fs k = sort (λ m n. ltb n m) (numbers (keep (holds (user k)) fs))
lookup (suc l) fs k = candidate k fs

-- ---- the memory table
-- down from level l, n steps at most: while the next level has no overlap and the level after has at most 20971520 overlapping bytes
unfoldable pub descend : State → Range → ℕ → ℕ → ℕ
descend s r l zero = l
descend s r l (suc n) = cond (any (overlaps r) (level s (suc l)) || ltb 20971520 (total (keep (overlaps r) (level s (l + 2))))) l (descend s r (suc l) n)

-- the deepest level for a memory table: 2, and never the last level
unfoldable pub deepest : Profile → ℕ
deepest p = cond (leb 4 p.levels) 2 (p.levels - 2)

-- level 0 if a level 0 file overlaps, otherwise as far down as allowed
unfoldable pub memtable_level : Profile → State → Range → ℕ
memtable_level p s r = cond (any (overlaps r) (level s 0)) 0 (descend s r 0 (deepest p))

-- ---- live files
-- the numbers of all files, rising
unfoldable pub live_files : State → List ℕ
live_files s = sort ltb (numbers (all_files s))
