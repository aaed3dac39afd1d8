-- The files that a size pick starts with, as places in a store's array, and the limit of a manual pick. Assumes nothing.
use Rattle.std.specs.Prelude as std
use Rattle.std.specs.Prelude.{None, Some, ℕ, zero, suc, ◌+◌, ◌-◌, min, ◌≡◌, Bool, cond, ◌&&◌, eqb, ltb, length, get_or, take}
use mathlib.Core.List.{List, [], ◌∷◌, Option-to_list}
use Rattle.std.proofs.Math.Option.{Option, none, some, or_else}
use Rattle.lemmas.specs.Lists.{find, sum, up_from}
use Rattle.model.specs.Completion.{completed_at}
use Rattle.model.specs.File.{level, pointer, max_word}
use Rattle.model.specs.Key.{Key, before}
use Rattle.model.specs.Pick.{start_file}
use Rattle.records.specs.declared.FileRecord.{FileRecord}
use Rattle.store.specs.declared.Store.{Store}
use Rattle.store.specs.Store.{pointer_of, state_of}
use Rattle.store.specs.StoreLaws.{past as pastPointer}
use Rattle.pick_found.specs.declared.FoundRun.{FoundRun}
use Rattle.pick_found.specs.FoundRun.{file_at, start_at, end_at, none_at, inputs_of, Known}
use Rattle.bisect.specs.declared.Window.{Window}
use Rattle.pick_plan.specs.declared.Started.{Started}

-- the byte limit of a manual pick's first inputs: none at level 0, M deeper
unfoldable pub limit_of : ℕ → ℕ → ℕ
limit_of m zero = max_word
limit_of m (suc l) = m

-- the first search of a size pick: at level 0 by the range of its file, deeper for second inputs
unfoldable pub search_of : ℕ → ℕ
search_of zero = 0
search_of (suc l) = 1

-- the first of a list of places, if any
unfoldable pub first_place : List ℕ → Option ℕ
first_place [] = none
first_place (i ∷ ps) = some i

-- the place of the first file of a run whose largest is after the pointer, or of the first file if there is no pointer or none is after it
unfoldable pub start_place : Option Key → ℕ → ℕ → List FileRecord → Option ℕ
start_place none from to files = first_place (up_from from (min to (length files) - from))
start_place (some k) from to files =
    let ps = up_from from (min to (length files) - from) in
    or_else (find (λ i. before k (file_at files i).largest) ps) (first_place ps)

-- the same for a level of a store, by its pointer
unfoldable pub start_in : Store → ℕ → Option ℕ
start_in s n = start_place (pointer_of (get_or s.pointers n pastPointer)) (start_at s n) (end_at s n) s.files

-- the place of the first of some files, if there are any
unfoldable pub begin_of : FoundRun → std.Option ℕ
begin_of a = cond (eqb a.count 0) None (Some a.from)

-- what a size pick of a level starts with, known by its places: the start file, completed above level 0, or no files if no work is due
pub record Starts (s : Store) (n : ℕ) (due : Bool) (r : Started) : Type 0 where
  pub start : r.start ≡ begin_of r.first
  pub known : Known s n r.first
  pub are : inputs_of s r.first ≡ completed_at n (level (state_of s) n) (Option-to_list (cond due (start_file (pointer (state_of s) n) (level (state_of s) n)) none))

-- ---- step by step
-- the places of a level, or none if no work is due
unfoldable pub places_of : List ℕ → ℕ → Bool → Window
places_of counts l due = cond due (record { lo = sum (take l counts); hi = sum (take l counts) + get_or counts l 0 }) (record { lo = 0; hi = 0 })

-- the places that are left after the first is seen: none if its file is after the key
unfoldable pub nearer_by : Window → Bool → Window
nearer_by p b = cond b (record { lo = p.lo; hi = p.lo }) (record { lo = p.lo + 1; hi = p.hi })

-- the place found, or n if none is
unfoldable pub place_or : ℕ → Option ℕ → ℕ
place_or n none = n
place_or n (some i) = i

-- the first place whose file's largest is after a key, or the end of the places
unfoldable pub first_after : Key → Window → List FileRecord → ℕ
first_after k p files = place_or p.hi (find (λ i. before k (file_at files i).largest) (up_from p.lo (min p.hi (length files) - p.lo)))

-- the place to start with: i if there is a pointer and i is one of the places, else the first. 0 if there are none
unfoldable pub start_among : Window → Bool → ℕ → ℕ
start_among p pointed i = cond (ltb p.lo p.hi) (cond (pointed && ltb i p.hi) i p.lo) 0

-- one file found, by its place and its record
unfoldable pub one_found : ℕ → FileRecord → FoundRun
one_found i f = record { from = i; count = 1; ends = record { low = f.smallest; high = f.largest }; bytes = f.size }

-- a start with the file at a place, or with nothing if there are no places
unfoldable pub started_by : Window → ℕ → FileRecord → Started
started_by p i f = cond (ltb p.lo p.hi) (record { start = Some i; first = one_found i f }) (record { start = None; first = none_at p.hi })
