-- A list of differences applied to a left state. Assumes nothing.
use Rattle.std.specs.Prelude.{ℕ, cond, not, List, [], ◌∷◌, ◌++◌, map, eqb, length}
use Rattle.std.proofs.Math.Option.{Option}
use Rattle.lemmas.specs.Lists.{push, keep, any, sort, join, up_from}
use Rattle.model.specs.Key.{Key}
use Rattle.model.specs.File.{File, State, level, pointer, by_smallest}
use Rattle.model.specs.Snapshot.{by_number, from_five, counter_count}
use Rattle.model.specs.Difference.{Difference, only_left, only_right, changed, pointer_is, counter_is, names, counter_at}

-- the file that an entry brings to a level, if it does
unfoldable pub brings : ℕ → Difference → List File
brings l (only_left m k) = []
brings l (only_right m f) = push (eqb m l) f []
brings l (changed m f) = push (eqb m l) f []
brings l (pointer_is m o) = []
brings l (counter_is i v) = []

-- a level: its files that no entry names, and those that entries bring, in the order in which a snapshot is read
unfoldable pub patched_level : List Difference → ℕ → List File → List File
patched_level ds l fs = sort by_smallest (sort by_number (keep (λ f. not (any (names l f.number) ds)) fs ++ join (map (brings l) ds)))

-- an entry's pointer for a level, or else the one that was
unfoldable pub pointer_by : ℕ → Difference → Option Key → Option Key
pointer_by l (only_left m k) old = old
pointer_by l (only_right m f) old = old
pointer_by l (changed m f) old = old
pointer_by l (pointer_is m o) old = cond (eqb m l) o old
pointer_by l (counter_is i v) old = old

-- the pointer of a level after a list
unfoldable pub pointer_after : ℕ → List Difference → Option Key → Option Key
pointer_after l [] old = old
pointer_after l (d ∷ ds) old = pointer_after l ds (pointer_by l d old)

-- an entry's number for a counter, or else the one that was
unfoldable pub counter_by : ℕ → Difference → ℕ → ℕ
counter_by i (only_left m k) old = old
counter_by i (only_right m f) old = old
counter_by i (changed m f) old = old
counter_by i (pointer_is m o) old = old
counter_by i (counter_is j v) old = cond (eqb j i) v old

-- a counter after a list
unfoldable pub counter_after : ℕ → List Difference → ℕ → ℕ
counter_after i [] old = old
counter_after i (d ∷ ds) old = counter_after i ds (counter_by i d old)

-- the state that a list makes of a left state
unfoldable pub patched : State → List Difference → State
patched s ds = record {
  files = map (λ l. patched_level ds l (level s l)) (up_from 0 (length s.files));
  pointers = map (λ l. pointer_after l ds (pointer s l)) (up_from 0 (length s.pointers));
  counters = from_five (map (λ i. counter_after i ds (counter_at s i)) (up_from 0 counter_count));
}
