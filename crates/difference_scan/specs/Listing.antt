-- The list of differences of two snapshots, made of their bytes alone: sections of entries, read and written leniently. Assumes nothing.
use Rattle.std.specs.Prelude.{ℕ, zero, suc, ◌+◌, ◌*◌, Bool, cond, true, false, List, [], ◌∷◌, ◌++◌, map, eqb, take, drop}
use Rattle.lemmas.specs.Lists.{join, up_from}
use Rattle.lemmas.specs.Little.{bytes}
use Rattle.model.specs.File.{level_count}
use Rattle.model.specs.Snapshot.{section, same_bytes, byte_long, count_long, number_long, counter_count, counters_long, next_at}
use Rattle.model.specs.DifferenceBytes.{left_kind, right_kind}
use Rattle.snapshot_parse.specs.Parsing.{number_in}
use Rattle.difference_scan.specs.Scan.{after_all, same_kind, byte_of}
use Rattle.difference_scan.specs.Turns.{entries_of, left_over, place_after}
use Rattle.difference_scan.specs.declared.Places.{Places}
use Rattle.difference_scan.specs.declared.Turn.{Turn}

-- ---- a turn
-- both sides after a turn: the left is passed by where only the right has the part, the right where only the left has it
unfoldable pub advanced_by : Places → Turn → Places
advanced_by p t = record {
  left = place_after right_kind (byte_of t.kind) p.left t.left;
  lefts = left_over right_kind (byte_of t.kind) p.lefts;
  right = place_after left_kind (byte_of t.kind) p.right t.right;
  rights = left_over left_kind (byte_of t.kind) p.rights;
}

-- how many entries there are after a turn
unfoldable pub counted_by : ℕ → ℕ → ℕ
counted_by listed k = cond (eqb k same_kind) listed (listed + 1)

-- ---- the sections
-- the files of k levels from level l on: each level's count, then its files
unfoldable pub level_entries : ℕ → ℕ → List ℕ → List ℕ → List (List ℕ)
level_entries zero l bs cs = []
level_entries (suc k) l bs cs =
    let n : ℕ = number_in count_long bs in
    let m : ℕ = number_in count_long cs in
    entries_of false l n (drop count_long bs) m (drop count_long cs) ++ level_entries k (suc l) (after_all false n (drop count_long bs)) (after_all false m (drop count_long cs))

-- the section of the pointers, which follows that of the counters
abbrev pub pointers_at : List ℕ → List ℕ
pointers_at bs = drop counters_long bs

-- the pointers
unfoldable pub pointer_entries : List ℕ → List ℕ → List (List ℕ)
pointer_entries bs cs = entries_of true 0 (number_in count_long (pointers_at bs)) (drop count_long (pointers_at bs)) (number_in count_long (pointers_at cs)) (drop count_long (pointers_at cs))

-- the sections of the levels, which follow that of the pointers
unfoldable pub levels_at : List ℕ → List ℕ
levels_at bs = after_all true (number_in count_long (pointers_at bs)) (drop count_long (pointers_at bs))

-- the bytes of a counter
unfoldable pub counter_bytes : List ℕ → ℕ → List ℕ
counter_bytes bs i = take number_long (drop (next_at + i * number_long) bs)

-- the entry of a counter: its place, then its bytes; none if it is the same
unfoldable pub counter_entry : ℕ → Bool → List ℕ → List (List ℕ)
counter_entry i same y = cond same [] ((bytes byte_long i ++ y) ∷ [])

-- the counters that differ, of n from place i on
unfoldable pub counter_entries : ℕ → ℕ → List ℕ → List ℕ → List (List ℕ)
counter_entries i n bs cs = join (map (λ j. counter_entry j (same_bytes (counter_bytes bs j) (counter_bytes cs j)) (counter_bytes cs j)) (up_from i n))

-- entries that are bytes already
abbrev pub as_is : List ℕ → List ℕ
as_is x = x

-- the whole list
unfoldable pub list_of : List ℕ → List ℕ → List ℕ
list_of bs cs = section as_is (level_entries level_count 0 (levels_at bs) (levels_at cs)) ++ (section as_is (pointer_entries bs cs) ++ section as_is (counter_entries 0 counter_count bs cs))
