-- A pick from one search to the next: what each search looks for, how its result is kept, and what is known by then. Assumes nothing.
use Rattle.std.specs.Prelude.{ℕ, zero, suc, ◌+◌, ◌*◌, ◌-◌, ◌≤◌, ◌≡◌, Bool, true, false, not, ◌&&◌, cond, ◌⊎◌, List, [], ◌∷◌, ◌++◌, eqb, ltb, get_or, take}
use Rattle.lemmas.specs.Lists.{keep, sum}
use Rattle.model.specs.File.{File, full, level, level_count, max_bytes, max_word}
use Rattle.model.specs.Completion.{completed, completed_at, inputs}
use Rattle.model.specs.Pick.{up_to, grown_first, grand_of}
use Rattle.model.specs.Range.{Range, between, overlaps, overlapping, range_of, widen}
use Rattle.records.specs.Run.{run}
use Rattle.records.specs.declared.FileRecord.{FileRecord}
use Rattle.levels.specs.Levels.{laid_out}
use Rattle.store.specs.declared.Store.{Store}
use Rattle.store.specs.Store.{state_of}
use Rattle.pick_range.specs.declared.Span.{Span}
use Rattle.pick_range.specs.Ranges.{span_of, span_record}
use Rattle.pick_found.specs.declared.FoundRun.{FoundRun}
use Rattle.pick_found.specs.FoundRun.{none_at, inputs_of, Gathered, HeldAt, Summed, range_found, joint_found}
use Rattle.pick_search.specs.declared.Choice.{Choice}
use Rattle.pick_search.specs.declared.Question.{Question}
use Rattle.pick_search.specs.declared.Runs.{Runs}

-- a pick before its first search
unfoldable pub begun : ℕ → ℕ → Span → ℕ → Choice
begun l m r most = record { level = l; maximum = m; span = r; most = most; first = none_at 0; second = none_at 0; grown = none_at 0; grand = none_at 0 }

-- ---- what the k-th search looks for
-- its level: the pick's, the next, the pick's again, the next, the one after
unfoldable pub asked_level : ℕ → ℕ → ℕ
asked_level l zero = l
asked_level l (suc zero) = l + 1
asked_level l (suc (suc zero)) = l
asked_level l (suc (suc (suc zero))) = l + 1
asked_level l (suc (suc (suc (suc k)))) = l + 2

-- its range: the pick's, the first inputs', the joint range, the grown files', the joint range
unfoldable pub asked_span : Choice → ℕ → Span
asked_span c zero = c.span
asked_span c (suc zero) = range_found c.first
asked_span c (suc (suc zero)) = joint_found c.first c.second
asked_span c (suc (suc (suc zero))) = range_found c.grown
asked_span c (suc (suc (suc (suc k)))) = joint_found c.first c.second

-- its byte limit: the pick's, then none
unfoldable pub asked_most : Choice → ℕ → ℕ
asked_most c zero = c.most
asked_most c (suc k) = max_word

-- whether the files that it finds are completed, by the level that it searches: above level 0, and not for grandparents
unfoldable pub asked_edges : ℕ → ℕ → Bool
asked_edges l k = not (eqb l 0) && not (eqb k 4)

-- its question. A level past the last has no places
unfoldable pub question_of : Choice → ℕ → List ℕ → Question
question_of c k counts =
    let l = asked_level c.level k in
    let from = cond (ltb l level_count) (sum (take l counts)) 0 in
    record { from = from; to = from + get_or counts l 0; widens = eqb l 0; edges = asked_edges l k; span = asked_span c k; most = asked_most c k }

-- the question for the files that follow those found at a level, up to the level's end. It has no range
unfoldable pub edge_question : ℕ → ℕ → Question
edge_question l to = record { from = to; to = to; widens = false; edges = asked_edges l 0; span = span_record (between [] []); most = 0 }

-- the range to search by: the least widening if the question widens, else its own range
abbrev pub Widest : Question → List FileRecord → Range → Type 0
Widest a files w = ((a.widens ≡ true) × (w ≡ widen (run a.from a.to files) (span_of a.span))) ⊎ ((a.widens ≡ false) × (w ≡ span_of a.span))

-- the result of a search by a range: all files that overlap it, up to the limit
abbrev pub Finds : Question → List FileRecord → Range → FoundRun → Type 0
Finds a files w f = Gathered files a.from a.to f × (run f.from (f.from + f.count) files ≡ up_to a.most 0 (keep (overlaps w) (run a.from a.to files)))

-- ---- how the result is kept
-- the grown files replace the first inputs
unfoldable pub grows_by : Choice → ℕ → Bool
grows_by c again = not (eqb c.second.count 0) && ltb c.first.count c.grown.count
    && ltb (c.grown.bytes + c.second.bytes) (25 * c.maximum) && eqb again c.second.count

-- the pick with the result of its k-th search: first inputs, second inputs, grown files, whether these replace the first inputs, grandparents
unfoldable pub filled_with : Choice → ℕ → FoundRun → Choice
filled_with c zero f = record { level = c.level; maximum = c.maximum; span = c.span; most = c.most; first = f; second = c.second; grown = c.grown; grand = c.grand }
filled_with c (suc zero) f = record { level = c.level; maximum = c.maximum; span = c.span; most = c.most; first = c.first; second = f; grown = c.grown; grand = c.grand }
filled_with c (suc (suc zero)) f = record { level = c.level; maximum = c.maximum; span = c.span; most = c.most; first = c.first; second = c.second; grown = f; grand = c.grand }
filled_with c (suc (suc (suc zero))) f =
    record { level = c.level; maximum = c.maximum; span = c.span; most = c.most; first = cond (grows_by c f.count) c.grown c.first; second = c.second; grown = c.grown; grand = c.grand }
filled_with c (suc (suc (suc (suc k)))) f = record { level = c.level; maximum = c.maximum; span = c.span; most = c.most; first = c.first; second = c.second; grown = c.grown; grand = f }

-- ---- what the k-th search finds
module _ (s : Store) (c : Choice) (k : ℕ) where
  -- the level's files that overlap its range, up to its limit
  abbrev pub over_by : List File
  over_by = up_to (asked_most c k) 0 (overlapping (asked_level c.level k) (level (state_of s) (asked_level c.level k)) (span_of (asked_span c k)))

  -- the same completed, if it completes
  abbrev pub found_by : List File
  found_by = cond (asked_edges (asked_level c.level k) k) (completed (level (state_of s) (asked_level c.level k)) over_by) over_by

-- ---- what is known before the k-th search
-- the first inputs before growth: those that the first search will find, completed, or those found already
unfoldable pub firsts : Store → ℕ → Choice → List File
firsts s zero c = let fs = level (state_of s) c.level in completed_at c.level fs (up_to c.most 0 (overlapping c.level fs (span_of c.span)))
firsts s (suc k) c = inputs_of s c.first

module _ (s : Store) (fs : List File) (c : Choice) where
  -- the second inputs
  abbrev pub seconds : List File
  seconds = inputs (c.level + 1) (level (state_of s) (c.level + 1)) (range_of fs)

  -- the first inputs after growth
  abbrev pub chosen : List File
  chosen = grown_first (state_of s) c.maximum c.level fs seconds

-- what is known of a pick with first inputs fs before its k-th search
pub record SearchInvariant (s : Store) (fs : List File) (k : ℕ) (c : Choice) : Type 0 where
  pub held_first : HeldAt s c.level c.first
  pub held_second : HeldAt s (c.level + 1) c.second
  pub held_grand : HeldAt s (c.level + 2) c.grand
  pub few_second : c.second.bytes ≤ max_bytes
  pub few_grown : c.grown.bytes ≤ max_bytes
  pub second_none : k ≤ 1 → c.second.count ≡ 0
  pub grand_none : k ≤ 4 → c.grand.count ≡ 0
  pub asked : k ≡ 0 → firsts s 0 c ≡ fs
  pub first_sums : 1 ≤ k → Summed (inputs_of s c.first) c.first.ends c.first.bytes
  pub first_are : 1 ≤ k → k ≤ 3 → inputs_of s c.first ≡ fs
  pub second_sums : 2 ≤ k → Summed (inputs_of s c.second) c.second.ends c.second.bytes
  pub second_are : 2 ≤ k → inputs_of s c.second ≡ seconds s fs c
  pub grown_held : 3 ≤ k → HeldAt s c.level c.grown
  pub grown_sums : 3 ≤ k → Summed (inputs_of s c.grown) c.grown.ends c.grown.bytes
  pub grown_are : 3 ≤ k → inputs_of s c.grown ≡ inputs c.level (level (state_of s) c.level) (range_of (fs ++ seconds s fs c))
  pub chosen_are : 4 ≤ k → inputs_of s c.first ≡ chosen s fs c
  pub grand_are : 5 ≤ k → inputs_of s c.grand ≡ grand_of full (state_of s) c.level (range_of (chosen s fs c ++ seconds s fs c))

-- ---- the chosen files
-- their runs of places
unfoldable pub runs_of : Choice → Runs
runs_of c = record {
  first = c.first.from;
  one = c.first.count;
  second = c.second.from;
  two = c.first.count + c.second.count;
  third = c.grand.from;
  three = c.first.count + c.second.count + c.grand.count;
}

-- the j-th place of three runs
unfoldable pub place_in : Runs → ℕ → ℕ
place_in r j = cond (ltb j r.one) (r.first + j) (cond (ltb j r.two) (r.second + (j - r.one)) (r.third + (j - r.two)))

-- their records one after another, with blank records past them
unfoldable pub laid_choice : Store → Choice → List FileRecord
laid_choice s c = laid_out (inputs_of s c.first ∷ inputs_of s c.second ∷ inputs_of s c.grand ∷ [])
