-- Laws of a pick's choice: the maximum file size, and the first inputs. Assumes nothing.
use Rattle.std.specs.Prelude.{ℕ, zero, suc, ◌+◌, ◌-◌, ◌≤◌, ◌<◌, ◌≡◌, refl, Bool, true, false, not, ◌&&◌, List, [], ◌∷◌, ltb, leb, length}
use Rattle.std.proofs.Common.{sym, ap, ◌∙◌, arith, length-take-le, ltb-true, ltb-false, le-leb, leb-true}
use Rattle.std.proofs.lemmas.Bool.{lt-leb, not-false}
use Rattle.lemmas.specs.ListLaws.{and_right, keep_none, sub_all}
use Rattle.lemmas.specs.Lists.{find, is_empty}
use Rattle.lemmas.specs.Order.{lexb, clash}
use Rattle.model.specs.Completion.{completed, completed_at, inputs}
use Rattle.model.proofs.CompletionLaws.{completed_empty}
use Rattle.model.specs.File.{File, full, level, good_file, level_count, max_files, max_word}
use Rattle.model.proofs.Formed.{good_file_says}
use Rattle.model.specs.Key.{Key, user, user_before, good_key}
use Rattle.model.specs.KeyLaws.{good_key_says}
use Rattle.model.specs.Pick.{up_to, manual_inputs, bad_maximum, grows, grown_first, largest_maximum}
use Rattle.model.proofs.PickLaws.{grown_nonempty}
use Rattle.model.specs.Range.{Range, between, overlaps, overlapping, low_key, high_key, range_of}
use Rattle.store.specs.declared.Store.{Store}
use Rattle.store.specs.Store.{state_of, well_store}
use Rattle.pick_found.specs.FoundRun.{inputs_of}
use Rattle.pick_found.specs.FoundLaws.{all_taken, held_count, level_part, overlapping_deeper}
use Rattle.pick_search.specs.declared.Choice.{Choice}
use Rattle.pick_search.specs.Choice.{seconds, SearchInvariant}
use Rattle.pick_search.specs.CompleteLaws.{none_left}
use Rattle.pick_plan.specs.Starts.{limit_of, search_of}

-- ---- the maximum file size
-- below 1 it is bad
pub maximum_low : (m : ℕ) → m < 1 → bad_maximum m ≡ true
unfolding bad_maximum
maximum_low m h = rw (lt-leb 1 m h)

-- from 1 on it is bad above 2^32
pub maximum_high : (m : ℕ) → 1 ≤ m → bad_maximum m ≡ ltb largest_maximum m
unfolding bad_maximum
maximum_high m h = rw (le-leb 1 m h) (go (ltb largest_maximum m) refl)
  where
    go : (b : Bool) → ltb largest_maximum m ≡ b → not (leb m largest_maximum) ≡ b
    go true e = rw (lt-leb m largest_maximum (ltb-true largest_maximum m e))
    go false e = rw (le-leb m largest_maximum (ltb-false largest_maximum m e))

-- a good one is at most 2^32
pub maximum_most : (m : ℕ) → bad_maximum m ≡ false → m ≤ largest_maximum
unfolding bad_maximum
maximum_most m e =
    let b : (leb 1 m && leb m largest_maximum) ≡ true = not-false (leb 1 m && leb m largest_maximum) e in
    leb-true m largest_maximum (and_right (leb 1 m) (leb m largest_maximum) b)

-- ---- the first inputs
-- the first search of a size pick at level 0
pub search_first : (l : ℕ) → l ≡ 0 → search_of l ≡ 0
unfolding search_of
search_first l e = rw e

-- above level 0
pub search_deeper : (l : ℕ) → (l ≡ 0 → ⊥) → search_of l ≡ 1
unfolding search_of
search_deeper zero e = absurd (e refl)
search_deeper (suc l) e = refl

-- it is one of the five searches
pub search_few : (l : ℕ) → search_of l ≤ 5
unfolding search_of
search_few zero = omega arith
search_few (suc l) = omega arith

-- the limit of a manual pick at level 0
pub limit_first : (m l : ℕ) → l ≡ 0 → limit_of m l ≡ max_word
unfolding limit_of
limit_first m l e = rw e

-- above level 0
pub limit_deeper : (m l : ℕ) → (l ≡ 0 → ⊥) → limit_of m l ≡ m
unfolding limit_of
limit_deeper m zero e = absurd (e refl)
limit_deeper m (suc l) e = refl

-- the files taken up to this limit, completed above level 0, are the manual inputs
pub manual_limited : (s : Store) (m l : ℕ) (r : Range) → well_store s ≡ true → l < level_count
    → completed_at l (level (state_of s) l) (up_to (limit_of m l) 0 (overlapping l (level (state_of s) l) r)) ≡ manual_inputs m l (level (state_of s) l) r
unfolding manual_inputs limit_of completed_at
manual_limited s m zero r h k = all_taken s 0 h k (up_to max_word 0 (overlapping 0 (level (state_of s) 0) r)) r r refl refl
manual_limited s m (suc l) r h k = refl

-- ---- completed lists
-- of no files nothing is completed
pub completed_none : (l : ℕ) (fs : List File) → completed_at l fs [] ≡ []
unfolding completed_at completed
completed_none zero fs = refl
completed_none (suc l) fs = refl

-- a completed list is empty just where the list is
pub completed_some : (l : ℕ) (fs xs : List File) → is_empty (completed_at l fs xs) ≡ is_empty xs
unfolding completed_at
completed_some zero fs xs = refl
completed_some (suc l) fs xs = completed_empty fs xs

-- ---- no first inputs: none after growth either
-- a user key with a byte is after the empty one
after_none : (u : List ℕ) → 1 ≤ length u → lexb [] u ≡ true
unfolding lexb
after_none [] h = absurd (omega arith)
after_none (b ∷ u) h = refl

-- a good key's user key has a byte
user_some : (k : Key) → good_key full.longest k ≡ true → 1 ≤ length (user k)
unfolding user
user_some k g =
    let some_byte = ((good_key_says full.longest k).0 g).some_byte in
    omega (arith, length-take-le (length k - 8) k (omega arith))

-- so no good file overlaps the range of no files
none_overlaps : (f : File) → good_file full f ≡ true → overlaps (range_of []) f ≡ false
unfolding overlaps range_of between low_key high_key find user user_before
none_overlaps f g = rw (after_none (user f.smallest) (user_some f.smallest ((good_file_says full f).0 g).smallest)) (go (not (user_before (user f.largest) [])))
  where
    go : (b : Bool) → (b && false) ≡ false
    go true = refl
    go false = refl

-- so no file is chosen
none_chosen : (s : Store) (m l : ℕ) → well_store s ≡ true → l + 1 < level_count → grown_first (state_of s) m l [] (inputs (l + 1) (level (state_of s) (l + 1)) (range_of [])) ≡ []
unfolding grown_first grows is_empty inputs
none_chosen s m l h k =
    let fs = level (state_of s) (l + 1) in
    let good = (level_part s (l + 1) h k fs (sub_all fs)).0.good in
    let none : overlapping (l + 1) fs (range_of []) ≡ [] = sym (overlapping_deeper (l + 1) fs (range_of []) (λ z. omega arith)) ∙ keep_none (overlaps (range_of [])) fs (λ f i. none_overlaps f (good f i)) in
    let second : completed_at (l + 1) fs (overlapping (l + 1) fs (range_of [])) ≡ [] = ap (completed_at (l + 1) fs) none ∙ completed_none (l + 1) fs in
    rw second

-- a pick without first inputs at the end had none at the start
pub none_first : (s : Store) (fs : List File) (c : Choice) → well_store s ≡ true → length s.files ≡ max_files → SearchInvariant s fs 5 c → c.first.count ≡ 0 → is_empty fs ≡ true
unfolding is_empty
none_first s [] c h q g e = refl
none_first s (f ∷ fs) c h q g e =
    let some = grown_nonempty (state_of s) c.maximum c.level (f ∷ fs) (seconds s (f ∷ fs) c) refl in
    clash (none_left (inputs_of s c.first) (held_count s c.level c.first h q g.held_first ∙ e)) (ap is_empty (g.chosen_are (omega arith)) ∙ some)

-- a pick with first inputs at the end had some at the start
pub some_first : (s : Store) (fs : List File) (c : Choice) → well_store s ≡ true → length s.files ≡ max_files → c.level + 1 < level_count → SearchInvariant s fs 5 c → (c.first.count ≡ 0 → ⊥) → is_empty fs ≡ false
unfolding is_empty
some_first s [] c h q l g e =
    absurd (e (sym (held_count s c.level c.first h q g.held_first) ∙ ap length (g.chosen_are (omega arith) ∙ none_chosen s c.maximum c.level h l)))
some_first s (f ∷ fs) c h q l g e = refl
