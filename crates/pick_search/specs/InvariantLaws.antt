-- Laws of a pick from one search to the next: its start, one search more, and its end. Assumes nothing.
use Rattle.std.specs.Prelude.{ℕ, zero, suc, ◌+◌, ◌≤◌, ◌<◌, ◌≡◌, Bool, not, ◌&&◌, cond, eqb}
use Rattle.std.proofs.Math.Path.{refl, sym, ap}
use Rattle.std.proofs.Common.{◌∙◌, ltb-true, ltb-false, ne_eqb}
use Rattle.std.proofs.Math.Bool.{true, false}
use mathlib.Core.List.{List, [], ◌++◌}
use native.Mathlib.Omega.{arith}
use Rattle.std.proofs.Math.Dec.{ltb}
use Rattle.std.proofs.Math.ListN.{length, get_or-eq_default}
use Rattle.lemmas.specs.Lists.{keep, sum}
use Rattle.model.specs.Completion.{completed, completed_at, inputs}
use Rattle.model.specs.File.{File, full, level, total, set_pointer, level_count, max_bytes, max_files, max_word}
use Rattle.model.proofs.Formed.{formed_says}
use Rattle.model.specs.Pick as model
use Rattle.model.specs.Pick.{up_to, grand_of}
use Rattle.model.proofs.PickLaws.{level_in_line, formed_sub, inputs_formed}
use Rattle.model.specs.Range.{Range, overlapping, high_key, range_of}
use Rattle.levels.specs.Levels.{levels_of}
use Rattle.levels.specs.LevelsLaws as levels
use Rattle.store.specs.declared.Store.{Store}
use Rattle.store.specs.Store.{state_of, well_store}
use Rattle.store.specs.StoreLaws as store
use Rattle.pick_range.specs.declared.Span.{Span}
use Rattle.pick_range.specs.Ranges.{span_of}
use Rattle.pick_found.specs.declared.FoundRun.{FoundRun}
use Rattle.pick_found.specs.FoundRun.{none_at, inputs_of, HeldAt, Known, Summed, range_found, joint_found}
use Rattle.pick_found.specs.CallsLaws.{files_room}
use Rattle.pick_found.specs.FoundLaws.{level_part, all_taken, held_count, known_range, known_joint}
use Rattle.pick_search.specs.declared.Choice.{Choice}
use Rattle.pick_search.specs.Choice.{begun, asked_level, asked_span, asked_most, asked_edges, grows_by, filled_with, over_by, found_by, firsts, seconds, chosen, SearchInvariant}
use Rattle.pick_search.specs.HeldLaws.{three_counts}
use Rattle.pick_search.specs.CompleteLaws.{grows_by_lem, grown, again, grown_by, no_grand, some_grand, complete_by}

-- ---- the start of a pick
-- no files are held at any level
none_held : (s : Store) (n : ℕ) → HeldAt s n (none_at 0)
unfolding none_at
none_held s n = record { few = omega arith; below = omega arith }

-- before the first search there may be files, which it replaces
pub invariant_ready : (s : Store) (l m most : ℕ) (r : Span) (f : FoundRun) → HeldAt s l f → SearchInvariant s (firsts s 0 (filled_with (begun l m r most) 0 f)) 0 (filled_with (begun l m r most) 0 f)
unfolding filled_with begun none_at
invariant_ready s l m most r f k = record {
  held_first = k;
  held_second = none_held s (l + 1);
  held_grand = none_held s (l + 2);
  few_second = omega arith;
  few_grown = omega arith;
  second_none = λ a. refl;
  grand_none = λ a. refl;
  asked = λ e. refl;
  first_sums = λ a. absurd (omega arith);
  first_are = λ a b. absurd (omega arith);
  second_sums = λ a. absurd (omega arith);
  second_are = λ a. absurd (omega arith);
  grown_held = λ a. absurd (omega arith);
  grown_sums = λ a. absurd (omega arith);
  grown_are = λ a. absurd (omega arith);
  chosen_are = λ a. absurd (omega arith);
  grand_are = λ a. absurd (omega arith);
}

-- before the first search with nothing found
pub invariant_begun : (s : Store) (l m most : ℕ) (r : Span) → SearchInvariant s (firsts s 0 (begun l m r most)) 0 (begun l m r most)
unfolding filled_with begun
invariant_begun s l m most r = invariant_ready s l m most r (none_at 0) (none_held s l)

-- before the second search, with first inputs found otherwise
pub invariant_one : (s : Store) (l m most : ℕ) (r : Span) (f : FoundRun) → Known s l f → SearchInvariant s (inputs_of s f) 1 (filled_with (begun l m r most) 0 f)
unfolding filled_with begun none_at
invariant_one s l m most r f k = record {
  held_first = k.held;
  held_second = none_held s (l + 1);
  held_grand = none_held s (l + 2);
  few_second = omega arith;
  few_grown = omega arith;
  second_none = λ a. refl;
  grand_none = λ a. refl;
  asked = λ e. absurd (omega arith);
  first_sums = λ a. k.sums;
  first_are = λ a b. refl;
  second_sums = λ a. absurd (omega arith);
  second_are = λ a. absurd (omega arith);
  grown_held = λ a. absurd (omega arith);
  grown_sums = λ a. absurd (omega arith);
  grown_are = λ a. absurd (omega arith);
  chosen_are = λ a. absurd (omega arith);
  grand_are = λ a. absurd (omega arith);
}

-- ---- what a search keeps
-- the level
pub filled_level : (c : Choice) (k : ℕ) (f : FoundRun) → (filled_with c k f).level ≡ c.level
unfolding filled_with
filled_level c zero f = refl
filled_level c (suc zero) f = refl
filled_level c (suc (suc zero)) f = refl
filled_level c (suc (suc (suc zero))) f = refl
filled_level c (suc (suc (suc (suc k)))) f = refl

-- the maximum file size
pub filled_maximum : (c : Choice) (k : ℕ) (f : FoundRun) → (filled_with c k f).maximum ≡ c.maximum
unfolding filled_with
filled_maximum c zero f = refl
filled_maximum c (suc zero) f = refl
filled_maximum c (suc (suc zero)) f = refl
filled_maximum c (suc (suc (suc zero))) f = refl
filled_maximum c (suc (suc (suc (suc k)))) f = refl

-- ---- one search more
-- of no files none overlaps a range
overlapping_none : (n : ℕ) (r : Range) → overlapping n [] r ≡ []
unfolding overlapping keep
overlapping_none zero r = refl
overlapping_none (suc n) r = refl

-- so none is an input
inputs_none : (n : ℕ) (r : Range) → inputs n [] r ≡ []
unfolding inputs completed_at completed overlapping keep
inputs_none zero r = refl
inputs_none (suc n) r = refl

-- a search before the last completes its files above level 0
completes : (n k : ℕ) (fs xs : List File) → k < 4 → cond (asked_edges n k) (completed fs xs) xs ≡ completed_at n fs xs
unfolding asked_edges completed_at
completes zero k fs xs h = refl
completes (suc n) k fs xs h = rw (ne_eqb (suc n) 0 (λ e. omega arith), ne_eqb k 4 (λ e. omega arith))

-- the last search leaves its files as they are
stays : (n : ℕ) (xs ys : List File) → cond (asked_edges n 4) xs ys ≡ ys
unfolding asked_edges
stays n xs ys = go (eqb n 0)
  where
    go : (b : Bool) → cond (not b && not (eqb 4 4)) xs ys ≡ ys
    go true = refl
    go false = refl

module _ (s : Store) (h : well_store s ≡ true) (q : length s.files ≡ max_files) (p : length s.counts ≡ level_count) where
  -- a level past the last has no files
  past_none : (n : ℕ) → level_count ≤ n → level (state_of s) n ≡ []
  unfolding level state_of
  past_none n k = get_or-eq_default (levels_of s.files s.counts) [] (omega (arith, levels.levels_number s.files s.counts))

  -- so none overlaps there
  past_found : (n : ℕ) (r : Range) → level_count ≤ n → overlapping n (level (state_of s) n) r ≡ []
  past_found n r k = ap (λ (fs : List File). overlapping n fs r) (past_none n k) ∙ overlapping_none n r

  -- with the largest number as limit, all files that overlap are taken
  over_all : (n : ℕ) (fs : List File) (r w : Range) → fs ≡ up_to max_word 0 (overlapping n (level (state_of s) n) r) → r ≡ w → fs ≡ overlapping n (level (state_of s) n) w
  unfolding up_to
  over_all n fs r w e d = go (ltb n level_count) refl
    where
      go : (b : Bool) → ltb n level_count ≡ b → fs ≡ overlapping n (level (state_of s) n) w
      go true t = all_taken s n h (ltb-true n level_count t) fs r w e d
      go false t = e ∙ ap (up_to max_word 0) (past_found n r (ltb-false n level_count t)) ∙ sym (past_found n w (ltb-false n level_count t))

  -- a search before the last with this limit finds the inputs of its range
  found_all : (n k : ℕ) (xs : List File) (r w : Range) → k < 4
      → xs ≡ cond (asked_edges n k) (completed (level (state_of s) n) (up_to max_word 0 (overlapping n (level (state_of s) n) r))) (up_to max_word 0 (overlapping n (level (state_of s) n) r)) → r ≡ w
      → xs ≡ inputs n (level (state_of s) n) w
  unfolding inputs
  found_all n k xs r w l e d =
      let fs = level (state_of s) n in
      let over = up_to max_word 0 (overlapping n fs r) in
      e ∙ completes n k fs over l ∙ ap (completed_at n fs) (over_all n over r w refl d)

  -- they have no more bytes than a full version
  found_few : (n : ℕ) (r : Range) → total (inputs n (level (state_of s) n) r) ≤ max_bytes
  unfolding total sum
  found_few n r = go (ltb n level_count) refl
    where
      go : (b : Bool) → ltb n level_count ≡ b → total (inputs n (level (state_of s) n) r) ≤ max_bytes
      go true t =
          let fs = level (state_of s) n in
          let line = level_in_line full (state_of s) n ((formed_says full (state_of s)).0 ((store.well_says s).0 h).formed) in
          let few = (level_part s n h (ltb-true n level_count t) (inputs n fs r) (formed_sub n fs (inputs n fs r) line (inputs_formed n fs r line))).1 in
          omega arith
      go false t = let none : inputs n (level (state_of s) n) r ≡ [] = ap (λ (fs : List File). inputs n fs r) (past_none n (ltb-false n level_count t)) ∙ inputs_none n r in rw none (omega arith)

  module _ (fs : List File) (c : Choice) (f : FoundRun) where
    -- the result of the search
    abbrev Finds : ℕ → Type 0
    Finds k = inputs_of s f ≡ found_by s c k

    -- after the search for first inputs
    next_first : SearchInvariant s fs 0 c → Known s c.level f → Finds 0 → SearchInvariant s fs 1 (filled_with c 0 f)
    unfolding filled_with asked_level asked_most asked_span firsts
    next_first g k e = record {
      held_first = k.held;
      held_second = g.held_second;
      held_grand = g.held_grand;
      few_second = g.few_second;
      few_grown = g.few_grown;
      second_none = λ a. g.second_none (omega arith);
      grand_none = λ a. g.grand_none (omega arith);
      asked = λ a. absurd (omega arith);
      first_sums = λ a. k.sums;
      first_are = λ a b. e ∙ completes c.level 0 (level (state_of s) c.level) (over_by s c 0) (omega arith) ∙ g.asked refl;
      second_sums = λ a. absurd (omega arith);
      second_are = λ a. absurd (omega arith);
      grown_held = λ a. absurd (omega arith);
      grown_sums = λ a. absurd (omega arith);
      grown_are = λ a. absurd (omega arith);
      chosen_are = λ a. absurd (omega arith);
      grand_are = λ a. absurd (omega arith);
    }

    -- after the search for second inputs
    next_second : SearchInvariant s fs 1 c → Known s (c.level + 1) f → Finds 1 → SearchInvariant s fs 2 (filled_with c 1 f)
    unfolding filled_with asked_level asked_most asked_span
    next_second g k e =
        let range = known_range c.first s c.level (record { held = g.held_first; sums = g.first_sums (omega arith) }) ∙ ap range_of (g.first_are (omega arith) (omega arith)) in
        let are = found_all (c.level + 1) 1 (inputs_of s f) (span_of (range_found c.first)) (range_of fs) (omega arith) e range in
        record {
          held_first = g.held_first;
          held_second = k.held;
          held_grand = g.held_grand;
          few_second = omega (arith, k.sums.bytes_are, ap total are, found_few (c.level + 1) (range_of fs));
          few_grown = g.few_grown;
          second_none = λ a. absurd (omega arith);
          grand_none = λ a. g.grand_none (omega arith);
          asked = λ a. absurd (omega arith);
          first_sums = λ a. g.first_sums (omega arith);
          first_are = λ a b. g.first_are (omega arith) (omega arith);
          second_sums = λ a. k.sums;
          second_are = λ a. are;
          grown_held = λ a. absurd (omega arith);
          grown_sums = λ a. absurd (omega arith);
          grown_are = λ a. absurd (omega arith);
          chosen_are = λ a. absurd (omega arith);
          grand_are = λ a. absurd (omega arith);
        }

    -- after the search for growth
    next_grown : SearchInvariant s fs 2 c → Known s c.level f → Finds 2 → SearchInvariant s fs 3 (filled_with c 2 f)
    unfolding filled_with asked_level asked_most asked_span
    next_grown g k e =
        let first : Known s c.level c.first = record { held = g.held_first; sums = g.first_sums (omega arith) } in
        let second : Known s (c.level + 1) c.second = record { held = g.held_second; sums = g.second_sums (omega arith) } in
        let range : span_of (joint_found c.first c.second) ≡ range_of (fs ++ seconds s fs c) = known_joint c.first c.second s c.level (c.level + 1) h q first second ∙ rw (g.first_are (omega arith) (omega arith), g.second_are (omega arith)) in
        let are = found_all c.level 2 (inputs_of s f) (span_of (joint_found c.first c.second)) (range_of (fs ++ seconds s fs c)) (omega arith) e range in
        record {
          held_first = g.held_first;
          held_second = g.held_second;
          held_grand = g.held_grand;
          few_second = g.few_second;
          few_grown = omega (arith, k.sums.bytes_are, ap total are, found_few c.level (range_of (fs ++ seconds s fs c)));
          second_none = λ a. absurd (omega arith);
          grand_none = λ a. g.grand_none (omega arith);
          asked = λ a. absurd (omega arith);
          first_sums = λ a. g.first_sums (omega arith);
          first_are = λ a b. g.first_are (omega arith) (omega arith);
          second_sums = λ a. g.second_sums (omega arith);
          second_are = λ a. g.second_are (omega arith);
          grown_held = λ a. k.held;
          grown_sums = λ a. k.sums;
          grown_are = λ a. are;
          chosen_are = λ a. absurd (omega arith);
          grand_are = λ a. absurd (omega arith);
        }

    -- after the search that checks growth
    next_chosen : SearchInvariant s fs 3 c → Known s (c.level + 1) f → Finds 3 → SearchInvariant s fs 4 (filled_with c 3 f)
    unfolding filled_with asked_level asked_most asked_span grows_by
    next_chosen g k e =
        let t = state_of s in
        let m = c.maximum in
        let l = c.level in
        let b = grows_by c f.count in
        let first_are : inputs_of s c.first ≡ fs = g.first_are (omega arith) (omega arith) in
        let second_are : inputs_of s c.second ≡ seconds s fs c = g.second_are (omega arith) in
        let grown_are : inputs_of s c.grown ≡ grown t m l fs (seconds s fs c) = g.grown_are (omega arith) in
        let held : HeldAt s l c.grown = g.grown_held (omega arith) in
        let sums = g.grown_sums (omega arith) in
        let range = known_range c.grown s l (record { held = held; sums = sums }) ∙ ap range_of grown_are in
        let again_are : inputs_of s f ≡ again t m l fs (seconds s fs c) = found_all (l + 1) 3 (inputs_of s f) (span_of (range_found c.grown)) (range_of (grown t m l fs (seconds s fs c))) (omega arith) e range in
        let test : b ≡ model.grows m fs (seconds s fs c) (grown t m l fs (seconds s fs c)) (again t m l fs (seconds s fs c)) = sym
        (grows_by_lem m fs (seconds s fs c) (grown t m l fs (seconds s fs c)) (again t m l fs (seconds s fs c)) c.first.count c.second.count c.grown.count f.count c.grown.bytes c.second.bytes
        (sym (ap length first_are) ∙ held_count s l c.first h q g.held_first) (sym (ap length second_are) ∙ held_count s (l + 1) c.second h q g.held_second)
        (sym (ap length grown_are) ∙ held_count s l c.grown h q held) (sym (ap length again_are) ∙ held_count s (l + 1) f h q k.held) (sym (sums.bytes_are ∙ ap total grown_are))
        (sym ((g.second_sums (omega arith)).bytes_are ∙ ap total second_are))) in
        record {
          held_first = either (λ x. HeldAt s l x) b c.grown c.first held g.held_first;
          held_second = g.held_second;
          held_grand = g.held_grand;
          few_second = g.few_second;
          few_grown = g.few_grown;
          second_none = λ a. absurd (omega arith);
          grand_none = λ a. g.grand_none (omega arith);
          asked = λ a. absurd (omega arith);
          first_sums = λ a. either (λ x. Summed (inputs_of s x) x.ends x.bytes) b c.grown c.first sums (g.first_sums (omega arith));
          first_are = λ a b. absurd (omega arith);
          second_sums = λ a. g.second_sums (omega arith);
          second_are = λ a. second_are;
          grown_held = λ a. held;
          grown_sums = λ a. sums;
          grown_are = λ a. grown_are;
          chosen_are = λ a. by_test b c.grown c.first ∙ rw (grown_are, first_are, test) (sym (grown_by t m l fs (seconds s fs c)));
          grand_are = λ a. absurd (omega arith);
        }
      where
        -- what holds of both holds of the one that a test takes
        either : (P : FoundRun → Type 0) (b : Bool) (x y : FoundRun) → P x → P y → P (cond b x y)
        either P true x y u v = u
        either P false x y u v = v

        -- and it has its own files
        by_test : (b : Bool) (x y : FoundRun) → inputs_of s (cond b x y) ≡ cond b (inputs_of s x) (inputs_of s y)
        by_test true x y = refl
        by_test false x y = refl

    -- after the search for grandparents
    next_grand : SearchInvariant s fs 4 c → Known s (c.level + 2) f → Finds 4 → SearchInvariant s fs 5 (filled_with c 4 f)
    unfolding filled_with asked_level asked_most asked_span
    next_grand g k e =
        let first : Known s c.level c.first = record { held = g.held_first; sums = g.first_sums (omega arith) } in
        let second : Known s (c.level + 1) c.second = record { held = g.held_second; sums = g.second_sums (omega arith) } in
        let range : span_of (joint_found c.first c.second) ≡ range_of (chosen s fs c ++ seconds s fs c) = known_joint c.first c.second s c.level (c.level + 1) h q first second ∙ rw (g.chosen_are (omega arith), g.second_are (omega arith)) in
        let are : inputs_of s f ≡ overlapping (c.level + 2) (level (state_of s) (c.level + 2)) (range_of (chosen s fs c ++ seconds s fs c)) =
        over_all (c.level + 2) (inputs_of s f) (span_of (joint_found c.first c.second)) (range_of (chosen s fs c ++ seconds s fs c))
        (e ∙ stays (c.level + 2) (completed (level (state_of s) (c.level + 2)) (over_by s c 4)) (over_by s c 4)) range in
        record {
          held_first = g.held_first;
          held_second = g.held_second;
          held_grand = k.held;
          few_second = g.few_second;
          few_grown = g.few_grown;
          second_none = λ a. absurd (omega arith);
          grand_none = λ a. absurd (omega arith);
          asked = λ a. absurd (omega arith);
          first_sums = λ a. g.first_sums (omega arith);
          first_are = λ a b. absurd (omega arith);
          second_sums = λ a. g.second_sums (omega arith);
          second_are = λ a. g.second_are (omega arith);
          grown_held = λ a. g.grown_held (omega arith);
          grown_sums = λ a. g.grown_sums (omega arith);
          grown_are = λ a. g.grown_are (omega arith);
          chosen_are = λ a. g.chosen_are (omega arith);
          grand_are = λ a. are ∙ grand_by (range_of (chosen s fs c ++ seconds s fs c)) (ltb (c.level + 2) level_count) refl;
        }
      where
        -- level 5 and 6 have none
        grand_by : (r : Range) (b : Bool) → ltb (c.level + 2) level_count ≡ b → overlapping (c.level + 2) (level (state_of s) (c.level + 2)) r ≡ grand_of full (state_of s) c.level r
        grand_by r true t = sym (some_grand (state_of s) c.level r (ltb-true (c.level + 2) level_count t))
        grand_by r false t = past_found (c.level + 2) r (ltb-false (c.level + 2) level_count t) ∙ sym (no_grand (state_of s) c.level r (ltb-false (c.level + 2) level_count t))

-- after any search
pub invariant_next : (s : Store) (h : well_store s ≡ true) (q : length s.files ≡ max_files) (p : length s.counts ≡ level_count) (fs : List File) (k : ℕ) (c : Choice) → k < 5 → c.level < level_count → SearchInvariant s fs k c → (f : FoundRun)
    → Known s (asked_level c.level k) f → inputs_of s f ≡ found_by s c k → SearchInvariant s fs (k + 1) (filled_with c k f)
unfolding asked_level
invariant_next s h q p fs zero c i j g f k e = next_first s h q p fs c f g k e
invariant_next s h q p fs (suc zero) c i j g f k e = next_second s h q p fs c f g k e
invariant_next s h q p fs (suc (suc zero)) c i j g f k e = next_grown s h q p fs c f g k e
invariant_next s h q p fs (suc (suc (suc zero))) c i j g f k e = next_chosen s h q p fs c f g k e
invariant_next s h q p fs (suc (suc (suc (suc zero)))) c i j g f k e = next_grand s h q p fs c f g k e
invariant_next s h q p fs (suc (suc (suc (suc (suc n))))) c i j g f k e = absurd (omega arith)

-- ---- the end of a pick
-- the chosen files are within the room
pub invariant_room : (s : Store) (h : well_store s ≡ true) (fs : List File) (k : ℕ) (c : Choice) → SearchInvariant s fs k c → c.first.count + c.second.count + c.grand.count ≤ max_files
invariant_room s h fs k c g =
    let first = g.held_first.few in
    let second = g.held_second.few in
    let grand = g.held_grand.few in
    omega (arith, three_counts s.counts c.level, files_room s c.level h)

-- after the last search it is the pick that the model makes of the first inputs
pub invariant_done : (s : Store) (fs : List File) (x : model.Cause) (c : Choice) → SearchInvariant s fs 5 c
    → record {
      picked = record { level = c.level; cause = x; maximum = c.maximum; first = inputs_of s c.first; second = inputs_of s c.second; grand = inputs_of s c.grand };
      after = set_pointer (state_of s) c.level (high_key (inputs_of s c.first));
    }
    ≡ model.complete full (state_of s) c.maximum x c.level fs
invariant_done s fs x c g =
    let second = g.second_are (omega arith) in
    let first = g.chosen_are (omega arith) in
    complete_by (state_of s) c.maximum x c.level fs (inputs_of s c.second) (inputs_of s c.first) (inputs_of s c.grand) second (rw second first) (rw (second, first) (g.grand_are (omega arith)))
