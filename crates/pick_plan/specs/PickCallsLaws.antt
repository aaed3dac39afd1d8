-- Laws of the two picks on a store: each refusal in turn, and the result of an accepted pick. Assumes nothing.
use Rattle.std.specs.Prelude.{None, Some, ℕ, zero, suc, ◌+◌, ◌≤◌, ◌<◌, ◌≡◌, Bool, ◌&&◌, cond, eqb, Float}
use Rattle.std.proofs.Math.Path.{refl, ap, subst}
use Rattle.std.proofs.Common.{sym, ◌∙◌, arith}
use Rattle.std.proofs.Math.Bool.{true, false}
use mathlib.Core.List.{List, [], ◌∷◌, Option-to_list}
use Rattle.std.proofs.Math.Option.{Option, none, some, or_else}
use borrow.Author.Tests.{eq-eqb, ne_eqb}
use Rattle.std.proofs.Math.ListN.{length}
use Rattle.lemmas.specs.Order.{clash}
use Rattle.lemmas.specs.Lists.{find, is_empty}
use Rattle.lemmas.specs.ListLaws.{sub_all}
use Rattle.model.specs.Answer.{gives, refused, Refusal, ◌⇒◌, first_of}
use Rattle.model.specs.Completion.{completed_at}
use Rattle.model.specs.File.{File, State, full, level, pointer, level_count, max_files, max_word}
use Rattle.model.specs.Key.{Key, before, good_key}
use Rattle.model.specs.Pick.{up_to, first_file, start_file, size_inputs, manual_inputs, by_size, manual, Pick, complete, bad_maximum, size_pick, manual_pick}
use Rattle.model.proofs.PickLaws.{due_nonempty, size_nonempty}
use Rattle.model.specs.Range.{Range, between, overlapping, range_of}
use Rattle.model.specs.Score.{score, level_to_compact, due, reported}
use Rattle.store.specs.declared.Store.{Store}
use Rattle.store.specs.Store.{state_of, well_store, on_store}
use Rattle.store.specs.StoreLaws as store
use Rattle.pick_found.specs.CallsLaws.{asked_ill, asked_beyond, asked_key, asked_on}
use Rattle.pick_found.specs.declared.FoundRun.{FoundRun}
use Rattle.pick_found.specs.FoundRun.{inputs_of, Known, range_found}
use Rattle.pick_found.specs.FoundLaws.{all_taken, held_count, known_range, level_part}
use Rattle.pick_search.specs.declared.Choice.{Choice}
use Rattle.pick_search.specs.Choice.{begun, filled_with, firsts, SearchInvariant}
use Rattle.pick_search.specs.CompleteLaws.{none_left}
use Rattle.pick_search.specs.InvariantLaws.{invariant_ready, invariant_one}
use Rattle.pick_answer.specs.declared.Cause.TheVariants.{Size, Manual}
use Rattle.pick_answer.specs.Picked.{cause_of}
use Rattle.pick_range.specs.Ranges.{span_of, span_record}
use Rattle.pick_plan.specs.declared.Started.{Started}
use Rattle.pick_plan.specs.Plans.{picks_from}
use Rattle.pick_plan.specs.ChoiceLaws.{manual_limited, completed_none, completed_some}
use Rattle.pick_plan.specs.Starts.{limit_of, search_of, Starts}
use Rattle.pick_plan.specs.OneLaws.{begins_nowhere, begins_at}

-- ---- a size pick
-- the choice that its searches begin with
unfoldable pub one_asked : ℕ → ℕ → FoundRun → Choice
one_asked n m a = filled_with (begun n m (range_found a) max_word) 0 a

-- a start where work is due
module _ (s : Store) (n m : ℕ) (z : Started) (g : Starts s n true z) (c : Choice) (k : ℕ) (e : c ≡ one_asked n m z.first) (f : k ≡ search_of n) where
  -- it is ready for its first search
  pub size_stands : SearchInvariant s (firsts s k c) k c
  unfolding one_asked firsts search_of filled_with begun
  size_stands = rw (e, f) (go n g.known)
    where
      a : FoundRun
      a = z.first

      go : (n : ℕ) → Known s n a → SearchInvariant s (firsts s (search_of n) (one_asked n m a)) (search_of n) (one_asked n m a)
      go zero h = invariant_ready s 0 m max_word (range_found a) a h.held
      go (suc n) h = invariant_one s (suc n) m max_word (range_found a) a h

  -- its first inputs are the model's
  pub size_firsts : well_store s ≡ true → n < level_count → firsts s k c ≡ size_inputs n (pointer (state_of s) n) (level (state_of s) n)
  unfolding one_asked firsts search_of filled_with begun size_inputs completed_at
  size_firsts h below = rw (e, f) (go n g below)
    where
      a : FoundRun
      a = z.first

      go : (n : ℕ) → Starts s n true z → n < level_count → firsts s (search_of n) (one_asked n m a) ≡ size_inputs n (pointer (state_of s) n) (level (state_of s) n)
      go zero g b = all_taken s 0 h b (up_to max_word 0 (overlapping 0 (level (state_of s) 0) (span_of (range_found a)))) (span_of (range_found a))
          (range_of (Option-to_list (start_file (pointer (state_of s) 0) (level (state_of s) 0)))) refl (known_range a s 0 g.known ∙ ap range_of g.are)
      go (suc n) g b = g.are

-- there is a start file just where there is a file
start_empty : (o : Option Key) (fs : List File) → is_empty (Option-to_list (start_file o fs)) ≡ is_empty fs
unfolding start_file first_file is_empty or_else find Option-to_list
start_empty none [] = refl
start_empty none (f ∷ fs) = refl
start_empty (some k) [] = refl
start_empty (some k) (f ∷ fs) = go (find (λ g. before k g.largest) (f ∷ fs))
  where
    go : (x : Option File) → is_empty (Option-to_list (or_else x (some f))) ≡ false
    go none = refl
    go (some g) = refl

-- a start by whether work is due
module _ (s : Store) (n : ℕ) (h : well_store s ≡ true) (q : length s.files ≡ max_files) (z : Started) (g : Starts s n (due (score (state_of s) n)) z) where
  -- there are as many files as the count says
  start_count : length (inputs_of s z.first) ≡ z.first.count
  start_count = held_count s n z.first h q g.known.held

  -- the files, if work is due or not
  abbrev starts_by : Bool → List File
  starts_by d = completed_at n (level (state_of s) n) (Option-to_list (cond d (start_file (pointer (state_of s) n) (level (state_of s) n)) none))

  -- if it has no place, no work is due
  pub nothing_due : z.start ≡ None → due (score (state_of s) n) ≡ false
  nothing_due e = go (due (score (state_of s) n)) refl g.are
    where
      go : (d : Bool) → due (score (state_of s) n) ≡ d → inputs_of s z.first ≡ starts_by d → d ≡ false
      go true t are =
          let fs = level (state_of s) n in
          let some_file = completed_some n fs (Option-to_list (start_file (pointer (state_of s) n) fs)) ∙ start_empty (pointer (state_of s) n) fs ∙ due_nonempty (state_of s) n t in
          clash (none_left (inputs_of s z.first) (start_count ∙ begins_nowhere z.first (sym g.start ∙ e))) (ap is_empty are ∙ some_file)
      go false t are = refl

  module _ (i : ℕ) (e : z.start ≡ Some i) where
    -- if it has one, work is due
    pub found_due : due (score (state_of s) n) ≡ true
    unfolding Option-to_list
    found_due = go (due (score (state_of s) n)) refl g.are
      where
        go : (d : Bool) → due (score (state_of s) n) ≡ d → inputs_of s z.first ≡ starts_by d → d ≡ true
        go true t are = refl
        go false t are = absurd ((begins_at z.first i (sym g.start ∙ e)).0 (sym start_count ∙ ap length (are ∙ completed_none n (level (state_of s) n))))

    -- its files begin there
    pub found_at : record { from = i; count = z.first.count; ends = z.first.ends; bytes = z.first.bytes } ≡ z.first
    found_at = let same = (begins_at z.first i (sym g.start ∙ e)).1 in λ t. record { from = sym same t; count = z.first.count; ends = z.first.ends; bytes = z.first.bytes }

module _ (s : Store) (m : ℕ) where
  -- not well-formed: 14
  pub size_ill : well_store s ≡ false → on_store s (λ t. size_pick full t m) ≡ refused 14
  unfolding size_pick first_of ◌⇒◌
  size_ill h = store.on_store_ill s (λ t. size_pick full t m) (λ e. rw e) h

  module _ (h : well_store s ≡ true) where
    -- a bad maximum: 9
    pub size_bad : bad_maximum m ≡ true → on_store s (λ t. size_pick full t m) ≡ refused 9
    unfolding size_pick first_of ◌⇒◌
    size_bad b = store.on_store_well s (λ t. size_pick full t m) h ∙ rw (((store.well_says s).0 h).formed, b)

    module _ (b : bad_maximum m ≡ false) (n : ℕ) (e : n ≡ level_to_compact full (state_of s)) where
      -- no work due: 10
      pub size_idle : due (score (state_of s) n) ≡ false → on_store s (λ t. size_pick full t m) ≡ refused 10
      unfolding size_pick first_of ◌⇒◌
      size_idle d =
          let d' : due (score (state_of s) (level_to_compact full (state_of s))) ≡ false = subst (λ (k : ℕ). due (score (state_of s) k) ≡ false) e d in
          store.on_store_well s (λ t. size_pick full t m) h ∙ rw (((store.well_says s).0 h).formed, b, d')

      -- none of these: the pick from its first inputs
      pub size_picks : due (score (state_of s) n) ≡ true → n < level_count → (x : Float) (a : FoundRun) (c : Choice) (k : ℕ) → x ≡ reported (score (state_of s) n) → c ≡ one_asked n m a
          → firsts s k c ≡ size_inputs n (pointer (state_of s) n) (level (state_of s) n) → picks_from s (Size x) c k ≡ on_store s (λ t. size_pick full t m)
      unfolding size_pick picks_from cause_of first_of ◌⇒◌ one_asked filled_with begun
      size_picks d below x a c k score_is Asked-is firsts_are =
          let t = state_of s in
          let fs = level t n in
          let d' : due (score t (level_to_compact full t)) ≡ true = subst (λ (k : ℕ). due (score t k) ≡ true) e d in
          let some = size_nonempty full n (pointer t n) fs (level_part s n h below fs (sub_all fs)).0.good (due_nonempty t n d) in
          rw (firsts_are, Asked-is, score_is, some)
          (sym (store.on_store_well s (λ t. size_pick full t m) h ∙ rw (((store.well_says s).0 h).formed, b, d')
          (ap (λ (k : ℕ). gives (complete full t m (by_size (reported (score t k))) k (size_inputs k (pointer t k) (level t k)))) (sym e))))

-- ---- a manual pick
module _ (s : Store) (m n : ℕ) (a b : Key) where
  -- its first inputs
  abbrev first_in : State → List File
  first_in t = manual_inputs m n (level t n) (between a b)

  -- its refusals 9, 11, 10
  abbrev later_refusals : State → List Refusal
  later_refusals t = (bad_maximum m ⇒ 9) ∷ (eqb (suc n) full.levels ⇒ 11) ∷ (is_empty (first_in t) ⇒ 10) ∷ []

  -- the pick from its first inputs
  abbrev completed : State → Pick
  completed t = complete full t m manual n (first_in t)

  -- both keys are good
  abbrev two : Bool
  two = good_key full.longest a && good_key full.longest b

  -- not well-formed: 14
  pub range_ill : well_store s ≡ false → on_store s (λ t. manual_pick full t m n a b) ≡ refused 14
  unfolding manual_pick
  range_ill h = asked_ill s n two later_refusals completed h

  module _ (h : well_store s ≡ true) where
    -- a level above 6: 1
    pub range_beyond : level_count ≤ n → on_store s (λ t. manual_pick full t m n a b) ≡ refused 1
    unfolding manual_pick
    range_beyond k = asked_beyond s n two later_refusals completed h k

    module _ (k : n < level_count) where
      -- a bad key: 2
      pub range_key : two ≡ false → on_store s (λ t. manual_pick full t m n a b) ≡ refused 2
      unfolding manual_pick
      range_key g = asked_key s n two later_refusals completed h k g

      module _ (g : two ≡ true) where
        -- a bad maximum: 9
        pub range_bad : bad_maximum m ≡ true → on_store s (λ t. manual_pick full t m n a b) ≡ refused 9
        unfolding manual_pick first_of ◌⇒◌
        range_bad x = asked_on s n two later_refusals completed h k g ∙ rw x

        -- level 6: 11
        pub range_last : bad_maximum m ≡ false → level_count ≤ n + 1 → on_store s (λ t. manual_pick full t m n a b) ≡ refused 11
        unfolding manual_pick first_of ◌⇒◌ full
        range_last x l = asked_on s n two later_refusals completed h k g ∙ rw (x, eq-eqb (suc n) level_count (omega arith))

        -- none of these: the pick from its first inputs, with 10 if there are none
        pub range_picks : bad_maximum m ≡ false → n + 1 < level_count → (c : Choice) → c ≡ begun n m (span_record (between a b)) (limit_of m n) → span_of (span_record (between a b)) ≡ between a b
            → picks_from s Manual c 0 ≡ on_store s (λ t. manual_pick full t m n a b)
        unfolding manual_pick picks_from firsts begun cause_of first_of ◌⇒◌ full
        range_picks x l c e span =
            let first : firsts s 0 (begun n m (span_record (between a b)) (limit_of m n)) ≡ first_in (state_of s) =
            ap (λ (r : Range). completed_at n (level (state_of s) n) (up_to (limit_of m n) 0 (overlapping n (level (state_of s) n) r))) span ∙ manual_limited s m n (between a b) h k in
            rw (e, first) (sym (asked_on s n two later_refusals completed h k g ∙ rw (x, ne_eqb (suc n) level_count (λ z. omega arith))))
