-- Laws of the two calls on ranges: the refusals 14, 1, 2 in turn, that the files found always fit the output, and the list that one search gives. Assumes nothing.
use Rattle.std.specs.Prelude.{ℕ, ◌+◌, ◌≤◌, ◌<◌, ◌≡◌, refl, Bool, true, false, not, ◌&&◌, ltb, length, Ok, Err}
use Rattle.std.proofs.Common.{sym, ◌∙◌, arith, lt-ltb, le-ltb}
use borrow.Author.Tests.{ltb-true, ltb-false, not-true, not-false}
use Rattle.lemmas.specs.Order.{clash}
use Rattle.std.proofs.Math.Path.{ap}
use mathlib.Core.List.{List, [], ◌∷◌, append-nil}
use Rattle.lemmas.specs.Lists.{any, join}
use Rattle.lemmas.specs.ListLaws.{join_length, sub_length}
use Rattle.model.specs.Answer.{gives, refused, Refusal, ◌⇒◌, first_of}
use Rattle.model.specs.Calls as calls
use Rattle.model.specs.File.{File, State, full, level, well_formed, level_count, max_files}
use Rattle.model.proofs.Formed.{formed_says}
use Rattle.model.specs.Key.{good_key, good_user}
use Rattle.model.proofs.PickLaws.{overlapping_sub}
use Rattle.model.specs.Range.{Range, between, overlaps, overlapping}
use Rattle.answers.specs.Outcome.{number_of, passed}
use Rattle.answers.specs.OutcomeLaws.{passed_nil, passed_here, passed_later, one_done, one_refused}
use Rattle.answers.specs.declared.Refusal as code
use Rattle.records.specs.Run.{run}
use Rattle.records.specs.RecordLaws.{run_ended}
use Rattle.levels.specs.Levels.{laid_out}
use Rattle.store.specs.declared.Store.{Store}
use Rattle.store.specs.Store.{state_of, well_store, on_store}
use Rattle.store.specs.StoreLaws as store
use Rattle.level_list.specs.declared.FileList.{FileList}
use Rattle.level_list.specs.List.{list_of}
use Rattle.pick_found.specs.declared.FoundRun.{FoundRun}
use Rattle.pick_found.specs.FoundRun.{start_at, end_at, inputs_of}
use Rattle.pick_found.specs.FoundLaws.{held_count}
use Rattle.pick_found.specs.CallsLaws.{asked, asked_ill, asked_beyond, asked_key, asked_on, level_run_lem}
use Rattle.pick_search.specs.declared.Choice.{Choice}
use Rattle.pick_search.specs.Choice.{SearchInvariant, laid_choice}
use Rattle.ask_overlap.specs.Level.{level_tests}

-- ---- 13 never applies
-- no level has more files than the room
pub fits_output : (t : State) (n : ℕ) (r : Range) → well_formed full t ≡ true → length (overlapping n (level t n) r) ≤ full.room
unfolding level
fits_output t n r h =
    let room = ((formed_says full t).0 h).room in
    omega (arith, sub_length (overlapping_sub n (level t n) r), join_length t.files n)

-- ---- the tests of the store and the level
module _ (s : Store) (n : ℕ) where
  -- the test of the level alone
  abbrev at_level : List Refusal
  at_level = (not (ltb n full.levels) ⇒ 1) ∷ []

  -- a store that is not well-formed: 14
  pub tests_ill : well_store s ≡ false → passed (level_tests s n) ≡ Err code.Refusal.Form
  unfolding level_tests
  tests_ill h = passed_here (not (well_store s)) 14 at_level (ap not h)

  module _ (h : well_store s ≡ true) where
    -- a level above 6: 1
    pub tests_beyond : level_count ≤ n → passed (level_tests s n) ≡ Err code.Refusal.Level
    unfolding level_tests full
    tests_beyond k = passed_later (not (well_store s)) 14 at_level (ap not h) ∙ passed_here (not (ltb n level_count)) 1 [] (ap not (le-ltb n level_count k))

    -- none of both: done
    pub tests_done : n < level_count → passed (level_tests s n) ≡ Ok tt
    unfolding level_tests full
    tests_done k = passed_later (not (well_store s)) 14 at_level (ap not h) ∙ passed_later (not (ltb n level_count)) 1 [] (ap not (lt-ltb n level_count k)) ∙ passed_nil

  -- done: the store is well-formed, and the level is one of the seven
  pub tests_passed : (u : Unit) → passed (level_tests s n) ≡ Ok u → (well_store s ≡ true) × (n < level_count)
  unfolding level_tests full
  tests_passed u e = go (well_store s) refl
    where
      go : (t : Bool) → well_store s ≡ t → (well_store s ≡ true) × (n < level_count)
      go true h =
          let few = one_done (not (ltb n level_count)) 1 u (sym (passed_later (not (well_store s)) 14 at_level (ap not h)) ∙ e) in
          (h, ltb-true n level_count (not-false (ltb n level_count) few))
      go false h = let z : true ≡ false = cc (tests_ill h, e) in clash refl z

  -- a call that makes these tests first is refused by them
  pub tests_refuse : {A : Type 0} (keys : Bool) (rs : State → List Refusal) (a : State → A) (r : code.Refusal) → passed (level_tests s n) ≡ Err r
      → on_store s (asked s n keys rs a) ≡ refused (number_of r)
  unfolding level_tests full
  tests_refuse keys rs a r e = go (well_store s) refl
    where
      go : (t : Bool) → well_store s ≡ t → on_store s (asked s n keys rs a) ≡ refused (number_of r)
      go true h =
          let one = one_refused (not (ltb n level_count)) 1 r (sym (passed_later (not (well_store s)) 14 at_level (ap not h)) ∙ e) in
          asked_beyond s n keys rs a h (ltb-false n level_count (not-true (ltb n level_count) one.0)) ∙ ap (λ (x : code.Refusal). refused (number_of x)) (sym one.1)
      go false h =
          let form : code.Refusal.Form ≡ r = cc (tests_ill h, e) in
          asked_ill s n keys rs a h ∙ ap (λ (x : code.Refusal). refused (number_of x)) form

-- ---- the two calls
module _ (s : Store) (n : ℕ) (a b : List ℕ) where
  -- both user keys are good
  abbrev pub users : Bool
  users = good_user full.longest a && good_user full.longest b

  -- their range
  abbrev pub user_range : Range
  user_range = record { start = a; stop = b }

  -- a store that is not well-formed: 14
  pub told_ill : well_store s ≡ false → on_store s (λ t. calls.overlap_in_level full t n a b) ≡ refused 14
  unfolding calls.overlap_in_level
  told_ill h = asked_ill s n users (λ t. []) (λ t. any (overlaps user_range) (level t n)) h

  -- refused by the tests of the store and the level
  pub told_refused : (r : code.Refusal) → passed (level_tests s n) ≡ Err r → on_store s (λ t. calls.overlap_in_level full t n a b) ≡ refused (number_of r)
  unfolding calls.overlap_in_level
  told_refused r e = tests_refuse s n users (λ t. []) (λ t. any (overlaps user_range) (level t n)) r e

  module _ (h : well_store s ≡ true) where
    -- a level above 6: 1
    pub told_beyond : level_count ≤ n → on_store s (λ t. calls.overlap_in_level full t n a b) ≡ refused 1
    unfolding calls.overlap_in_level
    told_beyond k = asked_beyond s n users (λ t. []) (λ t. any (overlaps user_range) (level t n)) h k

    -- a bad user key: 2
    pub told_key : n < level_count → users ≡ false → on_store s (λ t. calls.overlap_in_level full t n a b) ≡ refused 2
    unfolding calls.overlap_in_level
    told_key k g = asked_key s n users (λ t. []) (λ t. any (overlaps user_range) (level t n)) h k g

    -- else whether some file of the run overlaps
    pub told_done : length s.counts ≡ level_count → n < level_count → users ≡ true
        → on_store s (λ t. calls.overlap_in_level full t n a b) ≡ gives (any (overlaps user_range) (run (start_at s n) (end_at s n) s.files))
    unfolding calls.overlap_in_level first_of
    told_done q k g =
        asked_on s n users (λ t. []) (λ t. any (overlaps user_range) (level t n)) h k g ∙ ap (λ (fs : List File). gives (any (overlaps user_range) fs)) (level_run_lem s n (omega arith))

module _ (s : Store) (n : ℕ) (a b : List ℕ) where
  -- both keys are good
  abbrev pub keys : Bool
  keys = good_key full.longest a && good_key full.longest b

  -- the files of the level that overlap
  abbrev pub found : State → List File
  found t = overlapping n (level t n) (between a b)

  -- 13: more of them than the room
  abbrev pub too_long : State → List Refusal
  too_long t = (ltb full.room (length (found t)) ⇒ 13) ∷ []

  -- a store that is not well-formed: 14
  pub inputs_ill : well_store s ≡ false → on_store s (λ t. calls.overlapping_inputs full t n a b full.room) ≡ refused 14
  unfolding calls.overlapping_inputs
  inputs_ill h = asked_ill s n keys too_long found h

  -- refused by the tests of the store and the level
  pub inputs_refused : (r : code.Refusal) → passed (level_tests s n) ≡ Err r → on_store s (λ t. calls.overlapping_inputs full t n a b full.room) ≡ refused (number_of r)
  unfolding calls.overlapping_inputs
  inputs_refused r e = tests_refuse s n keys too_long found r e

  module _ (h : well_store s ≡ true) where
    -- a level above 6: 1
    pub inputs_beyond : level_count ≤ n → on_store s (λ t. calls.overlapping_inputs full t n a b full.room) ≡ refused 1
    unfolding calls.overlapping_inputs
    inputs_beyond k = asked_beyond s n keys too_long found h k

    -- a bad key: 2
    pub inputs_key : n < level_count → keys ≡ false → on_store s (λ t. calls.overlapping_inputs full t n a b full.room) ≡ refused 2
    unfolding calls.overlapping_inputs
    inputs_key k g = asked_key s n keys too_long found h k g

    -- else the files that overlap
    pub inputs_done : n < level_count → keys ≡ true → on_store s (λ t. calls.overlapping_inputs full t n a b full.room) ≡ gives (found (state_of s))
    unfolding calls.overlapping_inputs first_of ◌⇒◌
    inputs_done k g =
        let fits = fits_output (state_of s) n (between a b) ((store.well_says s).0 h).formed in
        asked_on s n keys too_long found h k g ∙ rw (le-ltb full.room (length (found (state_of s))) fits)

-- ---- the list that one search gives
-- a run of no places has no files
none_found : (s : Store) (f : FoundRun) → f.count ≡ 0 → inputs_of s f ≡ []
unfolding inputs_of
none_found s f e = run_ended f.from (f.from + f.count) s.files (omega arith)

-- after one search its files are the first inputs alone
pub one_listed : (s : Store) → well_store s ≡ true → length s.files ≡ max_files → (fs : List File) (c : Choice) → SearchInvariant s fs 1 c
    → (l : FileList) → l.files ≡ laid_choice s c → l.count ≡ c.first.count → l ≡ list_of fs
unfolding laid_choice laid_out list_of join
one_listed s h q fs c g l e n =
    let first = g.first_are (omega arith) (omega arith) in
    let second = none_found s c.second (g.second_none (omega arith)) in
    let grand = none_found s c.grand (g.grand_none (omega arith)) in
    let files : l.files ≡ (list_of fs).files = e ∙ rw (first, second, grand, append-nil fs) in
    let count : l.count ≡ length fs = n ∙ sym (held_count s c.level c.first h q g.held_first) ∙ ap length first in
    λ i. record { files = files i; count = count i }
