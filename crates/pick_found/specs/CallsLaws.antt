-- Laws of calls on ranges: the refusals 14, 1, 2 in turn, and a level as a run of places. Assumes nothing.
use Rattle.std.specs.Prelude.{ℕ, ◌≤◌, ◌<◌, ◌≡◌, Bool, true, false, not, ◌&&◌, List, ◌∷◌, ltb, length}
use Rattle.std.proofs.Common.{◌∙◌}
use borrow.Author.Tests.{lt-ltb, le-ltb}
use Rattle.lemmas.specs.Lists.{sum}
use Rattle.lemmas.specs.Slices.{sum_upto}
use Rattle.model.specs.Answer.{Answer, refused, Refusal, ◌⇒◌, first_of}
use Rattle.model.specs.File.{State, full, level, well_formed, level_count, max_files}
use Rattle.records.specs.Run.{run}
use Rattle.levels.specs.LevelsLaws as levels
use Rattle.store.specs.declared.Store.{Store}
use Rattle.store.specs.Store.{state_of, well_store, on_store}
use Rattle.store.specs.StoreLaws as store
use Rattle.pick_found.specs.FoundRun.{start_at, end_at}

-- ---- a call whose first refusals are 14, 1 and 2
module _ {A : Type 0} (s : Store) (n : ℕ) (keys : Bool) (rs : State → List Refusal) (a : State → A) where
  -- the call on a state
  abbrev pub asked : State → Answer A
  asked t = first_of ((not (well_formed full t) ⇒ 14) ∷ (not (ltb n full.levels) ⇒ 1) ∷ (not keys ⇒ 2) ∷ rs t) (a t)

  -- a store that is not well-formed: 14
  pub asked_ill : well_store s ≡ false → on_store s asked ≡ refused 14
  unfolding first_of ◌⇒◌
  asked_ill h = store.on_store_ill s asked (λ e. rw e) h

  module _ (h : well_store s ≡ true) where
    -- a level above 6: 1
    pub asked_beyond : level_count ≤ n → on_store s asked ≡ refused 1
    unfolding first_of ◌⇒◌ full
    asked_beyond k = store.on_store_well s asked h ∙ rw (((store.well_says s).0 h).formed, le-ltb n level_count k)

    -- a key of wrong length or type: 2
    pub asked_key : n < level_count → keys ≡ false → on_store s asked ≡ refused 2
    unfolding first_of ◌⇒◌ full
    asked_key k b = store.on_store_well s asked h ∙ rw (((store.well_says s).0 h).formed, lt-ltb n level_count k, b)

    -- none of these: the other refusals decide
    pub asked_on : n < level_count → keys ≡ true → on_store s asked ≡ first_of (rs (state_of s)) (a (state_of s))
    unfolding first_of ◌⇒◌ full
    asked_on k b = store.on_store_well s asked h ∙ rw (((store.well_says s).0 h).formed, lt-ltb n level_count k, b)

-- the first of two keys is wrong
pub wrong_left : (a b : Bool) → a ≡ false → (a && b) ≡ false
wrong_left a b e = rw e

-- the second is wrong
pub wrong_right : (a b : Bool) → a ≡ true → b ≡ false → (a && b) ≡ false
wrong_right a b e f = rw (e, f)

-- ---- a level of a well-formed store
module _ (s : Store) (n : ℕ) where
  -- it is the run of its places
  pub level_run_lem : n < length s.counts → level (state_of s) n ≡ run (start_at s n) (end_at s n) s.files
  unfolding level state_of
  level_run_lem h = levels.level_run_lem s.files s.counts n h

  -- its places hold files
  pub level_ends : end_at s n ≤ sum s.counts
  level_ends = sum_upto n s.counts

  -- the files of all levels are within the room
  pub files_room : well_store s ≡ true → sum s.counts ≤ max_files
  files_room h = ((levels.well_says s.files s.counts).0 (store.well_levels_lem s h)).sound.room
