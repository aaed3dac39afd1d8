-- Laws of the chosen files written one after another: the records at the places of the three runs are those of the three lists. Assumes nothing.
use Prim.Native.Nat.{ℕ, zero, suc, ◌+◌, ◌-◌, ◌≤◌, ◌<◌}
use Rattle.std.specs.Prelude.{◌≡◌, Bool, length}
use Rattle.std.proofs.Math.Path.{refl, sym, ap}
use Rattle.std.proofs.Common.{◌∙◌, add-zero, zero-add}
use Rattle.std.proofs.Math.Bool.{true, false}
use mathlib.Core.List.{List, [], ◌∷◌, ◌++◌, map, map-append, append_assoc, append-nil}
use native.Mathlib.Omega.{arith}
use Rattle.std.proofs.Math.Nat.{suc-add}
use Rattle.std.proofs.Math.Dec.{ltb}
use borrow.Author.Tests.{lt-ltb, le-ltb, ltb-true, ltb-false}
use Rattle.std.proofs.Math.ListN.{get_or}
use Rattle.std.proofs.Math.Seq.{slice}
use Rattle.lemmas.specs.Each.{each_slice}
use Rattle.lemmas.specs.Lists.{join, sum}
use Rattle.lemmas.specs.Slices.{put, run_cons, run_past}
use Rattle.model.specs.File.{File, full, max_files}
use Rattle.records.specs.Record.{record_of, vacant, past, Shaped}
use Rattle.records.specs.RecordLaws.{sound_list_lem}
use Rattle.records.specs.Run.{run}
use Rattle.records.specs.declared.FileRecord.{FileRecord}
use Rattle.levels.specs.Levels.{laid_out}
use Rattle.levels.specs.LevelsLaws as levels
use Rattle.store.specs.declared.Store.{Store}
use Rattle.store.specs.Store.{well_store, StoreShape}
use Rattle.store.specs.StoreLaws as store
use Rattle.pick_found.specs.declared.FoundRun.{FoundRun}
use Rattle.pick_found.specs.FoundRun.{inputs_of}
use Rattle.pick_found.specs.CallsLaws.{files_room}
use Rattle.pick_search.specs.declared.Choice.{Choice}
use Rattle.pick_search.specs.declared.Runs.{Runs}
use Rattle.pick_search.specs.Choice.{runs_of, place_in, SearchInvariant, laid_choice}

-- ---- the records at places of three runs
module _ (files : List FileRecord) (r : Runs) where
  -- n of them from the j-th place on
  unfoldable pub placed : ℕ → ℕ → List FileRecord
  placed j zero = []
  placed j (suc n) = get_or files (place_in r j) past ∷ placed (j + 1) n

  -- the j-th, then the rest up to the n-th
  pub placed_turn : (j n : ℕ) → j < n → placed j (n - j) ≡ get_or files (place_in r j) past ∷ placed (j + 1) (n - (j + 1))
  unfolding placed
  placed_turn j n h = let e : n - j ≡ suc (n - (j + 1)) = omega arith in rw e

  -- none is left
  pub placed_ended : (j n : ℕ) → n ≤ j → placed j (n - j) ≡ []
  unfolding placed
  placed_ended j n h = let e : n - j ≡ 0 = omega arith in rw e

  -- in two parts
  placed_parts : (j n m : ℕ) → placed j (n + m) ≡ placed j n ++ placed (j + n) m
  unfolding placed
  placed_parts j zero m = rw (zero-add, add-zero)
  placed_parts j (suc n) m =
      let e : j + 1 + n ≡ j + suc n = omega arith in
      rw suc-add (ap (λ (rs : List FileRecord). get_or files (place_in r j) past ∷ rs) (placed_parts (j + 1) n m ∙ ap (λ (i : ℕ). placed (j + 1) n ++ placed i m) e))

  -- consecutive places give a run
  placed_run : (j n from : ℕ) → from + n ≤ length files → ((i : ℕ) → i < n → place_in r (j + i) ≡ from + i) → placed j n ≡ slice from (from + n) files
  unfolding placed
  placed_run j zero from h k = sym (run_past from (from + 0) files (omega arith))
  placed_run j (suc n) from h k =
      let a : j + 0 ≡ j = omega arith in
      let b : from + 0 ≡ from = omega arith in
      let at : place_in r j ≡ from = sym (ap (place_in r) a) ∙ k 0 (omega arith) ∙ b in
      let e : from + 1 + n ≡ from + suc n = omega arith in
      let rest : placed (j + 1) n ≡ slice (from + 1) (from + 1 + n) files = placed_run (j + 1) n (from + 1) (omega arith) (λ i l. next i l) in
      cc (at, rest, e, run_cons from (from + suc n) files past (omega arith) h)
    where
      next : (i : ℕ) → i < n → place_in r (j + 1 + i) ≡ from + 1 + i
      next i l =
          let a : j + 1 + i ≡ j + suc i = omega arith in
          let b : from + suc i ≡ from + 1 + i = omega arith in
          ap (place_in r) a ∙ k (suc i) (omega arith) ∙ b

-- ---- the chosen records of a pick
module _ (c : Choice) where
  -- the number of first inputs
  abbrev one : ℕ
  one = c.first.count

  -- the number of second inputs
  abbrev two : ℕ
  two = c.second.count

  -- the number of grandparents
  abbrev three : ℕ
  three = c.grand.count

  -- a place of the first run
  first_at_lem : (j : ℕ) → j < one → place_in (runs_of c) j ≡ c.first.from + j
  unfolding place_in runs_of
  first_at_lem j h = rw (lt-ltb j one h)

  -- a place of the second run
  second_at_lem : (j : ℕ) → one ≤ j → j < one + two → place_in (runs_of c) j ≡ c.second.from + (j - one)
  unfolding place_in runs_of
  second_at_lem j h k = rw (le-ltb j one h, lt-ltb j (one + two) k)

  -- a place of the third run
  third_at : (j : ℕ) → one + two ≤ j → place_in (runs_of c) j ≡ c.grand.from + (j - (one + two))
  unfolding place_in runs_of
  third_at j h = let k : one ≤ j = omega arith in rw (le-ltb j one k, le-ltb j (one + two) h)

  module _ (s : Store) (fs : List File) (k : ℕ) (h : well_store s ≡ true) (z : SearchInvariant s fs k c) where
    -- each place holds a file
    pub place_held : (j : ℕ) → j < (runs_of c).three → place_in (runs_of c) j < sum s.counts
    unfolding runs_of
    place_held j l = go (ltb j one) (ltb j (one + two)) refl refl
      where
        go : (t u : Bool) → ltb j one ≡ t → ltb j (one + two) ≡ u → place_in (runs_of c) j < sum s.counts
        go true u e f =
            let below = z.held_first.below in
            omega (arith, ltb-true j one e, first_at_lem j (ltb-true j one e))
        go false true e f =
            let below = z.held_second.below in
            omega (arith, ltb-false j one e, ltb-true j (one + two) f, second_at_lem j (ltb-false j one e) (ltb-true j (one + two) f))
        go false false e f =
            let below = z.held_grand.below in
            omega (arith, ltb-false j (one + two) f, third_at j (ltb-false j (one + two) f))

    -- the runs start within the room
    pub runs_start : ((runs_of c).first ≤ max_files) × ((runs_of c).second ≤ max_files) × ((runs_of c).third ≤ max_files)
    unfolding runs_of
    runs_start =
        let room = files_room s 0 h in
        let first = z.held_first.below in
        let second = z.held_second.below in
        let third = z.held_grand.below in
        (omega arith, omega arith, omega arith)

    module _ (shape : StoreShape s) where
      -- the records of files found
      abbrev records : FoundRun → List FileRecord
      records f = slice f.from (f.from + f.count) s.files

      -- they are the kept records of these files
      records_are : (f : FoundRun) → f.from + f.count ≤ sum s.counts → records f ≡ map record_of (inputs_of s f)
      unfolding inputs_of run
      records_are f below =
          let sound = levels.run_sound s.files s.counts f.from (f.from + f.count) below
          ((levels.sound_says s.files s.counts).1 ((levels.well_says s.files s.counts).0 (store.well_levels_lem s h)).sound) in
          sound_list_lem (records f) (each_slice Shaped f.from (f.from + f.count) s.files shape.records) sound

      -- the three runs joined
      all_placed : placed s.files (runs_of c) 0 (runs_of c).three ≡ records c.first ++ (records c.second ++ records c.grand)
      unfolding runs_of
      all_placed =
          let files = s.files in
          let r = runs_of c in
          let room = files_room s 0 h in
          let size = shape.files in
          let below_first = z.held_first.below in
          let below_second = z.held_second.below in
          let below_third = z.held_grand.below in
          let a : placed files r 0 one ≡ records c.first = placed_run files r 0 one c.first.from (omega arith) in_first in
          let b : placed files r (0 + one) two ≡ records c.second = placed_run files r (0 + one) two c.second.from (omega arith) in_second in
          let d : placed files r (0 + (one + two)) three ≡ records c.grand = placed_run files r (0 + (one + two)) three c.grand.from (omega arith) in_third in
          placed_parts files r 0 (one + two) three ∙ rw (placed_parts files r 0 one two, a, b, d) (append_assoc (records c.first) (records c.second) (records c.grand))
        where
          in_first : (i : ℕ) → i < one → place_in (runs_of c) (0 + i) ≡ c.first.from + i
          in_first i l = first_at_lem (0 + i) (omega arith) ∙ omega arith

          in_second : (i : ℕ) → i < two → place_in (runs_of c) (0 + one + i) ≡ c.second.from + i
          in_second i l = second_at_lem (0 + one + i) (omega arith) (omega arith) ∙ omega arith

          in_third : (i : ℕ) → i < three → place_in (runs_of c) (0 + (one + two) + i) ≡ c.grand.from + i
          in_third i l = third_at (0 + (one + two) + i) (omega arith) ∙ omega arith

      -- written one after another they are the pick's lists
      pub chosen_laid : put (vacant max_files) 0 (placed s.files (runs_of c) 0 (runs_of c).three) ≡ laid_choice s c
      unfolding laid_choice laid_out full join
      chosen_laid =
          let fs = inputs_of s c.first in
          let gs = inputs_of s c.second in
          let hs = inputs_of s c.grand in
          ap (put (vacant max_files) 0)
          (all_placed
          ∙ rw (records_are c.first z.held_first.below, records_are c.second z.held_second.below, records_are c.grand z.held_grand.below, append-nil hs)
          (sym (map-append record_of fs (gs ++ hs) ∙ ap (λ (rs : List FileRecord). map record_of fs ++ rs) (map-append record_of gs hs))))
