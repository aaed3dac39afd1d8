-- Laws of the chosen files copied one by one: their places are within the room, and each turn copies one more. Assumes nothing.
use Rattle.std.specs.Prelude.{ℕ, ◌+◌, ◌-◌, ◌≤◌, ◌<◌, ◌≡◌, true, List, length, get_or, set}
use Rattle.std.proofs.Common.{sym, ◌∙◌, length-set}
use Rattle.std.proofs.Math.Path.{ap}
use native.Mathlib.Omega.{arith}
use Rattle.std.proofs.Math.ListN.{length-replicate}
use Rattle.lemmas.specs.Slices.{put, put_cons, put_nil}
use Rattle.model.specs.File.{max_files}
use Rattle.records.specs.Record.{blank, vacant, past}
use Rattle.records.specs.declared.FileRecord.{FileRecord}
use Rattle.store.specs.declared.Store.{Store}
use Rattle.store.specs.Store.{well_store, StoreShape}
use Rattle.pick_found.specs.CallsLaws.{files_room}
use Rattle.pick_search.specs.declared.Choice.{Choice}
use Rattle.pick_search.specs.Choice.{runs_of, place_in, laid_choice}
use Rattle.pick_search.specs.Search.{Placed}
use Rattle.pick_search.specs.InvariantLaws.{invariant_room}
use Rattle.pick_search.specs.LaidLaws.{placed, placed_turn, placed_ended, place_held, runs_start, chosen_laid}

module _ (s : Store) (c : Choice) where
  -- the array after j files: writing the rest gives all chosen files
  pub record Laying (out : List FileRecord) (j : ℕ) : Type 0 where
    pub some_of : j ≤ (runs_of c).three
    pub room : length out ≡ max_files
    pub holds : put out j (placed s.files (runs_of c) j ((runs_of c).three - j)) ≡ put (vacant max_files) 0 (placed s.files (runs_of c) 0 (runs_of c).three)

  -- at first no file is copied
  pub laying_starts : Laying (vacant max_files) 0
  unfolding vacant
  laying_starts =
      let e : (runs_of c).three - 0 ≡ (runs_of c).three = omega arith in
      record { some_of = omega arith; room = length-replicate max_files blank; holds = ap (λ (n : ℕ). put (vacant max_files) 0 (placed s.files (runs_of c) 0 n)) e }

  module _ (well : well_store s ≡ true) (p : Placed s c) where
    -- the chosen files are within the room
    pub counts_room : c.first.count + c.second.count + c.grand.count ≤ max_files
    counts_room = invariant_room s well p.inputs p.search c p.stands

    -- the same for the runs
    pub three_room : (runs_of c).three ≤ max_files
    unfolding runs_of
    three_room = counts_room

    -- their runs start within the room
    pub starts_room : ((runs_of c).first ≤ max_files) × ((runs_of c).second ≤ max_files) × ((runs_of c).third ≤ max_files)
    starts_room = runs_start c s p.inputs p.search well p.stands

    -- their places are within the room
    pub place_room : (j : ℕ) → j < (runs_of c).three → place_in (runs_of c) j < max_files
    place_room j l =
        let held = place_held c s p.inputs p.search well p.stands j l in
        omega (arith, files_room s 0 well)

    -- a turn copies one file more
    pub laying_turn : (out : List FileRecord) (j : ℕ) → Laying out j → j < (runs_of c).three → Laying (set out j (get_or s.files (place_in (runs_of c) j) past)) (j + 1)
    laying_turn out j g l =
        let r = runs_of c in
        let x = get_or s.files (place_in r j) past in
        let few = three_room in
        record {
          some_of = omega arith;
          room = length-set out j x ∙ g.room;
          holds = put_cons out j x (placed s.files r (j + 1) (r.three - (j + 1))) (omega (arith, g.room)) ∙ ap (put out j) (sym (placed_turn s.files r j r.three l)) ∙ g.holds;
        }

    -- at the end all are copied
    pub laying_ended : StoreShape s → (out : List FileRecord) (j : ℕ) → Laying out j → (runs_of c).three ≤ j → out ≡ laid_choice s c
    laying_ended shape out j g l =
        let r = runs_of c in
        sym (ap (put out j) (placed_ended s.files r j r.three l) ∙ put_nil out j) ∙ g.holds ∙ chosen_laid c s p.inputs p.search well p.stands shape
