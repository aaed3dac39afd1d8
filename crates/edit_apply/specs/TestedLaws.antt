-- Laws of an edit whose store and entries have passed their tests: what its plan requires and says, and the answer by its survivors. Assumes nothing.
use Rattle.std.specs.Prelude.{ℕ, ◌+◌, ◌≤◌, ◌≡◌, true, false, length, take, Ok, Err}
use Rattle.std.proofs.Math.Path.{refl, ap}
use Rattle.std.proofs.Common.{sym, ◌∙◌, arith}
use mathlib.Core.List.{List, map}
use Rattle.lemmas.specs.Lists.{distinct, join, sum}
use Rattle.lemmas.specs.Slices.{parts}
use Rattle.model.specs.File.{full, numbers, in_order, levelwise, no_collision, max_additions, max_files}
use Rattle.model.specs.Edit.{survivors_from, edit}
use Rattle.answers.specs.declared.Refusal as code
use Rattle.answers.specs.declared.Refusal.TheVariants.{Collision}
use Rattle.records.specs.Record.{AllShaped}
use Rattle.records.specs.declared.FileRecord.{FileRecord}
use Rattle.levels.specs.Levels.{levels_of}
use Rattle.levels.specs.LevelsLaws as levels
use Rattle.store.specs.Store.{state_of, well_store, on_store, stored, StoreShape}
use Rattle.store.specs.StoreLaws.{sound_says, well_says}
use Rattle.store.specs.declared.Store.{Store}
use Rattle.edit.specs.Edit.{edit_of}
use Rattle.edit.specs.EditLaws.{HasRoom, Few, few}
use Rattle.edit.specs.declared.Edit.{Edit}
use Rattle.answers.specs.Outcome.{passed}
use Rattle.edit_entries.specs.Entries.{checks}
use Rattle.edit_entries.specs.EntryLaws.{Checked, checks_say}
use Rattle.edit_stayers.specs.Stayers.{record_number, number_at, is_below, records_at}
use Rattle.edit_order.specs.Arrangement.{are_levels}
use Rattle.edit_merge.specs.Builder.{files_of, merges, merged_of}
use Rattle.edit_merge.specs.declared.Merged.{Merged}
use Rattle.edit_plan.specs.Planning.{levels_in, news_of, stay_places, crowding, united}
use Rattle.edit_apply.specs.Apply.{Plannable, plan_by, plan_for, accepted_by}
use Rattle.edit_plan.specs.BuildLaws.{Ready, made_fits, made_is, survivors_length}
use Rattle.edit_plan.specs.PlanLaws as plan
use Rattle.edit_apply.specs.EditedLaws.{pointers_after, checked_fine, well_levels_lem, crowding_room, rebuilt_crowded, rebuilt_colliding, rebuilt_done, apply_fit}
use Rattle.edit_plan.specs.declared.EditPlan.{EditPlan}

module _ (s : Store) (e : Edit) (shape : StoreShape s) (roomy : HasRoom e) (well : well_store s ≡ true) (fit : passed (checks (state_of s).counters (edit_of e)) ≡ Ok tt) where
  -- what is known of the edit
  checked : Checked (state_of s).counters (edit_of e)
  checked = checks_say (state_of s).counters (edit_of e) fit

  -- its counts are within its room
  pub within : Few e
  within = few e roomy checked.few

  -- the store's levels are well-formed, and the additions have right levels and good files
  ready : Ready s.files s.counts (edit_of e)
  ready = record {
    room = shape.files;
    seven = shape.counts;
    well = (levels.well_says s.files s.counts).0 (well_levels_lem s shape.pointers well);
    fine = checked_fine (state_of s).counters (edit_of e) checked;
  }

  -- the base is within the room
  pub base_room : sum s.counts ≤ max_files
  base_room = ready.well.sound.room

  -- the numbers of the base
  abbrev pub base : List ℕ
  base = map record_number (take (sum s.counts) s.files)

  -- there are as many as files
  pub base_length : length base ≡ sum s.counts
  base_length = plan.column_length s.files s.counts e roomy within ready base refl

  -- no number stands twice among the stayers
  pub base_distinct : distinct (map (number_at base) (join (stay_places base s.counts (take e.deletion_count e.deletions) (take e.addition_count e.additions)))) ≡ true
  base_distinct = plan.stay_distinct s.files s.counts e roomy within ready base refl

  -- the additions' levels are among the seven
  pub new_fine : are_levels (levels_in (take e.addition_count e.additions)) ≡ true
  new_fine = plan.levels_fine s.files s.counts e roomy within ready base refl

  -- so a column of them can be planned with, and what is planned is what the edit will make of the store
  pub plannable : (column : List ℕ) → column ≡ base → Plannable column s.counts e
  plannable column q =
      let long = ap length q ∙ base_length in
      let room = base_room in
      record {
        counted = omega arith;
        room = omega arith;
        distinct_stay = rw q base_distinct;
        deletions = within.deletions;
        additions = within.additions;
        levels = new_fine;
      }

  pub planned_is : (column : List ℕ) → column ≡ base → (p : EditPlan) → p ≡ plan_by column s.counts e → p ≡ plan_for s e
  unfolding plan_for
  planned_is column q p r = r ∙ ap (λ (z : List ℕ). plan_by z s.counts e) q

  -- the numbers of all survivors
  abbrev every : List ℕ
  every = plan.every s.files s.counts e roomy within ready base refl

  -- refusal 6, by them
  once : distinct every ≡ distinct (numbers (join (survivors_from (edit_of e) 0 (levels_of s.files s.counts))))
  once = plan.once_is s.files s.counts e roomy within ready base refl

  -- refusal 8, by them
  total : length every ≡ length (join (survivors_from (edit_of e) 0 (levels_of s.files s.counts)))
  total = plan.total_is s.files s.counts e roomy within ready base refl

  module _ (p : EditPlan) (q : p ≡ plan_for s e) where
    -- the plan says whether one applies
    says : p.outcome ≡ passed (crowding every)
    unfolding plan_for plan_by
    says = plan.plan_outcome s.files s.counts e roomy within ready base refl p q

    -- one applies: the store unchanged
    pub answer_crowded : (r : code.Refusal) → p.outcome ≡ Err r → Err r ≡ stored (on_store s (λ t. edit full t (edit_of e)))
    unfolding state_of
    answer_crowded r h = rebuilt_crowded s (edit_of e) every once total r (sym says ∙ h) ∙ apply_fit s (edit_of e) well fit

    module _ (done : p.outcome ≡ Ok tt) where
      -- neither applies
      clear : passed (crowding every) ≡ Ok tt
      clear = sym says ∙ done

      -- the survivors are within the room
      pub counts_room : sum p.counts + sum p.new_counts ≤ max_files
      unfolding plan_for plan_by
      counts_room = omega (arith, crowding_room every clear, plan.plan_total s.files s.counts e roomy within ready base refl p q)

      -- the additions are within an edit's room
      pub news_room : sum p.new_counts ≤ max_additions
      unfolding plan_for plan_by
      news_room = let w = within.additions in omega (arith, plan.plan_news s.files s.counts e roomy within ready base refl p q)

      -- the plan's places are places of the base
      pub places_below : is_below max_files p.places ≡ true
      unfolding plan_for plan_by
      places_below = plan.plan_places s.files s.counts e roomy within ready base refl p q

      -- its order is places of the additions
      pub order_below : is_below max_additions p.order ≡ true
      unfolding plan_for plan_by
      order_below = plan.plan_order s.files s.counts e roomy within ready base refl p q

      -- the stayers are in order
      pub stay_ordered : levelwise in_order 0 (files_of (parts (records_at s.files p.places) p.counts)) ≡ true
      unfolding plan_for plan_by
      stay_ordered = plan.plan_ordered s.files s.counts e roomy within ready base refl p q

      -- merging by the plan merges stayers and additions
      pub merged_is : (news : List FileRecord) → news ≡ news_of (take e.addition_count e.additions)
          → merged_of (merges (parts (records_at s.files p.places) p.counts) (parts (records_at news p.order) p.new_counts)) ≡ merged_of (united s.files s.counts (edit_of e))
      unfolding plan_for plan_by
      merged_is news f = plan.plan_merged s.files s.counts e roomy within ready base refl p q news f

      module _ (x : Merged) (u : x ≡ merged_of (united s.files s.counts (edit_of e))) where
        -- `fits` tells whether 7 applies
        collide : x.fits ≡ levelwise no_collision 0 (survivors_from (edit_of e) 0 (levels_of s.files s.counts))
        collide = made_fits s.files s.counts (edit_of e) ready x u

        -- it applies: the store unchanged
        pub answer_colliding : x.fits ≡ false → Err Collision ≡ stored (on_store s (λ t. edit full t (edit_of e)))
        unfolding state_of
        answer_colliding h = rebuilt_colliding s (edit_of e) every once total clear (sym collide ∙ h) ∙ apply_fit s (edit_of e) well fit

        -- it does not: the store that the edit leaves
        pub answer_done : x.fits ≡ true → AllShaped x.files → Ok (accepted_by s e p x.files) ≡ stored (on_store s (λ t. edit full t (edit_of e)))
        unfolding plan_for plan_by accepted_by state_of edit_of
        answer_done h shaped =
            let sound = (sound_says s).0 ((well_says s).0 well).sound in
            let room = crowding_room every clear in
            let survive = survivors_length s.files s.counts (edit_of e) ready in
            let counts = plan.plan_counts s.files s.counts e roomy within ready base refl p q in
            let made = made_is s.files s.counts (edit_of e) ready x u (accepted_by s e p x.files).counts counts (omega (arith, total)) shaped in
            rebuilt_done s (edit_of e) every once total clear (sym collide ∙ h) (accepted_by s e p x.files) made.0 made.1 (pointers_after s.pointers e shape.keys sound.pointers within) refl
            ∙ apply_fit s (edit_of e) well fit
