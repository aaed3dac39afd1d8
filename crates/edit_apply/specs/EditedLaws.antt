-- Laws of an edit on a store: its pointers and log number, its answer by the built survivors, and the tests before. Assumes nothing.
use Rattle.std.specs.Prelude.{ℕ, ◌≤◌, ◌≡◌, refl, true, false, not, ◌&&◌, ltb, length, take, set, Ok, Err}
use Rattle.std.proofs.Common.{sym, ◌∙◌, ltb-false}
use Rattle.std.proofs.Math.Path.{ap}
use mathlib.Core.List.Memᴰ.{head as here}
use mathlib.Core.List.Memᴰ.{tail as there}
use mathlib.Core.List.{List, [], ◌∷◌, ◌++◌, map}
use Rattle.std.proofs.Math.Option.{Option, some}
use Rattle.lemmas.specs.Order.{clash}
use Rattle.lemmas.specs.Lists.{all, distinct, join}
use Rattle.lemmas.specs.ListLaws.{and_right, both, all_in}
use Rattle.lemmas.specs.Maps.{map_set}
use Rattle.lemmas.specs.Each.{Each}
use Rattle.model.specs.Answer.{Answer, Refusal, gives, refused, ◌⇒◌, first_of}
use Rattle.model.specs.AnswerLaws.{first_of_after}
use Rattle.model.specs.File as file
use Rattle.model.specs.File.{File, State, full, numbers, good_file, well_formed, no_collision, levelwise, level_count, max_files}
use Rattle.model.specs.Edit as model
use Rattle.model.specs.Edit.{survivors_from, pointed, logged, applied, result_refusals, edit}
use Rattle.answers.specs.Outcome.{refusal_of, outcome_of, result_of, passed}
use Rattle.answers.specs.declared.Refusal as code
use Rattle.answers.specs.declared.Refusal.TheVariants.{Collision, Form}
use Rattle.keys.specs.Key.{key_of}
use Rattle.counters.specs.Counters.{counters_of, counters_record}
use Rattle.levels.specs.Levels.{well_levels, laid_out, counts_of}
use Rattle.store.specs.Store.{pointer_of, pointer_record, sound_pointer, well_pointer, state_of, store_of, well_store, on_store, stored, PointerShaped}
use Rattle.store.specs.StoreLaws as store
use Rattle.store.specs.declared.Pointer.{Pointer}
use Rattle.store.specs.declared.Store.{Store}
use Rattle.edit.specs.Edit.{edit_of, pointing_of}
use Rattle.edit.specs.EditLaws as edits
use Rattle.edit.specs.EditLaws.{Few}
use Rattle.edit.specs.declared.Edit.{Edit}
use Rattle.edit.specs.declared.Pointing.{Pointing}
use Rattle.edit_entries.specs.Entries.{checks}
use Rattle.answers.specs.OutcomeLaws.{passed_refused, passed_none, result_refused}
use Rattle.edit_entries.specs.EntryLaws.{Checked}
use Rattle.edit_plan.specs.Planning.{additions_fine, crowding}
use Rattle.edit_apply.specs.Apply.{pointed_by}

-- ---- pointers

-- setting pointers in turn, in their records
pointed_records : (qs : List Pointing) (os : List (Option (List ℕ))) → pointed_by qs (map pointer_record os) ≡ map pointer_record (pointed (map pointing_of qs) os)
unfolding pointed_by pointed pointing_of pointer_record
pointed_records [] os = refl
pointed_records (q ∷ qs) os =
    ap (pointed_by qs) (sym (map_set pointer_record os q.level (some (key_of q.key)))) ∙ pointed_records qs (set os q.level (some (key_of q.key)))

-- the pointers after an edit are the kept records of the model's
pub pointers_after : (ps : List Pointer) (e : Edit) → Each PointerShaped ps → all sound_pointer ps ≡ true → Few e
    → pointed_by (take e.pointing_count e.pointings) ps ≡ map pointer_record (pointed (edit_of e).pointers (map pointer_of ps))
pointers_after ps e shaped sound w =
    let qs = take e.pointing_count e.pointings in
    ap (pointed_by qs) (store.pointers_are ps shaped sound) ∙ pointed_records qs (map pointer_of ps)
    ∙ ap (λ (z : List model.Pointer). map pointer_record (pointed z (map pointer_of ps))) (sym (edits.pointers_are e w))

-- ---- the tests before the build: 14, 3, 9, the entries

-- an answer whose outcome is refused is refused, with the refusal's number
pub outcome_refused : {A : Type 0} (a : Answer A) (r : code.Refusal) → outcome_of a ≡ Err r → (n : ℕ) × (a ≡ refused n) × (refusal_of n ≡ r)
unfolding outcome_of
outcome_refused (gives x) r q = let z : true ≡ false = cc in clash refl z
outcome_refused (refused k) r q = (k, refl, cc)

-- an answer whose outcome is done has a result
pub outcome_done : {A : Type 0} (a : Answer A) → outcome_of a ≡ Ok tt → (x : A) × (a ≡ gives x)
unfolding outcome_of
outcome_done (gives x) q = (x, refl)
outcome_done (refused k) q = let z : true ≡ false = cc in clash refl z

-- ---- the answer by the plan and the built survivors

-- if neither 6 nor 8 applies there is room for all
pub crowding_room : (ns : List ℕ) → passed (crowding ns) ≡ Ok tt → length ns ≤ max_files
unfolding crowding full ◌⇒◌
crowding_room ns h = ltb-false max_files (length ns) (passed_none (crowding ns) h (ltb max_files (length ns) ⇒ 8) (there (here refl)))

-- 6 and 8 by a list of numbers that agrees with the survivors', then 7
result_refusals_lem : (ns : List ℕ) (ls : List (List File)) → distinct ns ≡ distinct (numbers (join ls)) → length ns ≡ length (join ls)
    → result_refusals full ls ≡ crowding ns ++ ((not (levelwise no_collision 0 ls) ⇒ 7) ∷ [])
unfolding result_refusals crowding
result_refusals_lem ns ls d n = rw (d, n)

module _ (s : Store) (m : model.Edit) (ns : List ℕ) (once : distinct ns ≡ distinct (numbers (join (survivors_from m 0 (state_of s).files)))) (total : length ns ≡ length (join (survivors_from m 0 (state_of s).files))) where
  -- 6 or 8 applies: the store unchanged
  pub rebuilt_crowded : (r : code.Refusal) → passed (crowding ns) ≡ Err r → Err r ≡ stored (first_of (result_refusals full (survivors_from m 0 (state_of s).files)) (applied m (state_of s)))
  unfolding stored
  rebuilt_crowded r h =
      let ls = survivors_from m 0 (state_of s).files in
      let last = (not (levelwise no_collision 0 ls) ⇒ 7) ∷ [] in
      let first = result_refused store_of (applied m (state_of s)) (crowding ns ++ last) r (passed_refused last (crowding ns) r h) in
      sym (ap (λ (rs : List Refusal). stored (first_of rs (applied m (state_of s)))) (result_refusals_lem ns ls once total) ∙ first)

  module _ (h : passed (crowding ns) ≡ Ok tt) where
    -- neither applies: 7 decides
    left : first_of (result_refusals full (survivors_from m 0 (state_of s).files)) (applied m (state_of s))
        ≡ first_of ((not (levelwise no_collision 0 (survivors_from m 0 (state_of s).files)) ⇒ 7) ∷ []) (applied m (state_of s))
    left =
        let ls = survivors_from m 0 (state_of s).files in
        ap (λ (rs : List Refusal). first_of rs (applied m (state_of s))) (result_refusals_lem ns ls once total)
        ∙ first_of_after (crowding ns) ((not (levelwise no_collision 0 ls) ⇒ 7) ∷ []) (applied m (state_of s)) (passed_none (crowding ns) h)

    -- survivors collide: the store unchanged, with 7
    pub rebuilt_colliding : levelwise no_collision 0 (survivors_from m 0 (state_of s).files) ≡ false
        → Err Collision ≡ stored (first_of (result_refusals full (survivors_from m 0 (state_of s).files)) (applied m (state_of s)))
    unfolding stored result_of first_of ◌⇒◌
    rebuilt_colliding c = sym (ap stored left ∙ rw c)

    -- none collide: the survivors, and only now the pointers and the log number
    pub rebuilt_done : levelwise no_collision 0 (survivors_from m 0 (state_of s).files) ≡ true
        → (t : Store) → t.files ≡ laid_out (survivors_from m 0 (state_of s).files) → t.counts ≡ counts_of (survivors_from m 0 (state_of s).files)
        → t.pointers ≡ map pointer_record (pointed m.pointers (state_of s).pointers) → t.counters ≡ counters_record (logged m.log (state_of s).counters)
        → Ok t ≡ stored (first_of (result_refusals full (survivors_from m 0 (state_of s).files)) (applied m (state_of s)))
    unfolding first_of ◌⇒◌ applied stored result_of store_of
    rebuilt_done apart t f n p c =
        let none : first_of ((not (levelwise no_collision 0 (survivors_from m 0 (state_of s).files)) ⇒ 7) ∷ []) (applied m (state_of s)) ≡ gives (applied m (state_of s)) = rw apart in
        (λ i. Ok (record { files = f i; counts = n i; pointers = p i; counters = c i })) ∙ ap stored (sym (left ∙ none))

-- ---- the tests of the state and the entries

module _ (t : State) (m : model.Edit) where
  -- not well-formed: 14
  edit_ill : well_formed full t ≡ false → edit full t m ≡ refused 14
  unfolding edit first_of ◌⇒◌
  edit_ill h = rw h

  -- well-formed: the entries are tested, then the survivors
  edit_formed : well_formed full t ≡ true → edit full t m ≡ first_of (checks t.counters m ++ result_refusals full (survivors_from m 0 t.files)) (applied m t)
  unfolding edit first_of ◌⇒◌ checks
  edit_formed h = rw h

module _ (s : Store) (m : model.Edit) where
  -- a store that is not well-formed: 14
  pub apply_ill : well_store s ≡ false → Err Form ≡ stored (on_store s (λ t. edit full t m))
  unfolding stored result_of
  apply_ill h = ap stored (sym (store.on_store_ill s (λ t. edit full t m) (edit_ill (state_of s) m) h))

  module _ (well : well_store s ≡ true) where
    -- the call's answer for a well-formed store's state
    formed : on_store s (λ t. edit full t m) ≡ first_of (checks (state_of s).counters m ++ result_refusals full (survivors_from m 0 (state_of s).files)) (applied m (state_of s))
    formed = store.on_store_well s (λ t. edit full t m) well ∙ edit_formed (state_of s) m ((store.well_says s).0 well).formed

    -- a test of the entries applies: the store unchanged
    pub apply_unfit : (r : code.Refusal) → passed (checks (state_of s).counters m) ≡ Err r → Err r ≡ stored (on_store s (λ t. edit full t m))
    unfolding stored
    apply_unfit r p =
        let cs = checks (state_of s).counters m in
        let rs = result_refusals full (survivors_from m 0 (state_of s).files) in
        sym (ap stored formed ∙ result_refused store_of (applied m (state_of s)) (cs ++ rs) r (passed_refused rs cs r p))

    -- none applies: 6, 8, 7 or the new state
    pub apply_fit : passed (checks (state_of s).counters m) ≡ Ok tt
        → stored (first_of (result_refusals full (survivors_from m 0 (state_of s).files)) (applied m (state_of s))) ≡ stored (on_store s (λ t. edit full t m))
    apply_fit p =
        let cs = checks (state_of s).counters m in
        let rs = result_refusals full (survivors_from m 0 (state_of s).files) in
        ap stored (sym (formed ∙ first_of_after cs rs (applied m (state_of s)) (passed_none cs p)))

-- ---- what the build requires

-- the additions of an edit that passes its tests have right levels and good files
pub checked_fine : (c : file.Counters) (m : model.Edit) → Checked c m → additions_fine m ≡ true
unfolding additions_fine
checked_fine c m k =
    (all_in (λ (a : model.Addition). ltb a.level full.levels && good_file full a.file) m.additions).1
    (λ a i. both (ltb a.level full.levels) (good_file full a.file) ((all_in (λ (a : model.Addition). ltb a.level full.levels) m.additions).0 k.addition_levels a i)
    ((all_in (λ (a : model.Addition). good_file full a.file) m.additions).0 k.files a i))

-- the levels of a well-formed store are well-formed
pub well_levels_lem : (s : Store) → length s.pointers ≡ level_count → well_store s ≡ true → well_levels s.files s.counts ≡ true
well_levels_lem s q h =
    and_right (file.good_counters (counters_of s.counters) && all well_pointer s.pointers) (well_levels s.files s.counts) (sym (store.well_is s q) ∙ h)
