-- `edit_apply::apply` meets its contract: the look tells whether the store is well-formed, the entries pass, and the plan on the column of the base's numbers
-- is the store's. Assumes nothing.
use Rattle.std.proofs.Common.{◌≡◌, ℕ, ◌≤◌, true, List, map, length, replicate, take, length-take-le, sym, ap, ◌∙◌, arith, rules, Ok}
use borrow.Author.Tests.{not-true, not-false}
use Rattle.lemmas.specs.Lists.{sum}
use Rattle.lemmas.specs.Slices.{put}
use Rattle.lemmas.specs.Owned.{each_owned}
use Rattle.model.specs.File.{max_files, numbers as numbers_in}
use Rattle.records.specs.Record.{Shaped, AllShaped}
use Rattle.records.specs.Run.{run}
use Rattle.records.specs.contracts.FileRecord as record_type
use Rattle.records.proofs.Shape.{shaped as record_shaped}
use Rattle.edit_merge.specs.declared.Merged.{Merged}
use Rattle.edit_merge.specs.contracts.Merged as merged_type
use mir.Val.{Val}
use denote.Laws.{Is}
use Rattle.store.specs.declared.Store.{Store}
use Rattle.store.specs.declared.Numbered.{Numbered}
use Rattle.store.specs.Store.{state_of, well_store, numbered_of, StoreShape}
use Rattle.store.specs.StoreLaws.{look_numbers}
use Rattle.store.proofs.Shape.{shape}
use Rattle.edit.specs.declared.Edit.{Edit}
use Rattle.edit.specs.Edit.{edit_of}
use Rattle.edit.specs.EditLaws.{HasRoom}
use Rattle.edit.proofs.Shape.{has_room}
use Rattle.answers.specs.Outcome.{passed}
use Rattle.answers.specs.OutcomeLaws.{handed_on}
use Rattle.edit_entries.specs.Entries.{checks}
use Rattle.edit_stayers.specs.Stayers.{record_number}
use Rattle.edit_plan.specs.PlanLaws.{column_is}
use Rattle.edit_apply.specs.EditedLaws.{apply_ill, apply_unfit}
use Rattle.edit_apply.specs.TestedLaws as tested
use Rattle.edit_apply.proofs.apply.Goals as goal

-- a store that the look tells to be well-formed is
seen_well : (s : Store) (v : Numbered) → v ≡ numbered_of s → v.well ≡ true → well_store s ≡ true
unfolding numbered_of
seen_well s v e h = sym (ap (λ (v : Numbered). v.well) e) ∙ h

-- the survivors' records have their lengths
merged_shaped : (m : Merged) (vs : List Val) → Is merged_type.the_row m vs → AllShaped m.files
merged_shaped m vs is =
    let files = is.1.1.0 in
    each_owned (record_type.the_row).own_val Shaped record_shaped m.files files.0 files.1.1

-- the numbers that the look has told of, as they are lent, are those of the base
lent : (s : Store) (e : Edit) (v : Numbered) → StoreShape s → HasRoom e → length v.numbers ≡ max_files → v ≡ numbered_of s → well_store s ≡ true
    → passed (checks (state_of s).counters (edit_of e)) ≡ Ok tt
    → (v.total ≤ length v.numbers) × (take v.total v.numbers ≡ map record_number (take (sum s.counts) s.files))
lent s e v shaped roomy q told h fit =
    let seen = look_numbers s h shaped.files in
    let total : v.total ≡ sum s.counts = ap (λ (v : Numbered). v.total) told ∙ seen.1 in
    let numbers : v.numbers ≡ put (replicate max_files 0) 0 (numbers_in (run 0 v.total s.files)) =
    ap (λ (v : Numbered). v.numbers) told ∙ seen.0 ∙ ap (λ (k : ℕ). put (replicate max_files 0) 0 (numbers_in (run 0 k s.files))) (sym total) in
    let room = tested.base_room s e shaped roomy h fit in
    (omega arith, column_is s.files (sum s.counts) v.total v.numbers (omega arith) total numbers)

pub returns-then-not-look : goal.returns-then-not-look
unfolding numbered_of
returns-then-not-look c =
    apply_ill c.args.s (edit_of c.args.e) (sym (ap (λ (v : Numbered). v.well) c.look_numbers-look.ensures) ∙ not-true c.look_numbers-look.result.well c.if-not-look.true)

pub returns-in_err-check : goal.returns-in_err-check
unfolding state_of
returns-in_err-check c =
    let v = c.look_numbers-look.result in
    let well = seen_well c.args.s v c.look_numbers-look.ensures (not-false v.well c.if-not-look.false) in
    handed_on _ _ c.from_residual.ensures.1 ∙ apply_unfit c.args.s (edit_of c.args.e) well _ (sym c.check.ensures ∙ c.in_err-check.was)

pub slice_bounds-column-end : goal.slice_bounds-column-end
unfolding state_of
slice_bounds-column-end c =
    let s = c.args.s in
    let v = c.look_numbers-look.result in
    let well = seen_well s v c.look_numbers-look.ensures (not-false v.well c.if-not-look.false) in
    let q : length v.numbers ≡ max_files = search rules in
    (lent s c.args.e v (shape s _ c.well_formed.0) (has_room c.args.e _ c.well_formed.1.0) q c.look_numbers-look.ensures well (sym c.check.ensures ∙ c.in_ok-check.was)).0

pub plan_for-p-requires : goal.plan_for-p-requires
unfolding state_of
plan_for-p-requires c =
    let s = c.args.s in
    let v = c.look_numbers-look.result in
    let shaped = shape s _ c.well_formed.0 in
    let roomy = has_room c.args.e _ c.well_formed.1.0 in
    let well = seen_well s v c.look_numbers-look.ensures (not-false v.well c.if-not-look.false) in
    let fit = sym c.check.ensures ∙ c.in_ok-check.was in
    let q : length v.numbers ≡ max_files = search rules in
    tested.plannable s c.args.e shaped roomy well fit _ (lent s c.args.e v shaped roomy q c.look_numbers-look.ensures well fit).1

pub slice_bounds-plan_for-end : goal.slice_bounds-plan_for-end
unfolding state_of
slice_bounds-plan_for-end c =
    let s = c.args.s in
    let v = c.look_numbers-look.result in
    let shaped = shape s _ c.well_formed.0 in
    let roomy = has_room c.args.e _ c.well_formed.1.0 in
    let well = seen_well s v c.look_numbers-look.ensures (not-false v.well c.if-not-look.false) in
    let fit = sym c.check.ensures ∙ c.in_ok-check.was in
    let q : length v.numbers ≡ max_files = search rules in
    let column = lent s c.args.e v shaped roomy q c.look_numbers-look.ensures well fit in
    sym (length-take-le v.total v.numbers column.0)

pub returns-in_err-p : goal.returns-in_err-p
unfolding state_of
returns-in_err-p c =
    let s = c.args.s in
    let v = c.look_numbers-look.result in
    let shaped = shape s _ c.well_formed.0 in
    let roomy = has_room c.args.e _ c.well_formed.1.0 in
    let well = seen_well s v c.look_numbers-look.ensures (not-false v.well c.if-not-look.false) in
    let fit = sym c.check.ensures ∙ c.in_ok-check.was in
    let q : length v.numbers ≡ max_files = search rules in
    let column = lent s c.args.e v shaped roomy q c.look_numbers-look.ensures well fit in
    let planned = tested.planned_is s c.args.e shaped roomy well fit _ column.1 c.plan_for-p.result c.plan_for-p.ensures in
    handed_on _ _ c.from_residual-in_err-p.ensures.1 ∙ tested.answer_crowded s c.args.e shaped roomy well fit c.plan_for-p.result planned _ c.in_err-p.was

pub survive-merged-requires : goal.survive-merged-requires
unfolding state_of
survive-merged-requires c =
    let s = c.args.s in
    let v = c.look_numbers-look.result in
    let shaped = shape s _ c.well_formed.0 in
    let roomy = has_room c.args.e _ c.well_formed.1.0 in
    let well = seen_well s v c.look_numbers-look.ensures (not-false v.well c.if-not-look.false) in
    let fit = sym c.check.ensures ∙ c.in_ok-check.was in
    let q : length v.numbers ≡ max_files = search rules in
    let column = lent s c.args.e v shaped roomy q c.look_numbers-look.ensures well fit in
    (well, fit, tested.planned_is s c.args.e shaped roomy well fit _ column.1 c.plan_for-p.result c.plan_for-p.ensures, c.in_ok-p.was)

pub returns-then-not-merged : goal.returns-then-not-merged
unfolding state_of
returns-then-not-merged c =
    let s = c.args.s in
    let v = c.look_numbers-look.result in
    let shaped = shape s _ c.well_formed.0 in
    let roomy = has_room c.args.e _ c.well_formed.1.0 in
    let well = seen_well s v c.look_numbers-look.ensures (not-false v.well c.if-not-look.false) in
    let fit = sym c.check.ensures ∙ c.in_ok-check.was in
    let q : length v.numbers ≡ max_files = search rules in
    let column = lent s c.args.e v shaped roomy q c.look_numbers-look.ensures well fit in
    let planned = tested.planned_is s c.args.e shaped roomy well fit _ column.1 c.plan_for-p.result c.plan_for-p.ensures in
    let m = c.survive-merged in
    tested.answer_colliding s c.args.e shaped roomy well fit c.plan_for-p.result planned c.in_ok-p.was m.result m.ensures (not-true m.result.fits c.if-not-merged.true)

pub accepted-requires : goal.accepted-requires
unfolding state_of
accepted-requires c =
    let s = c.args.s in
    let v = c.look_numbers-look.result in
    let shaped = shape s _ c.well_formed.0 in
    let roomy = has_room c.args.e _ c.well_formed.1.0 in
    let well = seen_well s v c.look_numbers-look.ensures (not-false v.well c.if-not-look.false) in
    let fit = sym c.check.ensures ∙ c.in_ok-check.was in
    let q : length v.numbers ≡ max_files = search rules in
    let column = lent s c.args.e v shaped roomy q c.look_numbers-look.ensures well fit in
    let planned = tested.planned_is s c.args.e shaped roomy well fit _ column.1 c.plan_for-p.result c.plan_for-p.ensures in
    (tested.counts_room s c.args.e shaped roomy well fit c.plan_for-p.result planned c.in_ok-p.was, (tested.within s c.args.e shaped roomy well fit).pointings)

pub returns : goal.returns
unfolding state_of
returns c =
    let s = c.args.s in
    let v = c.look_numbers-look.result in
    let shaped = shape s _ c.well_formed.0 in
    let roomy = has_room c.args.e _ c.well_formed.1.0 in
    let well = seen_well s v c.look_numbers-look.ensures (not-false v.well c.if-not-look.false) in
    let fit = sym c.check.ensures ∙ c.in_ok-check.was in
    let q : length v.numbers ≡ max_files = search rules in
    let column = lent s c.args.e v shaped roomy q c.look_numbers-look.ensures well fit in
    let planned = tested.planned_is s c.args.e shaped roomy well fit _ column.1 c.plan_for-p.result c.plan_for-p.ensures in
    let m = c.survive-merged in
    let records : AllShaped m.result.files = merged_shaped m.result _ m.type_inv in
    ap Ok c.accepted.ensures
    ∙ tested.answer_done s c.args.e shaped roomy well fit c.plan_for-p.result planned c.in_ok-p.was m.result m.ensures (not-false m.result.fits c.if-not-merged.false) records
