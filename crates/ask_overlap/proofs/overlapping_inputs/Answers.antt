-- `overlapping_inputs` meets its contract: 14, 1, 2, then the files that one search finds. Assumes nothing.
use Rattle.std.proofs.Common.{◌≡◌, length, refl, sym, ap, subst, ◌∙◌, Ok, Err}
use Rattle.lemmas.specs.ListLaws.{both}
use Rattle.model.specs.File.{full, level, max_files}
use Rattle.model.specs.Key.{good_key}
use Rattle.model.specs.Range.{Range, between, overlapping}
use Rattle.answers.specs.Outcome.{result_of}
use Rattle.answers.specs.OutcomeLaws.{handed_on, refusal_of_number}
use Rattle.keys.specs.Key.{key_of}
use Rattle.level_list.specs.List.{listed}
use Rattle.store.specs.Store.{state_of}
use Rattle.store.proofs.Shape as store_shape
use Rattle.pick_range.specs.Ranges.{span_of}
use Rattle.pick_range.specs.RangesLaws.{span_between}
use Rattle.pick_found.specs.CallsLaws.{wrong_left, wrong_right}
use Rattle.pick_search.specs.Choice.{SearchInvariant}
use Rattle.ask_overlap.specs.CallsLaws.{tests_passed, inputs_refused, inputs_key, inputs_done, one_listed}
use Rattle.ask_overlap.proofs.overlapping_inputs.Goals as goal

pub returns-in_err-check_level : goal.returns-in_err-check_level
unfolding listed result_of
returns-in_err-check_level c =
    let a = c.args in
    let r = c.in_err-check_level.field-0.0 in
    handed_on _ _ c.from_residual.ensures.1
    ∙ ap Err (sym (refusal_of_number r))
    ∙ ap listed (sym (inputs_refused a.s a.level (key_of a.start) (key_of a.stop) r (sym c.check_level.ensures ∙ c.in_err-check_level.was)))

pub returns-then-not-is_good : goal.returns-then-not-is_good
unfolding listed result_of
returns-then-not-is_good c =
    let a = c.args in
    let t = tests_passed a.s a.level _ (sym c.check_level.ensures ∙ c.in_ok-check_level.was) in
    let wrong = wrong_left (good_key full.longest (key_of a.start)) (good_key full.longest (key_of a.stop)) (sym c.is_good.ensures ∙ c.if-not-is_good.true) in
    ap listed (sym (inputs_key a.s a.level (key_of a.start) (key_of a.stop) t.0 t.1 wrong))

pub returns-then-not-is_good-2 : goal.returns-then-not-is_good-2
unfolding listed result_of
returns-then-not-is_good-2 c =
    let a = c.args in
    let t = tests_passed a.s a.level _ (sym c.check_level.ensures ∙ c.in_ok-check_level.was) in
    let start = sym c.is_good.ensures ∙ c.if-not-is_good.false in
    let wrong = wrong_right (good_key full.longest (key_of a.start)) (good_key full.longest (key_of a.stop)) start (sym c.is_good-2.ensures ∙ c.if-not-is_good-2.true) in
    ap listed (sym (inputs_key a.s a.level (key_of a.start) (key_of a.stop) t.0 t.1 wrong))

pub overlap_of-chosen-requires : goal.overlap_of-chosen-requires
overlap_of-chosen-requires c = tests_passed c.args.s c.args.level _ (sym c.check_level.ensures ∙ c.in_ok-check_level.was)

pub returns : goal.returns
unfolding listed result_of
returns c =
    let a = c.args in
    let t = tests_passed a.s a.level _ (sym c.check_level.ensures ∙ c.in_ok-check_level.was) in
    let start = sym c.is_good.ensures ∙ c.if-not-is_good.false in
    let keys = both (good_key full.longest (key_of a.start)) (good_key full.longest (key_of a.stop)) start (sym c.is_good-2.ensures ∙ c.if-not-is_good-2.false) in
    let fs = overlapping a.level (level (state_of a.s) a.level) (between (key_of a.start) (key_of a.stop)) in
    let r = c.overlap_of-chosen.result in
    let span : span_of c.between-span.result ≡ between (key_of a.start) (key_of a.stop) = ap span_of c.between-span.ensures ∙ span_between a.start a.stop in
    let chosen : SearchInvariant a.s fs 1 r.choice =
    subst (λ (x : Range). SearchInvariant a.s (overlapping a.level (level (state_of a.s) a.level) x) 1 r.choice) span c.overlap_of-chosen.ensures.stands in
    let long : length a.s.files ≡ max_files = (store_shape.shape a.s _ c.well_formed.0).files in
    let files = one_listed a.s t.0 long fs r.choice chosen (record { files = r.files; count = r.choice.first.count }) c.overlap_of-chosen.ensures.files refl in
    ap Ok files ∙ ap listed (sym (inputs_done a.s a.level (key_of a.start) (key_of a.stop) t.0 t.1 keys))
