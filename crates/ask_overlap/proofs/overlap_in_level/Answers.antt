-- `overlap_in_level` meets its contract: 14, 1, 2, then whether some file of the level overlaps. Assumes nothing.
use Rattle.std.proofs.Common.{◌≡◌, ℕ, ◌+◌, length, get_or, sym, ap, ◌∙◌, arith}
use Rattle.lemmas.specs.ListLaws.{both}
use Rattle.lemmas.specs.Lists.{any}
use Rattle.model.specs.Answer.{gives}
use Rattle.model.specs.File.{full, level_count}
use Rattle.model.specs.Key.{good_user}
use Rattle.model.specs.Range.{overlaps}
use Rattle.answers.specs.Outcome.{answer_of}
use Rattle.answers.specs.OutcomeLaws.{handed_on}
use Rattle.keys.specs.Key.{user_of}
use Rattle.records.specs.Run.{run}
use Rattle.store.proofs.Shape as store_shape
use Rattle.pick_range.specs.Ranges.{span_of}
use Rattle.pick_found.specs.FoundRun.{start_at, end_at}
use Rattle.pick_found.specs.CallsLaws.{wrong_left, wrong_right, level_ends, files_room}
use Rattle.ask_overlap.specs.CallsLaws.{tests_passed, told_refused, told_key, told_done}
use Rattle.ask_overlap.proofs.overlap_in_level.Goals as goal

pub returns-in_err-check_level : goal.returns-in_err-check_level
unfolding answer_of
returns-in_err-check_level c =
    let a = c.args in
    rw (handed_on _ _ c.from_residual.ensures.1)
    (sym (told_refused a.s a.level (user_of a.start) (user_of a.stop) c.in_err-check_level.field-0.0 (sym c.check_level.ensures ∙ c.in_err-check_level.was)))

pub returns-then-not-is_good_user : goal.returns-then-not-is_good_user
unfolding answer_of
returns-then-not-is_good_user c =
    let a = c.args in
    let t = tests_passed a.s a.level _ (sym c.check_level.ensures ∙ c.in_ok-check_level.was) in
    let wrong = wrong_left (good_user full.longest (user_of a.start)) (good_user full.longest (user_of a.stop)) (sym c.is_good_user.ensures ∙ c.if-not-is_good_user.true) in
    sym (told_key a.s a.level (user_of a.start) (user_of a.stop) t.0 t.1 wrong)

pub returns-then-not-is_good_user-2 : goal.returns-then-not-is_good_user-2
unfolding answer_of
returns-then-not-is_good_user-2 c =
    let a = c.args in
    let t = tests_passed a.s a.level _ (sym c.check_level.ensures ∙ c.in_ok-check_level.was) in
    let start = sym c.is_good_user.ensures ∙ c.if-not-is_good_user.false in
    let wrong = wrong_right (good_user full.longest (user_of a.start)) (good_user full.longest (user_of a.stop)) start (sym c.is_good_user-2.ensures ∙ c.if-not-is_good_user-2.true) in
    sym (told_key a.s a.level (user_of a.start) (user_of a.stop) t.0 t.1 wrong)

pub start_of-from-requires : goal.start_of-from-requires
start_of-from-requires c =
    let a = c.args in
    let t = tests_passed a.s a.level _ (sym c.check_level.ensures ∙ c.in_ok-check_level.was) in
    (omega (arith, t.1), files_room a.s a.level t.0)

pub offset_bounds-s-level : goal.offset_bounds-s-level
offset_bounds-s-level c = omega (arith, (tests_passed c.args.s c.args.level _ (sym c.check_level.ensures ∙ c.in_ok-check_level.was)).1)

pub bounds-s-level : goal.bounds-s-level
bounds-s-level c = (tests_passed c.args.s c.args.level _ (sym c.check_level.ensures ∙ c.in_ok-check_level.was)).1

pub overflow_add-to : goal.overflow_add-to
overflow_add-to c =
    let a = c.args in
    let t = tests_passed a.s a.level _ (sym c.check_level.ensures ∙ c.in_ok-check_level.was) in
    rw c.start_of-from.ensures (omega (arith, level_ends a.s a.level, files_room a.s a.level t.0))

pub returns : goal.returns
unfolding answer_of span_of
returns c =
    let a = c.args in
    let t = tests_passed a.s a.level _ (sym c.check_level.ensures ∙ c.in_ok-check_level.was) in
    let seven : length a.s.counts ≡ level_count = (store_shape.shape a.s _ c.well_formed.0).counts in
    let start = sym c.is_good_user.ensures ∙ c.if-not-is_good_user.false in
    let keys = both (good_user full.longest (user_of a.start)) (good_user full.longest (user_of a.stop)) start (sym c.is_good_user-2.ensures ∙ c.if-not-is_good_user-2.false) in
    let range = span_of (record { start = a.start; stop = a.stop }) in
    let answer : c.has_overlap.result ≡ any (overlaps range) (run (start_at a.s a.level) (end_at a.s a.level) a.s.files) =
    c.has_overlap.ensures ∙ ap (λ (n : ℕ). any (overlaps range) (run n (n + get_or a.s.counts a.level 0) a.s.files)) c.start_of-from.ensures in
    sym (told_done a.s a.level (user_of a.start) (user_of a.stop) t.0 seven t.1 keys ∙ ap gives (sym answer))
