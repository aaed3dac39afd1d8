-- `edit_entries::check` meets its contract: the tests of each kind of entries are those of its entries in turn. Assumes nothing.
use Rattle.std.proofs.Common.{◌≡◌, ◌++◌, map, take, false, sym, ap, ◌∙◌}
use Rattle.lemmas.specs.Lists.{join}
use Rattle.model.specs.File.{full}
use Rattle.model.specs.Edit.{too_many, bad_log, pointer_refusals, deletion_refusals, addition_refusals}
use Rattle.counters.specs.declared.Counters.{Counters}
use Rattle.counters.specs.Counters.{counters_of}
use Rattle.edit.specs.declared.Edit.{Edit}
use Rattle.edit.specs.Edit.{edit_of, log_of}
use Rattle.edit.specs.EditLaws.{Few, few, pointers_are, deletions_are, additions_are}
use Rattle.edit.proofs.Shape.{has_room}
use Rattle.answers.specs.Outcome.{passed}
use Rattle.answers.specs.OutcomeLaws.{passed_refused, passed_done, handed_on}
use Rattle.edit_entries.specs.Entries.{pointing_tests, deletion_tests, addition_tests, checks}
use Rattle.edit_entries.specs.EntryLaws.{checks_many, checks_log, checks_entries, each_in_turn, pointings, deletions, additions}
use Rattle.edit_entries.proofs.check.Goals as goal

-- the tests of the entries of an edit, kind by kind
module _ (e : Edit) (w : Few e) where
  -- its pointers
  pointed : join (map pointing_tests (take e.pointing_count e.pointings)) ≡ pointer_refusals full (edit_of e).pointers
  unfolding pointing_tests
  pointed = each_in_turn pointings (take e.pointing_count e.pointings) ∙ ap (pointer_refusals full) (sym (pointers_are e w))

  -- its deletions
  deleted : join (map deletion_tests (take e.deletion_count e.deletions)) ≡ deletion_refusals full (edit_of e).deletions
  unfolding deletion_tests
  deleted = each_in_turn deletions (take e.deletion_count e.deletions) ∙ ap (deletion_refusals full) (sym (deletions_are e w))

  -- its additions
  added : join (map addition_tests (take e.addition_count e.additions)) ≡ addition_refusals full (edit_of e).additions
  unfolding addition_tests
  added = each_in_turn additions (take e.addition_count e.additions) ∙ ap (addition_refusals full) (sym (additions_are e w))

pub returns-then-has_too_many : goal.returns-then-has_too_many
returns-then-has_too_many c = sym (checks_many (counters_of c.args.c) (edit_of c.args.e) (sym c.has_too_many.ensures ∙ c.if-has_too_many.true))

pub returns-then-has_bad_log : goal.returns-then-has_bad_log
unfolding edit_of
returns-then-has_bad_log c =
    sym (checks_log (counters_of c.args.c) (edit_of c.args.e) (sym c.has_too_many.ensures ∙ c.if-has_too_many.false) (sym c.has_bad_log.ensures ∙ c.if-has_bad_log.true))

pub shared_ref_as_front-check_all : goal.shared_ref_as_front-check_all
shared_ref_as_front-check_all c = (few c.args.e (has_room c.args.e _ c.well_formed.1.0) (sym c.has_too_many.ensures ∙ c.if-has_too_many.false)).pointings

pub shared_ref_as_front-check_all-2 : goal.shared_ref_as_front-check_all-2
shared_ref_as_front-check_all-2 c = (few c.args.e (has_room c.args.e _ c.well_formed.1.0) (sym c.has_too_many.ensures ∙ c.if-has_too_many.false)).deletions

pub shared_ref_as_front-check_all-3 : goal.shared_ref_as_front-check_all-3
shared_ref_as_front-check_all-3 c = (few c.args.e (has_room c.args.e _ c.well_formed.1.0) (sym c.has_too_many.ensures ∙ c.if-has_too_many.false)).additions

-- past the tests of the edit itself its entries decide
entries_decide : (d : Counters) (e : Edit) → too_many full (edit_of e) ≡ false → bad_log (counters_of d) (log_of e.log) ≡ false
    → passed (checks (counters_of d) (edit_of e))
    ≡ passed (pointer_refusals full (edit_of e).pointers
    ++ (deletion_refusals full (edit_of e).deletions ++ addition_refusals full (edit_of e).additions))
unfolding edit_of
entries_decide d e f b = checks_entries (counters_of d) (edit_of e) f b

pub returns-in_err-check_all : goal.returns-in_err-check_all
returns-in_err-check_all c =
    let e = c.args.e in
    let m = edit_of e in
    let few_entries = sym c.has_too_many.ensures ∙ c.if-has_too_many.false in
    let w = few e (has_room e _ c.well_formed.1.0) few_entries in
    handed_on _ _ c.from_residual.ensures.1
    ∙ sym (entries_decide c.args.c e few_entries (sym c.has_bad_log.ensures ∙ c.if-has_bad_log.false)
    ∙ passed_refused (deletion_refusals full m.deletions ++ addition_refusals full m.additions) (pointer_refusals full m.pointers) _
    (sym (c.check_all.ensures ∙ ap passed (pointed e w)) ∙ c.in_err-check_all.was))

pub returns-in_err-check_all-2 : goal.returns-in_err-check_all-2
returns-in_err-check_all-2 c =
    let e = c.args.e in
    let m = edit_of e in
    let few_entries = sym c.has_too_many.ensures ∙ c.if-has_too_many.false in
    let w = few e (has_room e _ c.well_formed.1.0) few_entries in
    handed_on _ _ c.from_residual-in_err-check_all-2.ensures.1
    ∙ sym (entries_decide c.args.c e few_entries (sym c.has_bad_log.ensures ∙ c.if-has_bad_log.false)
    ∙ passed_done (deletion_refusals full m.deletions ++ addition_refusals full m.additions) (pointer_refusals full m.pointers)
    (sym (c.check_all.ensures ∙ ap passed (pointed e w)) ∙ c.in_ok-check_all.was)
    ∙ passed_refused (addition_refusals full m.additions) (deletion_refusals full m.deletions) _
    (sym (c.check_all-2.ensures ∙ ap passed (deleted e w)) ∙ c.in_err-check_all-2.was))

pub returns : goal.returns
returns c =
    let e = c.args.e in
    let m = edit_of e in
    let few_entries = sym c.has_too_many.ensures ∙ c.if-has_too_many.false in
    let w = few e (has_room e _ c.well_formed.1.0) few_entries in
    c.check_all-3.ensures ∙ ap passed (added e w)
    ∙ sym (entries_decide c.args.c e few_entries (sym c.has_bad_log.ensures ∙ c.if-has_bad_log.false)
    ∙ passed_done (deletion_refusals full m.deletions ++ addition_refusals full m.additions) (pointer_refusals full m.pointers)
    (sym (c.check_all.ensures ∙ ap passed (pointed e w)) ∙ c.in_ok-check_all.was)
    ∙ passed_done (addition_refusals full m.additions) (deletion_refusals full m.deletions)
    (sym (c.check_all-2.ensures ∙ ap passed (deleted e w)) ∙ c.in_ok-check_all-2.was))
