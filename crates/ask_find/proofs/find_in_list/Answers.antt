-- `find_in_list` meets its contract: 1, 14, 2, then the index if it is within the list. Assumes nothing.
use Rattle.std.proofs.Common.{◌≡◌, length, sym, ap, ◌∙◌, arith, rules, Ok}
use Rattle.model.specs.File.{max_files}
use Rattle.model.specs.Question.{passed}
use Rattle.answers.specs.Outcome.{result_of}
use Rattle.keys.specs.Key.{key_of}
use Rattle.level_list.specs.List.{files_of}
use Rattle.level_list.specs.ListLaws.{files_run, well_room}
use Rattle.ask_find.specs.Finding.{found_of}
use Rattle.ask_find.specs.FindingLaws.{find_beyond, find_bad, find_key, find_good, well_passed, index_given}
use Rattle.ask_find.proofs.find_in_list.Goals as goal
use Rattle.ask_find.proofs.find_in_list.Goals.{then-level-eq0, else-level-eq0}

pub returns-then-level-ge-COUNT : goal.returns-then-level-ge-COUNT
unfolding found_of result_of
returns-then-level-ge-COUNT c =
    let a = c.args in
    ap found_of (sym (find_beyond a.level a.l (key_of a.k) (omega arith)))

pub returns-then-not-is_well_formed : goal.returns-then-not-is_well_formed
unfolding found_of result_of
returns-then-not-is_well_formed c =
    let a = c.args in
    ap found_of (sym (find_bad a.level a.l (key_of a.k) (omega arith) (sym c.is_well_formed.ensures ∙ c.if-not-is_well_formed.true)))

pub returns-then-not-is_good : goal.returns-then-not-is_good
unfolding found_of result_of
returns-then-not-is_good c =
    let a = c.args in
    let well = sym c.is_well_formed.ensures ∙ c.if-not-is_well_formed.false in
    ap found_of (sym (find_key a.level a.l (key_of a.k) (omega arith) well (sym c.is_good.ensures ∙ c.if-not-is_good.true)))

pub scan-i-requires : goal.scan-i-requires
scan-i-requires c = well_room c.args.level c.args.l (sym c.is_well_formed.ensures ∙ c.if-not-is_well_formed.false)

pub returns : goal.returns
unfolding found_of result_of
returns c =
    let a = c.args in
    let well = sym c.is_well_formed.ensures ∙ c.if-not-is_well_formed.false in
    let long : length a.l.files ≡ max_files = search rules in
    let place : c.if-level-eq0.i ≡ passed (key_of a.k) (files_of a.l) =
    elim c.if-level-eq0.branch [
      | then-level-eq0 w ↦ w.i-is ∙ w.scan-i.ensures ∙ ap (passed (key_of a.k)) (files_run a.l)
      | else-level-eq0 w ↦ w.i-is ∙ well_passed a.level a.l (key_of a.k) a.at w.if-level-eq0.false well c.requires
    ] in
    ap Ok (c.then_some.ensures ∙ index_given _ _ _ place)
    ∙ ap found_of (sym (find_good a.level a.l (key_of a.k) long (omega arith) well (sym c.is_good.ensures ∙ c.if-not-is_good.false)))
