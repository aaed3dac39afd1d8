-- `level_list::get_range` meets its contract. Assumes nothing.
use Rattle.std.proofs.Common.{◌≡◌, true, sym, ap, ◌∙◌, length, arith, Some, Ok}
use Rattle.model.specs.File.{max_files}
use Rattle.records.specs.Run.{ends_of}
use Rattle.records.specs.declared.Ends.{Ends}
use Rattle.answers.specs.Outcome.{result_of}
use Rattle.level_list.specs.List.{files_of, well_list, ranged}
use Rattle.level_list.specs.ListLaws.{range_beyond, range_bad, range_good, ranged_none, ranged_some, files_count, files_run}
use Rattle.level_list.proofs.Shape.{shape}
use Rattle.level_list.proofs.get_range.Goals as goal

pub returns-then-level-ge-COUNT : goal.returns-then-level-ge-COUNT
unfolding ranged result_of
returns-then-level-ge-COUNT c = ap ranged (sym (range_beyond c.args.level c.args.l (omega arith)))

pub returns-then-not-is_well_formed : goal.returns-then-not-is_well_formed
unfolding ranged result_of
returns-then-not-is_well_formed c = ap ranged (sym (range_bad c.args.level c.args.l (omega arith) (sym c.is_well_formed.ensures ∙ c.if-not-is_well_formed.true)))

pub returns-then-none : goal.returns-then-none
returns-then-none c =
    let a = c.args in
    let q : length a.l.files ≡ max_files = (shape a.l _ c.well_formed.1.0).files in
    let well : well_list a.level a.l ≡ true = sym c.is_well_formed.ensures ∙ c.if-not-is_well_formed.false in
    ranged_none (files_of a.l) (omega (arith, files_count a.level a.l q well)) ∙ ap ranged (sym (range_good a.level a.l (omega arith) well))

pub returns : goal.returns
returns c =
    let a = c.args in
    let q : length a.l.files ≡ max_files = (shape a.l _ c.well_formed.1.0).files in
    let well : well_list a.level a.l ≡ true = sym c.is_well_formed.ensures ∙ c.if-not-is_well_formed.false in
    ap (λ (x : Ends). Ok (Some x)) (c.get_range.ensures ∙ ap ends_of (files_run a.l))
    ∙ ranged_some (files_of a.l) (omega (arith, files_count a.level a.l q well)) ∙ ap ranged (sym (range_good a.level a.l (omega arith) well))
