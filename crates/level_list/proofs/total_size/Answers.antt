-- `level_list::total_size` meets its contract. Assumes nothing.
use Rattle.std.proofs.Common.{◌≡◌, sym, ap, ◌∙◌, length, arith}
use Rattle.model.specs.Answer.{gives}
use Rattle.model.specs.File.{max_files}
use Rattle.answers.specs.Outcome.{answer_of}
use Rattle.level_list.specs.ListLaws.{total_beyond, total_bad, total_good}
use Rattle.level_list.proofs.Shape.{shape}
use Rattle.level_list.proofs.total_size.Goals as goal

pub returns-then-level-ge-COUNT : goal.returns-then-level-ge-COUNT
unfolding answer_of
returns-then-level-ge-COUNT c = sym (total_beyond c.args.level c.args.l (omega arith))

pub returns-then-not-is_well_formed : goal.returns-then-not-is_well_formed
unfolding answer_of
returns-then-not-is_well_formed c = sym (total_bad c.args.level c.args.l (omega arith) (sym c.is_well_formed.ensures ∙ c.if-not-is_well_formed.true))

pub returns : goal.returns
unfolding answer_of
returns c =
    let a = c.args in
    let q : length a.l.files ≡ max_files = (shape a.l _ c.well_formed.1.0).files in
    sym (total_good a.level a.l q (omega arith) (sym c.is_well_formed.ensures ∙ c.if-not-is_well_formed.false) ∙ ap gives (sym c.total_size.ensures))
