-- `pick_answer::is_trivial_move` meets its contract. Assumes nothing.
use Rattle.std.proofs.Common.{sym, ap, ◌∙◌}
use Rattle.model.specs.Answer.{gives}
use Rattle.answers.specs.Outcome.{answer_of}
use Rattle.pick_answer.specs.PickedLaws.{trivial_ill, trivial_well}
use Rattle.pick_answer.proofs.is_trivial_move.Goals as goal

pub returns-then-not-is_well_formed : goal.returns-then-not-is_well_formed
unfolding answer_of
returns-then-not-is_well_formed c =
    sym (trivial_ill c.args.c (sym c.is_well_formed.ensures ∙ c.if-not-is_well_formed.true))

pub returns : goal.returns
unfolding answer_of
returns c =
    let well = sym c.is_well_formed.ensures ∙ c.if-not-is_well_formed.false in
    ap gives c.is_trivial.ensures ∙ sym (trivial_well c.args.c well)
