-- `should_stop_before` meets its contract: the step's result without the memory, which stays where it is lent. Assumes nothing.
use Rattle.std.proofs.Common.{sym, ◌∙◌}
use Rattle.answers.specs.OutcomeLaws.{handed_on}
use Rattle.compact_cutter_lent.specs.StoppingLaws.{stops_refused, stops_done}
use Rattle.compact_cutter_lent.proofs.should_stop_before.Goals as goal

pub returns-in_err-s : goal.returns-in_err-s
returns-in_err-s c =
    let a = c.args in
    rw (handed_on _ _ c.from_residual.ensures.1) (stops_refused a.c a.m.now a.k c.in_err-s.field-0.0 (sym c.step.ensures ∙ c.in_err-s.was))

pub returns : goal.returns
returns c =
    let a = c.args in
    stops_done a.c a.m.now a.k c.in_ok-s.s (sym c.step.ensures ∙ c.in_ok-s.was)
