-- `can_tell` meets its contract. Assumes nothing.
use Rattle.std.proofs.Common.{sym, ◌∙◌}
use Rattle.replay_given.specs.Given.{can_tell}
use Rattle.replay_given.proofs.can_tell.Goals as goal

pub returns-then-is_well_formed : goal.returns-then-is_well_formed
unfolding can_tell
returns-then-is_well_formed c = rw (c.in-Ok.is, sym c.is_well_formed.ensures ∙ c.if-is_well_formed.true) c.is_number.ensures

pub returns-else-is_well_formed : goal.returns-else-is_well_formed
unfolding can_tell
returns-else-is_well_formed c = rw (c.in-Ok.is, sym c.is_well_formed.ensures ∙ c.if-is_well_formed.false) c.if-is_well_formed.false

pub returns-in-Err : goal.returns-in-Err
unfolding can_tell
returns-in-Err c = rw c.in-Err.is
