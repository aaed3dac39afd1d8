-- `set` meets its contract. Assumes nothing.
use Rattle.std.proofs.Common.{eq-eqb, ne_eqb}
use Rattle.shell_edit.specs.Changes.{set_by}
use Rattle.shell_edit.proofs.set.Goals as goal

pub returns-then-mark-eq115 : goal.returns-then-mark-eq115
unfolding set_by
returns-then-mark-eq115 c = rw (eq-eqb _ _ c.if-mark-eq115.true) c.set_last_sequence.ensures

pub returns-then-mark-eq109 : goal.returns-then-mark-eq109
unfolding set_by
returns-then-mark-eq109 c = rw (ne_eqb _ _ c.if-mark-eq115.false, eq-eqb _ _ c.if-mark-eq109.true) c.set_manifest_number.ensures

pub returns : goal.returns
unfolding set_by
returns c = rw (ne_eqb _ _ c.if-mark-eq115.false, ne_eqb _ _ c.if-mark-eq109.false) c.set_previous_log.ensures
