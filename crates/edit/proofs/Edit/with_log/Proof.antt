-- `edit::Edit::with_log` meets its contract. Assumes nothing.
use mathlib.Core.Path.{refl}
use Rattle.edit.specs.Edit.{with_log}
use Rattle.edit.proofs.Edit.with_log.Statement.{statement}
use Rattle.edit.proofs.Edit.with_log.Tie as tie

returns : tie.Need-returns
unfolding with_log
returns c = refl

pub with_log_spec : {M : Type 1} → statement M
with_log_spec = tie.close (tie.spec returns)
