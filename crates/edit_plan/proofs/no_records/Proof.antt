-- `edit_plan::no_records` meets its contract. Assumes nothing.
use mathlib.Core.Path.{refl}
use Rattle.keys.specs.Key.{key_record, padded}
use Rattle.records.specs.Record.{blank, vacant}
use Rattle.edit_plan.proofs.no_records.Statement.{statement}
use Rattle.edit_plan.proofs.no_records.Tie as tie

returns : tie.Need-returns
unfolding vacant blank key_record padded
returns c = refl

pub no_records_spec : {M : Type 1} → statement M
no_records_spec = tie.close (tie.spec returns)
