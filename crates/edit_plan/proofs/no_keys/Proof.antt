-- `edit_plan::no_keys` meets its contract. Assumes nothing.
use mathlib.Core.Path.{refl}
use Rattle.keys.specs.Key.{key_record, padded}
use Rattle.edit_plan.specs.Planning.{no_keys}
use Rattle.edit_plan.proofs.no_keys.Statement.{statement}
use Rattle.edit_plan.proofs.no_keys.Tie as tie

returns : tie.Need-returns
unfolding no_keys key_record padded
returns c = refl

pub no_keys_spec : {M : Type 1} → statement M
no_keys_spec = tie.close (tie.spec returns)
