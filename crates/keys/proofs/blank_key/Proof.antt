-- `keys::blank_key` meets its contract. Assumes nothing.
use mathlib.Core.Path.{refl}
use Rattle.keys.specs.Key.{key_record, padded}
use Rattle.keys.proofs.blank_key.Statement.{statement}
use Rattle.keys.proofs.blank_key.Tie as tie

returns : tie.Need-returns
unfolding key_record padded
returns c = refl

pub blank_key_spec : {M : Type 1} → statement M
blank_key_spec = tie.close (tie.spec returns)
