-- `records::blanks` meets its contract. Assumes nothing.
use mathlib.Core.Path.{refl}
use Rattle.keys.specs.Key.{key_record, padded}
use Rattle.records.specs.Record.{blank, vacant}
use Rattle.records.proofs.blanks.Statement.{statement}
use Rattle.records.proofs.blanks.Tie as tie

returns : tie.Need-returns
unfolding vacant blank key_record padded
returns c = refl

pub blanks_spec : {M : Type 1} → statement M
blanks_spec = tie.close (tie.spec returns)
