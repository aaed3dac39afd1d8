-- `records::blank_record` meets its contract. Assumes nothing.
use mathlib.Core.Path.{refl}
use Rattle.keys.specs.Key.{key_record, padded}
use Rattle.records.specs.Record.{blank}
use Rattle.records.proofs.blank_record.Statement.{statement}
use Rattle.records.proofs.blank_record.Tie as tie

returns : tie.Need-returns
unfolding blank key_record padded
returns c = refl

pub blank_record_spec : {M : Type 1} → statement M
blank_record_spec = tie.close (tie.spec returns)
