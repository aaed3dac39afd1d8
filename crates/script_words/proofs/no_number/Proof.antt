-- `script_words::no_number` meets its contract. As it is defined. Assumes nothing.
use mathlib.Core.Path.{refl}
use Rattle.script_words.specs.Words.{no_number}
use Rattle.script_words.proofs.no_number.Statement.{statement}
use Rattle.script_words.proofs.no_number.Tie as tie

returns : tie.Need-returns
unfolding no_number
returns c = refl

pub no_number_spec : {M : Type 1} → statement M
no_number_spec = tie.close (tie.spec returns)
