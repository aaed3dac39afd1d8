-- `script_words::no_key_lem` meets its contract. As it is defined. Assumes nothing.
use mathlib.Core.Path.{refl}
use Rattle.lemmas.specs.Lists.{up_from}
use Rattle.script_words.specs.Words.{no_key, forty}
use Rattle.script_words.proofs.no_key.Statement.{statement}
use Rattle.script_words.proofs.no_key.Tie as tie

returns : tie.Need-returns
unfolding no_key forty up_from
returns c = refl

pub no_key_spec : {M : Type 1} → statement M
no_key_spec = tie.close (tie.spec returns)
