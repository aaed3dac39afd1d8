-- `bits_of` is safe: its score is no NaN. Assumes nothing.
use borrow.Author.Rules.{rules}
use Rattle.replay_given.specs.GivenLaws.{no_nan}
use Rattle.replay_given.proofs.bits_of.Statement.{statement}
use Rattle.replay_given.proofs.bits_of.Tie as tie

float-to-bits-result : tie.Need-float_to_bits-result
float-to-bits-result c = no_nan c.args.x c.requires

returns : tie.Need-returns
returns c = search rules

pub bits_of_spec : {M : Type 1} → statement M
bits_of_spec = tie.close (tie.spec float-to-bits-result returns)
