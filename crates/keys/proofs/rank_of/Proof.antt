-- `keys::rank_of` meets its contract. Assumes nothing.
use borrow.Author.Rules.{rules}
use Rattle.model.specs.Key.{rank}
use Rattle.keys.proofs.rank_of.Statement.{statement}
use Rattle.keys.proofs.rank_of.Tie as tie

sequence-of-requires : tie.Need-sequence_of-requires
sequence-of-requires c κs = search rules

returns : tie.Need-returns
unfolding rank
returns c = c.sequence_of.ensures

pub rank_of_spec : {M : Type 1} → statement M
rank_of_spec = tie.close (tie.spec sequence-of-requires returns)
