-- `pick_search::with_widening` meets its contract. Assumes nothing.
use borrow.Author.Rules.{rules}
use Rattle.pick_search.specs.Search.{spanning}
use Rattle.pick_search.proofs.with_widening.Statement.{statement}
use Rattle.pick_search.proofs.with_widening.Tie as tie

widened-requires : tie.Need-widened-wide-requires
widened-requires c κs = search rules

returns : tie.Need-returns
unfolding spanning
returns c = search rules

pub with_widening_spec : {M : Type 1} → statement M
with_widening_spec = tie.close (tie.spec widened-requires returns)
