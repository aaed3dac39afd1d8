-- `pick_found::range_of` meets its contract. Assumes nothing.
use borrow.Author.Rules.{rules}
use Rattle.pick_found.specs.FoundRun.{range_found}
use Rattle.pick_found.proofs.range_of.Statement.{statement}
use Rattle.pick_found.proofs.range_of.Tie as tie

between-requires : tie.Need-between-requires
between-requires c κs = search rules

returns : tie.Need-returns
unfolding range_found
returns c = c.between.ensures

pub range_of_spec : {M : Type 1} → statement M
range_of_spec = tie.close (tie.spec between-requires returns)
