-- `pick_search::asking` meets its contract. Assumes nothing.
use borrow.Author.Rules.{rules}
use Rattle.pick_search.specs.Choice.{begun}
use Rattle.pick_search.proofs.asking.Statement.{statement}
use Rattle.pick_search.proofs.asking.Tie as tie

nothing-at-requires : tie.Need-nothing_at-none-requires
nothing-at-requires c κs = search rules

returns : tie.Need-returns
unfolding begun
returns c = rw c.nothing_at-none.ensures

pub asking_spec : {M : Type 1} → statement M
asking_spec = tie.close (tie.spec nothing-at-requires returns)
