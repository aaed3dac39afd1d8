-- `pick_search::asked_edges` meets its contract. Assumes nothing.
use borrow.Author.Tests.{ne_eqb}
use Rattle.pick_search.specs.Choice.{asked_edges}
use Rattle.pick_search.proofs.asked_edges.Statement.{statement}
use Rattle.pick_search.proofs.asked_edges.Tie as tie

returns : tie.Need-returns-then-level-eq0
unfolding asked_edges
returns c = rw c.if-level-eq0.true

returns_2 : tie.Need-returns
unfolding asked_edges
returns_2 c = rw (ne_eqb c.args.level 0 c.if-level-eq0.false)

pub asked_edges_spec : {M : Type 1} → statement M
asked_edges_spec = tie.close (tie.spec returns returns_2)
