-- `pick_search::runs_of` meets its contract. Assumes nothing.
use mathlib.Core.Path.{refl}
use borrow.Author.Rules.{rules}
use Rattle.pick_search.specs.Choice.{runs_of}
use Rattle.pick_search.proofs.runs_of.Statement.{statement}
use Rattle.pick_search.proofs.runs_of.Tie as tie

add-m : tie.Need-overflow_add-m
add-m c = search rules

add-t4 : tie.Need-overflow_add-result
add-t4 c = search rules

returns : tie.Need-returns
unfolding runs_of
returns c = refl

pub runs_of_spec : {M : Type 1} → statement M
runs_of_spec = tie.close (tie.spec add-m add-t4 returns)
