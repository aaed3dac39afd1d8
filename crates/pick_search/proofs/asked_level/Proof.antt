-- `pick_search::asked_level` meets its contract. Assumes nothing.
use mathlib.Core.Path.{◌≡◌}
use native.Mathlib.Omega.{arith}
use borrow.Author.Rules.{rules}
use Rattle.pick_search.specs.Choice.{asked_level}
use Rattle.pick_search.proofs.asked_level.Statement.{statement}
use Rattle.pick_search.proofs.asked_level.Tie as tie

returns : tie.Need-returns-then-k-eq-FIRST
unfolding asked_level
returns c = rw c.if-k-eq-FIRST.true

add-result : tie.Need-overflow_add-result
add-result c = search rules

returns_2 : tie.Need-returns-then-k-eq-SECOND
unfolding asked_level
returns_2 c = rw c.if-k-eq-SECOND.true

returns_3 : tie.Need-returns-then-k-eq-GROWN
unfolding asked_level
returns_3 c = rw c.if-k-eq-GROWN.true

add-result-2 : tie.Need-overflow_add-result-then-k-eq-AGAIN
add-result-2 c = search rules

returns-4 : tie.Need-returns-then-k-eq-AGAIN
unfolding asked_level
returns-4 c = rw c.if-k-eq-AGAIN.true

add-result-3 : tie.Need-overflow_add-result-2
add-result-3 c = search rules

returns-5 : tie.Need-returns
unfolding asked_level
returns-5 c =
    let last : c.args.k ≡ 4 = omega arith in
    rw last

pub asked_level_spec : {M : Type 1} → statement M
asked_level_spec = tie.close (tie.spec returns add-result returns_2 returns_3 add-result-2 returns-4 add-result-3 returns-5)
