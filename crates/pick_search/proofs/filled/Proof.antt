-- `pick_search::filled` meets its contract. Assumes nothing.
use mathlib.Core.Path.{◌≡◌}
use native.Mathlib.Omega.{arith}
use borrow.Author.Rules.{rules}
use Rattle.pick_search.specs.Choice.{filled_with}
use Rattle.pick_search.proofs.filled.Statement.{statement}
use Rattle.pick_search.proofs.filled.Tie as tie

returns : tie.Need-returns-then-k-eq-FIRST
unfolding filled_with
returns c = rw c.if-k-eq-FIRST.true

returns_2 : tie.Need-returns-then-k-eq-SECOND
unfolding filled_with
returns_2 c = rw c.if-k-eq-SECOND.true

returns_3 : tie.Need-returns-then-k-eq-GROWN
unfolding filled_with
returns_3 c = rw c.if-k-eq-GROWN.true

grows-requires : tie.Need-grows-requires
grows-requires c κs = search rules

returns-4 : tie.Need-returns-then-grows
unfolding filled_with
returns-4 c =
    let test = c in
    let call = test in
    rw (call.if-k-eq-AGAIN.true, ← call.grows.ensures, test.if-grows.true)

returns-5 : tie.Need-returns-else-grows
unfolding filled_with
returns-5 c =
    let call = c in
    rw (call.if-k-eq-AGAIN.true, ← call.grows.ensures, c.if-grows.false)

returns-6 : tie.Need-returns
unfolding filled_with
returns-6 c =
    let last : c.args.k ≡ 4 = omega arith in
    rw last

pub filled_spec : {M : Type 1} → statement M
filled_spec = tie.close (tie.spec returns returns_2 returns_3 grows-requires returns-4 returns-5 returns-6)
