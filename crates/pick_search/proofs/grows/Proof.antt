-- `pick_search::grows` meets its contract. Assumes nothing.
use Prim.Native.Nat.{◌+◌, ◌*◌}
use mathlib.Core.Path.{sym}
use mathlib.Core.Bool.{not}
use native.Mathlib.Omega.{arith}
use lib.Dec.{eqb, ltb}
use borrow.Author.Tests.{ne_eqb, lt-ltb, le-ltb}
use borrow.Author.Rules.{rules}
use Rattle.pick_search.specs.Choice.{grows_by}
use Rattle.pick_search.specs.CompleteLaws.{second_fails, third_fails}
use Rattle.pick_search.proofs.grows.Statement.{statement}
use Rattle.pick_search.proofs.grows.Tie as tie

returns : tie.Need-returns-then-c-eq0
unfolding grows_by
returns c = rw c.if-c-eq0.true

returns_2 : tie.Need-returns-then-c
unfolding grows_by
returns_2 c =
    let a = c.args in
    let d = a.c in
    sym (second_fails (not (eqb d.second.count 0)) (ltb d.first.count d.grown.count) (ltb (d.grown.bytes + d.second.bytes) (25 * d.maximum)) (eqb a.again d.second.count)
    (le-ltb d.first.count d.grown.count c.if-c.true))

mul-if3 : tie.Need-overflow_mul-c
mul-if3 c = search rules

add-if3 : tie.Need-overflow_add-c
add-if3 c = search rules

returns_3 : tie.Need-returns-then-c-2
unfolding grows_by
returns_3 c =
    let a = c.args in
    let d = a.c in
    sym (third_fails (not (eqb d.second.count 0)) (ltb d.first.count d.grown.count) (ltb (d.grown.bytes + d.second.bytes) (25 * d.maximum)) (eqb a.again d.second.count)
    (le-ltb (d.grown.bytes + d.second.bytes) (25 * d.maximum) (omega (arith, c.if-c-2.true))))

returns-4 : tie.Need-returns
unfolding grows_by
returns-4 c =
    let third = c in
    let second = third in
    let first = second in
    let d = first.args.c in
    rw (
      ne_eqb d.second.count 0 first.if-c-eq0.false,
      lt-ltb d.first.count d.grown.count second.if-c.false,
      lt-ltb (d.grown.bytes + d.second.bytes) (25 * d.maximum) (omega (arith, third.if-c-2.false)),
    )

pub grows_spec : {M : Type 1} → statement M
grows_spec = tie.close (tie.spec returns returns_2 mul-if3 add-if3 returns_3 returns-4)
