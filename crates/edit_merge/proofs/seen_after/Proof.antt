-- `edit_merge::seen_after` meets its contract. Assumes nothing.
use mathlib.Core.Path.{◌≡◌}
use mathlib.Core.Bool.{true, false}
use borrow.Author.Rules.{rules}
use Rattle.edit_merge.specs.Neighbours.{seen_after}
use Rattle.edit_merge.proofs.seen_after.Statement.{statement}
use Rattle.edit_merge.proofs.seen_after.Tie as tie

is-clear-requires : tie.Need-is_clear-requires
is-clear-requires c κs = search rules

returns : tie.Need-returns-then-added
unfolding seen_after
returns c =
    let t = c in
    let a = t.args in
    let added : a.added ≡ true = t.if-added.true in
    rw added (λ i. record { end = a.f.largest; fits = c.is_clear.ensures i; deep = a.s.deep; follows = a.s.deep; fresh = a.s.deep })

is-clear-requires-2 : tie.Need-is_clear-requires-2
is-clear-requires-2 c κs = search rules

returns_2 : tie.Need-returns
unfolding seen_after
returns_2 c =
    let t = c in
    let a = t.args in
    let added : a.added ≡ false = t.if-added.false in
    rw added (λ i. record { end = a.f.largest; fits = c.is_clear-2.ensures i; deep = a.s.deep; follows = a.s.deep; fresh = false })

pub seen_after_spec : {M : Type 1} → statement M
seen_after_spec = tie.close (tie.spec is-clear-requires returns is-clear-requires-2 returns_2)
