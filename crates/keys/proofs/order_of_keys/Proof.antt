-- `keys::order_of_keys` meets its contract. Assumes nothing.
use mathlib.Core.Path.{sym, ◌∙◌}
use borrow.Author.Rules.{rules}
use Rattle.model.specs.Key.{before}
use Rattle.octets.specs.StandingLaws.{stands_less, stands_greater, stands_equal}
use Rattle.keys.proofs.order_of_keys.Statement.{statement}
use Rattle.keys.proofs.order_of_keys.Tie as tie

is-before-requires : tie.Need-is_before-requires
is-before-requires c κs = search rules

returns : tie.Need-returns-then-is_before
returns c = sym (stands_less before _ _ (sym c.is_before.ensures ∙ c.if-is_before.true))

is-before-requires-2 : tie.Need-is_before-requires-2
is-before-requires-2 c κs = search rules

returns_2 : tie.Need-returns-then-is_before-2
returns_2 c =
    let e = c in
    sym (stands_greater before _ _ (sym e.is_before.ensures ∙ e.if-is_before.false) (sym c.is_before-2.ensures ∙ c.if-is_before-2.true))

returns_3 : tie.Need-returns
returns_3 c =
    let e = c in
    sym (stands_equal before _ _ (sym e.is_before.ensures ∙ e.if-is_before.false) (sym c.is_before-2.ensures ∙ c.if-is_before-2.false))

pub order_of_keys_spec : {M : Type 1} → statement M
order_of_keys_spec = tie.close (tie.spec is-before-requires returns is-before-requires-2 returns_2 returns_3)
