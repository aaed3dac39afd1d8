-- `pick_search::sweeping` meets its contract. Assumes nothing.
use mathlib.Core.Path.{◌∙◌, sym}
use borrow.Author.Rules.{rules}
use Rattle.pick_search.specs.Search.{sweep_from}
use Rattle.pick_search.proofs.sweeping.Statement.{statement}
use Rattle.pick_search.proofs.sweeping.Tie as tie

may-take-requires : tie.Need-may_take-goes-requires
may-take-requires c κs = search rules

add-next : tie.Need-overflow_add-next
add-next c = search rules

returns : tie.Need-returns-then-goes
unfolding sweep_from
returns c = let m = c in rw (sym m.may_take-goes.ensures ∙ m.if-goes.true)

returns_2 : tie.Need-returns-else-goes
unfolding sweep_from
returns_2 c =
    let m = c.may_take-goes.ensures in
    let e = c.if-goes.false in
    rw (e, sym m ∙ e)

pub sweeping_spec : {M : Type 1} → statement M
sweeping_spec = tie.close (tie.spec may-take-requires add-next returns returns_2)
