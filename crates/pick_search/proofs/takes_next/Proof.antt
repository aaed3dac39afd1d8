-- `pick_search::takes_next` meets its contract. Assumes nothing.
use mathlib.Core.Path.{sym, ◌∙◌}
use borrow.Author.Rules.{rules}
use Rattle.pick_search.specs.Search.{takes_next}
use Rattle.pick_search.proofs.takes_next.Statement.{statement}
use Rattle.pick_search.proofs.takes_next.Tie as tie

is-taken-requires : tie.Need-is_taken-requires
is-taken-requires c κs = search rules

returns : tie.Need-returns-then-not-edge
unfolding takes_next
returns c =
    let i = c in
    rw (i.if-not-edge.true) c.is_taken.ensures

may-take-requires : tie.Need-may_take-requires
may-take-requires c κs = search rules

returns_2 : tie.Need-returns-then-not-may_take
unfolding takes_next
returns_2 c =
    let m = c in
    let i = m in
    rw (sym m.may_take.ensures ∙ c.if-not-may_take.true, i.if-not-edge.false)

follows-requires : tie.Need-follows-requires
follows-requires c κs = search rules

returns_3 : tie.Need-returns
unfolding takes_next
returns_3 c =
    let j = c in
    let m = j in
    let i = m in
    rw (sym m.may_take.ensures ∙ j.if-not-may_take.false, i.if-not-edge.false) c.follows.ensures

pub takes_next_spec : {M : Type 1} → statement M
takes_next_spec = tie.close (tie.spec is-taken-requires returns may-take-requires returns_2 follows-requires returns_3)
