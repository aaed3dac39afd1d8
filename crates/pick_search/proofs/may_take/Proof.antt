-- `pick_search::may_take` meets its contract. Assumes nothing.
use borrow.Author.Tests.{not-true, not-false}
use Rattle.pick_search.specs.Search.{may_take}
use Rattle.pick_search.proofs.may_take.Statement.{statement}
use Rattle.pick_search.proofs.may_take.Tie as tie

returns : tie.Need-returns-then-not-edge
unfolding may_take
returns c = rw (c.if-not-edge.true)

returns_2 : tie.Need-returns-then-not-q
unfolding may_take
returns_2 c =
    let i = c in
    let a = i.args in
    rw (i.if-not-edge.false, not-true a.q.edges c.if-not-q.true)

returns_3 : tie.Need-returns
unfolding may_take
returns_3 c =
    let j = c in
    let i = j in
    let a = i.args in
    rw (i.if-not-edge.false, not-false a.q.edges j.if-not-q.false)

pub may_take_spec : {M : Type 1} → statement M
may_take_spec = tie.close (tie.spec returns returns_2 returns_3)
