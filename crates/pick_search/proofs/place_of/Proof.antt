-- `pick_search::place_of` meets its contract. Assumes nothing.
use borrow.Author.Rules.{rules}
use borrow.Author.Tests.{lt-ltb, le-ltb}
use Rattle.pick_search.specs.Choice.{place_in}
use Rattle.pick_search.proofs.place_of.Statement.{statement}
use Rattle.pick_search.proofs.place_of.Tie as tie

add-result : tie.Need-overflow_add-result
add-result c = search rules

returns : tie.Need-returns-then-j-r
unfolding place_in
returns c =
    let first = c in
    let a = first.args in
    rw (lt-ltb a.j a.r.one first.if-j-r.true)

add-result-2 : tie.Need-overflow_add-result-then-j-r-2
add-result-2 c = search rules

returns_2 : tie.Need-returns-then-j-r-2
unfolding place_in
returns_2 c =
    let second = c in
    let first = second in
    let a = first.args in
    rw (le-ltb a.j a.r.one first.if-j-r.false, lt-ltb a.j a.r.two second.if-j-r-2.true)

add-result-3 : tie.Need-overflow_add-result-2
add-result-3 c = search rules

returns_3 : tie.Need-returns
unfolding place_in
returns_3 c =
    let second = c in
    let first = second in
    let a = first.args in
    rw (le-ltb a.j a.r.one first.if-j-r.false, le-ltb a.j a.r.two second.if-j-r-2.false)

pub place_of_spec : {M : Type 1} → statement M
place_of_spec = tie.close (tie.spec add-result returns add-result-2 returns_2 add-result-3 returns_3)
