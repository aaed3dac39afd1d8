-- `shell_reply::next_place` meets its contract. Assumes nothing.
use borrow.Author.Tests.{eq-eqb, ne_eqb, le-leb, lt-leb}
use Rattle.shell_reply.specs.Replies.{next_place}
use borrow.Author.Rules.{rules}
use Rattle.shell_reply.proofs.next_place.Statement.{statement}
use Rattle.shell_reply.proofs.next_place.Tie as tie

returns : tie.Need-returns-then-k-ge5
unfolding next_place
returns c = simp (le-leb _ _ c.if-k-ge5.true)

add-result : tie.Need-overflow_add-result
add-result c = search rules

returns_2 : tie.Need-returns-then-mark-eq37
unfolding next_place
returns_2 c = simp (lt-leb _ _ c.if-k-ge5.false, eq-eqb _ _ c.if-mark-eq37.true)

add-result-2 : tie.Need-overflow_add-result-then-mark-eq35
add-result-2 c = search rules

returns_3 : tie.Need-returns-then-mark-eq35
unfolding next_place
returns_3 c = simp (lt-leb _ _ c.if-k-ge5.false, ne_eqb _ _ c.if-mark-eq37.false, eq-eqb _ _ c.if-mark-eq35.true)

returns-4 : tie.Need-returns
unfolding next_place
returns-4 c = simp (lt-leb _ _ c.if-k-ge5.false, ne_eqb _ _ c.if-mark-eq37.false, ne_eqb _ _ c.if-mark-eq35.false)

pub next_place_spec : {M : Type 1} → statement M
next_place_spec = tie.close (tie.spec returns add-result returns_2 add-result-2 returns_3 returns-4)
