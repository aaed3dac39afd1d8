-- `script_parts::start_after` meets its contract. Assumes nothing.
use borrow.Author.Tests.{lt-ltb, le-ltb}
use Rattle.script_parts.specs.Parts.{start_after}
use borrow.Author.Rules.{rules}
use Rattle.script_parts.proofs.start_after.Statement.{statement}
use Rattle.script_parts.proofs.start_after.Tie as tie

add-result : tie.Need-overflow_add-result
add-result c = search rules

returns : tie.Need-returns-then-end-p
unfolding start_after
returns c = simp (lt-ltb _ _ c.if-end-p.true)

returns_2 : tie.Need-returns
unfolding start_after
returns_2 c = simp (le-ltb _ _ c.if-end-p.false)

pub start_after_spec : {M : Type 1} → statement M
start_after_spec = tie.close (tie.spec add-result returns returns_2)
