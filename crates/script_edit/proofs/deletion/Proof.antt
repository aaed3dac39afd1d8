-- `script_edit::deletion` meets its contract. Assumes nothing.
use borrow.Author.Rules.{rules}
use Rattle.script_edit.proofs.deletion.Statement.{statement}
use Rattle.script_edit.proofs.deletion.Tie as tie

number-requires : tie.Need-number-l-requires
number-requires c κs = search rules

number-requires-2 : tie.Need-number-n-requires
number-requires-2 c κs = search rules

returns : tie.Need-returns
returns c = rw (c.number-l.ensures, c.number-n.ensures)

pub deletion_spec : {M : Type 1} → statement M
deletion_spec = tie.close (tie.spec number-requires number-requires-2 returns)
