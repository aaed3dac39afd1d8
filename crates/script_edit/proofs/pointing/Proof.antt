-- `script_edit::pointing` meets its contract. Assumes nothing.
use borrow.Author.Rules.{rules}
use Rattle.script_edit.proofs.pointing.Statement.{statement}
use Rattle.script_edit.proofs.pointing.Tie as tie

number-requires : tie.Need-number-l-requires
number-requires c κs = search rules

key-requires : tie.Need-key-k-requires
key-requires c κs = search rules

returns : tie.Need-returns
returns c = rw (c.number-l.ensures, c.key-k.ensures)

pub pointing_spec : {M : Type 1} → statement M
pointing_spec = tie.close (tie.spec number-requires key-requires returns)
