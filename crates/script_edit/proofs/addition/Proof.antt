-- `script_edit::addition` meets its contract. Assumes nothing.
use borrow.Author.Rules.{rules}
use Rattle.script_edit.proofs.addition.Statement.{statement}
use Rattle.script_edit.proofs.addition.Tie as tie

number-requires : tie.Need-number-l-requires
number-requires c κs = search rules

number-requires-2 : tie.Need-number-n-requires
number-requires-2 c κs = search rules

number-requires-3 : tie.Need-number-size-requires
number-requires-3 c κs = search rules

key-requires : tie.Need-key-low-requires
key-requires c κs = search rules

key-requires-2 : tie.Need-key-high-requires
key-requires-2 c κs = search rules

returns : tie.Need-returns
returns c = rw (c.number-l.ensures, c.number-n.ensures, c.number-size.ensures, c.key-low.ensures, c.key-high.ensures)

pub addition_spec : {M : Type 1} → statement M
addition_spec = tie.close (tie.spec number-requires number-requires-2 number-requires-3 key-requires key-requires-2 returns)
