-- `script_table::is_letter` meets its contract. Assumes nothing.
use mathlib.Core.Path.{sym, ◌∙◌}
use Rattle.script_table.specs.Faults.{letter_word}
use borrow.Author.Rules.{rules}
use Rattle.script_table.proofs.is_letter.Statement.{statement}
use Rattle.script_table.proofs.is_letter.Tie as tie

is-word-requires : tie.Need-is_word-requires
is-word-requires c κs = search rules

returns : tie.Need-returns-then-is_word
unfolding letter_word
returns c = simp (sym c.is_word.ensures ∙ c.if-is_word.true)

is-word-requires-2 : tie.Need-is_word-requires-2
is-word-requires-2 c κs = search rules

returns_2 : tie.Need-returns
unfolding letter_word
returns_2 c = simp (sym c.is_word.ensures ∙ c.if-is_word.false) c.is_word-2.ensures

pub is_letter_spec : {M : Type 1} → statement M
is_letter_spec = tie.close (tie.spec is-word-requires returns is-word-requires-2 returns_2)
