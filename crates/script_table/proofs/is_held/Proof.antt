-- `script_table::is_held` meets its contract. Assumes nothing.
use mathlib.Core.Path.{sym, ◌∙◌}
use Rattle.script_table.specs.Faults.{held_word}
use borrow.Author.Rules.{rules}
use Rattle.script_table.proofs.is_held.Statement.{statement}
use Rattle.script_table.proofs.is_held.Tie as tie

is-word-requires : tie.Need-is_word-requires
is-word-requires c κs = search rules

returns : tie.Need-returns-then-is_word
unfolding held_word
returns c = simp (sym c.is_word.ensures ∙ c.if-is_word.true)

is-word-requires-2 : tie.Need-is_word-requires-2
is-word-requires-2 c κs = search rules

returns_2 : tie.Need-returns-then-is_word-2
unfolding held_word
returns_2 c = simp (sym c.is_word.ensures ∙ c.if-is_word.false, sym c.is_word-2.ensures ∙ c.if-is_word-2.true)

is-bytes-requires : tie.Need-is_bytes-requires
is-bytes-requires c κs = search rules

returns_3 : tie.Need-returns
unfolding held_word
returns_3 c = simp (sym c.is_word.ensures ∙ c.if-is_word.false, sym c.is_word-2.ensures ∙ c.if-is_word-2.false) c.is_bytes.ensures

pub is_held_spec : {M : Type 1} → statement M
is_held_spec = tie.close (tie.spec is-word-requires returns is-word-requires-2 returns_2 is-bytes-requires returns_3)
