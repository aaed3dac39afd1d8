-- `script_table::is_counter` meets its contract. Assumes nothing.
use mathlib.Core.Path.{sym, ◌∙◌}
use Rattle.script_table.specs.Faults.{counter_name}
use borrow.Author.Rules.{rules}
use Rattle.script_table.proofs.is_counter.Statement.{statement}
use Rattle.script_table.proofs.is_counter.Tie as tie

is-word-requires : tie.Need-is_word-requires
is-word-requires c κs = search rules

returns : tie.Need-returns-then-is_word
unfolding counter_name
returns c = simp (sym c.is_word.ensures ∙ c.if-is_word.true)

is-word-requires-2 : tie.Need-is_word-requires-2
is-word-requires-2 c κs = search rules

returns_2 : tie.Need-returns-then-is_word-2
unfolding counter_name
returns_2 c = simp (sym c.is_word.ensures ∙ c.if-is_word.false, sym c.is_word-2.ensures ∙ c.if-is_word-2.true)

is-word-requires-3 : tie.Need-is_word-requires-3
is-word-requires-3 c κs = search rules

returns_3 : tie.Need-returns
unfolding counter_name
returns_3 c = simp (sym c.is_word.ensures ∙ c.if-is_word.false, sym c.is_word-2.ensures ∙ c.if-is_word-2.false) c.is_word-3.ensures

pub is_counter_spec : {M : Type 1} → statement M
is_counter_spec = tie.close (tie.spec is-word-requires returns is-word-requires-2 returns_2 is-word-requires-3 returns_3)
