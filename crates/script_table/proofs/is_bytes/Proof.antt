-- `script_table::is_bytes` meets its contract. Assumes nothing.
use mathlib.Core.Path.{sym, ◌∙◌}
use Rattle.script_table.specs.Faults.{bytes_word}
use borrow.Author.Rules.{rules}
use Rattle.script_table.proofs.is_bytes.Statement.{statement}
use Rattle.script_table.proofs.is_bytes.Tie as tie

is-word-requires : tie.Need-is_word-requires
is-word-requires c κs = search rules

returns : tie.Need-returns-then-is_word
unfolding bytes_word
returns c = simp (sym c.is_word.ensures ∙ c.if-is_word.true)

is-hex-requires : tie.Need-is_hex-requires
is-hex-requires c κs = search rules

returns_2 : tie.Need-returns
unfolding bytes_word
returns_2 c = simp (sym c.is_word.ensures ∙ c.if-is_word.false) c.is_hex.ensures

pub is_bytes_spec : {M : Type 1} → statement M
is_bytes_spec = tie.close (tie.spec is-word-requires returns is-hex-requires returns_2)
