-- `script_parts::number` meets its contract. Assumes nothing.
use mathlib.Core.Path.{ap, ◌∙◌}
use Rattle.script_parts.specs.declared.Run.{Run}
use Rattle.script_words.specs.Words.{word_of, number_word}
use borrow.Author.Rules.{rules}
use Rattle.script_parts.proofs.number.Statement.{statement}
use Rattle.script_parts.proofs.number.Tie as tie

run-of-requires : tie.Need-run_of-r-requires
run-of-requires c κs = search rules

number-requires : tie.Need-number-requires
number-requires c κs = search rules

returns : tie.Need-returns
returns c = c.number.ensures ∙ ap (λ (r : Run). number_word (word_of c.args.line.now r.from r.to)) c.run_of-r.ensures

pub number_spec : {M : Type 1} → statement M
number_spec = tie.close (tie.spec run-of-requires number-requires returns)
