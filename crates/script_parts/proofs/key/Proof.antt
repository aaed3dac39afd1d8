-- `script_parts::key` meets its contract. Assumes nothing.
use mathlib.Core.Path.{ap, ◌∙◌}
use Rattle.script_parts.specs.declared.Run.{Run}
use Rattle.script_words.specs.Words.{internal_key}
use borrow.Author.Rules.{rules}
use Rattle.script_parts.proofs.key.Statement.{statement}
use Rattle.script_parts.proofs.key.Tie as tie

run-of-requires : tie.Need-run_of-r-requires
run-of-requires c κs = search rules

internal-key-requires : tie.Need-internal_key-requires
internal-key-requires c κs = search rules

returns : tie.Need-returns
returns c = c.internal_key.ensures ∙ ap (λ (r : Run). internal_key c.args.line.now r.from r.to) c.run_of-r.ensures

pub key_spec : {M : Type 1} → statement M
key_spec = tie.close (tie.spec run-of-requires internal-key-requires returns)
