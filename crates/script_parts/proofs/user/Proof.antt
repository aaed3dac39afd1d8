-- `script_parts::user` meets its contract. Assumes nothing.
use mathlib.Core.Path.{ap, ◌∙◌}
use Rattle.script_parts.specs.declared.Run.{Run}
use Rattle.script_words.specs.Words.{user_word}
use borrow.Author.Rules.{rules}
use Rattle.script_parts.proofs.user.Statement.{statement}
use Rattle.script_parts.proofs.user.Tie as tie

run-of-requires : tie.Need-run_of-r-requires
run-of-requires c κs = search rules

user-key-requires : tie.Need-user_key-requires
user-key-requires c κs = search rules

returns : tie.Need-returns
returns c = c.user_key.ensures ∙ ap (λ (r : Run). user_word c.args.line.now r.from r.to) c.run_of-r.ensures

pub user_spec : {M : Type 1} → statement M
user_spec = tie.close (tie.spec run-of-requires user-key-requires returns)
