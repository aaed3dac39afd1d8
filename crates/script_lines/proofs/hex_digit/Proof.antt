-- `script_lines::hex_digit` meets its contract. By the two ranges of digits. Assumes nothing.
use native.Mathlib.Omega.{arith}
use borrow.Author.Tests.{lt-ltb, le-ltb}
use borrow.Author.Rules.{rules}
use Rattle.script_lines.proofs.hex_digit.Statement.{statement}
use Rattle.script_lines.proofs.hex_digit.Tie as tie

add-result : tie.Need-overflow_add-result
add-result c = search rules

returns : tie.Need-returns-then-x-lt10
returns c = λ h. rw (lt-ltb c.args.x 10 c.if-x-lt10.true)

add-result-2 : tie.Need-overflow_add-result-then-x-lt16
add-result-2 c = search rules

returns_2 : tie.Need-returns-then-x-lt16
returns_2 c = λ h. rw (le-ltb c.args.x 10 c.if-x-lt10.false) (omega arith)

returns_3 : tie.Need-returns
returns_3 c = search rules

pub hex_digit_spec : {M : Type 1} → statement M
hex_digit_spec = tie.close (tie.spec add-result returns add-result-2 returns_2 returns_3)
