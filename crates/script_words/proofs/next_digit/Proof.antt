-- `script_words::next_digit` meets its contract. The largest number of the machine bounds the sum. Assumes nothing.
use Prim.Native.Nat.{◌+◌, ◌*◌}
use native.Mathlib.Omega.{arith}
use borrow.Author.Tests.{le-leb, lt-leb}
use borrow.Author.Rules.{rules}
use Rattle.script_words.specs.Words.{no_number}
use Rattle.script_words.proofs.next_digit.Statement.{statement}
use Rattle.script_words.proofs.next_digit.Tie as tie

returns : tie.Need-returns-then-x-gt1844674407370955161
unfolding no_number
returns c = rw (lt-leb (c.args.x * 10 + c.args.digit) 18446744073709551615 (omega arith))

mul-tens : tie.Need-overflow_mul-tens
mul-tens c = search rules

sub-if2 : tie.Need-overflow_sub-tens
sub-if2 c = search rules

returns_2 : tie.Need-returns-then-tens-digit
unfolding no_number
returns_2 c = rw (lt-leb (c.args.x * 10 + c.args.digit) 18446744073709551615 (omega arith))

add-t5 : tie.Need-overflow_add-result
add-t5 c = search rules

returns_3 : tie.Need-returns
unfolding no_number
returns_3 c = rw (le-leb (c.args.x * 10 + c.args.digit) 18446744073709551615 (omega arith))

pub next_digit_spec : {M : Type 1} → statement M
next_digit_spec = tie.close (tie.spec returns mul-tens sub-if2 returns_2 add-t5 returns_3)
