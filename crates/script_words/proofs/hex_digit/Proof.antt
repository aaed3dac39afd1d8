-- `script_words::hex_digit` meets its contract. By the range of digits. Assumes nothing.
use borrow.Author.Tests.{lt-ltb, le-ltb, le-leb, lt-leb}
use borrow.Author.Rules.{rules}
use Rattle.script_words.specs.Words.{hex_value}
use Rattle.script_words.proofs.hex_digit.Statement.{statement}
use Rattle.script_words.proofs.hex_digit.Tie as tie

returns : tie.Need-returns-then-c-lt48
unfolding hex_value
returns c = rw (lt-ltb c.args.c 48 c.if-c-lt48.true)

returns_2 : tie.Need-returns-then-c-le57
unfolding hex_value
returns_2 c = rw (le-ltb c.args.c 48 c.if-c-lt48.false, le-leb c.args.c 57 c.if-c-le57.true)

letter-digit-requires : tie.Need-letter_digit-requires
letter-digit-requires c κs = search rules

returns_3 : tie.Need-returns
unfolding hex_value
returns_3 c = rw (le-ltb c.args.c 48 c.if-c-lt48.false, lt-leb c.args.c 57 c.if-c-le57.false) c.letter_digit.ensures

pub hex_digit_spec : {M : Type 1} → statement M
hex_digit_spec = tie.close (tie.spec returns returns_2 letter-digit-requires returns_3)
