-- `script_words::letter_digit` meets its contract. By the two ranges of letters. Assumes nothing.
use borrow.Author.Tests.{lt-ltb, le-ltb, le-leb, lt-leb}
use borrow.Author.Rules.{rules}
use Rattle.script_words.specs.Words.{letter_value}
use Rattle.script_words.proofs.letter_digit.Statement.{statement}
use Rattle.script_words.proofs.letter_digit.Tie as tie

returns : tie.Need-returns-then-c-lt65
unfolding letter_value
returns c = rw (lt-ltb c.args.c 65 c.if-c-lt65.true)

sub-result : tie.Need-overflow_sub-result
sub-result c = search rules

returns_2 : tie.Need-returns-then-c-le70
unfolding letter_value
returns_2 c = rw (le-ltb c.args.c 65 c.if-c-lt65.false, le-leb c.args.c 70 c.if-c-le70.true)

returns_3 : tie.Need-returns-then-c-lt97
unfolding letter_value
returns_3 c = rw (le-ltb c.args.c 65 c.if-c-lt65.false, lt-leb c.args.c 70 c.if-c-le70.false, lt-ltb c.args.c 97 c.if-c-lt97.true)

sub-result-2 : tie.Need-overflow_sub-result-then-c-le102
sub-result-2 c = search rules

returns-4 : tie.Need-returns-then-c-le102
unfolding letter_value
returns-4 c = rw (le-ltb c.args.c 65 c.if-c-lt65.false, lt-leb c.args.c 70 c.if-c-le70.false, le-ltb c.args.c 97 c.if-c-lt97.false, le-leb c.args.c 102 c.if-c-le102.true)

returns-5 : tie.Need-returns
unfolding letter_value
returns-5 c = rw (le-ltb c.args.c 65 c.if-c-lt65.false, lt-leb c.args.c 70 c.if-c-le70.false, le-ltb c.args.c 97 c.if-c-lt97.false, lt-leb c.args.c 102 c.if-c-le102.false)

pub letter_digit_spec : {M : Type 1} → statement M
letter_digit_spec = tie.close (tie.spec returns sub-result returns_2 returns_3 sub-result-2 returns-4 returns-5)
