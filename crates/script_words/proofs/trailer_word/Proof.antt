-- `script_words::trailer_word` meets its contract. By the last byte. Assumes nothing.
use mathlib.Core.Path.{sym, ◌∙◌}
use borrow.Author.Rules.{rules}
use Rattle.script_words.specs.WordLaws.{trailer_empty, trailer_deleted, trailer_put}
use Rattle.script_words.proofs.trailer_word.Statement.{statement}
use Rattle.script_words.proofs.trailer_word.Tie as tie

number-requires : tie.Need-number-requires
number-requires c κs = search rules

trailer-of-requires : tie.Need-trailer_of-requires
trailer-of-requires c κs = search rules

returns : tie.Need-returns-then-to-from
returns c =
    let s = c.args in
    c.trailer_of.ensures ∙ rw c.number.ensures (sym (trailer_empty s.line.now s.from s.to c.if-to-from.true))

sub-byte-at : tie.Need-overflow_sub-to
sub-byte-at c = search rules

byte-at-requires : tie.Need-byte_at-requires
byte-at-requires c κs = search rules

sub_number : tie.Need-overflow_sub-to-then-byte_at-eq100
sub_number c = search rules

number-requires-2 : tie.Need-number-requires-then-byte_at-eq100
number-requires-2 c κs = search rules

trailer-of-requires-2 : tie.Need-trailer_of-requires-then-byte_at-eq100
trailer-of-requires-2 c κs = search rules

returns_2 : tie.Need-returns-then-byte_at-eq100
returns_2 c =
    let s = c.args in
    c.trailer_of-then-byte_at-eq100.ensures ∙ rw c.number-then-byte_at-eq100.ensures (sym (trailer_deleted s.line.now s.from s.to c.if-to-from.false (sym c.byte_at.ensures ∙ c.if-byte_at-eq100.true)))

number-requires-3 : tie.Need-number-requires-2
number-requires-3 c κs = search rules

trailer-of-requires-3 : tie.Need-trailer_of-requires-2
trailer-of-requires-3 c κs = search rules

returns_3 : tie.Need-returns
returns_3 c =
    let s = c.args in
    c.trailer_of-2.ensures ∙ rw c.number-2.ensures (sym (trailer_put s.line.now s.from s.to c.if-to-from.false (λ e. c.if-byte_at-eq100.false (c.byte_at.ensures ∙ e))))

pub trailer_word_spec : {M : Type 1} → statement M
trailer_word_spec = tie.close (tie.spec number-requires trailer-of-requires returns sub-byte-at byte-at-requires sub_number number-requires-2 trailer-of-requires-2 returns_2 number-requires-3 trailer-of-requires-3 returns_3)
