-- `script_words::trailer_of` meets its contract. By the test of the sequence. Assumes nothing.
use mathlib.Core.Path.{sym, ◌∙◌}
use borrow.Author.Rules.{rules}
use borrow.Author.Tests.{not-true, not-false}
use Rattle.script_words.specs.WordLaws.{trailer_none, trailer_over, trailer_fine}
use Rattle.script_words.proofs.trailer_of.Statement.{statement}
use Rattle.script_words.proofs.trailer_of.Tie as tie

no-number-requires : tie.Need-no_number-requires
no-number-requires c κs = search rules

returns : tie.Need-returns-then-not-n
returns c =
    let s = c.args in
    c.no_number.ensures ∙ sym (trailer_none s.n s.kind (not-true s.n.fine c.if-not-n.true))

no-number-requires-2 : tie.Need-no_number-requires-then-n-gt72057594037927935
no-number-requires-2 c κs = search rules

returns_2 : tie.Need-returns-then-n-gt72057594037927935
returns_2 c =
    let s = c.args in
    c.no_number-then-n-gt72057594037927935.ensures ∙ sym (trailer_over s.n s.kind (not-false s.n.fine c.if-not-n.false) c.if-n-gt72057594037927935.true)

mul-t4 : tie.Need-overflow_mul-result
mul-t4 c = search rules

add-t5 : tie.Need-overflow_add-result
add-t5 c = search rules

returns_3 : tie.Need-returns
returns_3 c =
    let s = c.args in
    sym (trailer_fine s.n s.kind (not-false s.n.fine c.if-not-n.false) c.if-n-gt72057594037927935.false)

pub trailer_of_spec : {M : Type 1} → statement M
trailer_of_spec = tie.close (tie.spec no-number-requires returns no-number-requires-2 returns_2 mul-t4 add-t5 returns_3)
