-- `script_words::key_of_text` meets its contract. By the trailer and the length. Assumes nothing.
use Prim.Native.Nat.{◌+◌}
use mathlib.Core.Path.{sym, ◌∙◌}
use mathlib.Core.List.{◌++◌}
use native.Mathlib.Omega.{arith}
use borrow.Author.Rules.{rules}
use borrow.Author.Tests.{not-true, not-false}
use Rattle.lemmas.specs.Little.{bytes}
use Rattle.script_words.specs.Words.{word_of}
use Rattle.script_words.specs.WordLaws.{sealed_none, sealed_long, sealed_fine, sealed_length, word_length, fine_key_is}
use Rattle.script_words.proofs.key_of_text.Statement.{statement}
use Rattle.script_words.proofs.key_of_text.Tie as tie

add-trailer-word : tie.Need-overflow_add-mark
add-trailer-word c = search rules

trailer-word-requires : tie.Need-trailer_word-t-requires
trailer-word-requires c κs = search rules

saturating-sub-requires : tie.Need-saturating_sub-n-requires
saturating-sub-requires c κs = search rules

no-key-requires : tie.Need-no_key-requires
no-key-requires c κs = search rules

returns : tie.Need-returns-then-not-t
returns c =
    let s = c.args in
    let t = c.trailer_word-t in
    rw (← t.ensures) (c.no_key.ensures ∙ sym (sealed_none (word_of s.line.now s.from s.mark) t.result (not-true t.result.fine c.if-not-t.true)))

no-key-requires-2 : tie.Need-no_key-requires-then-n-gt18446744073709551607
no-key-requires-2 c κs = search rules

returns_2 : tie.Need-returns-then-n-gt18446744073709551607
returns_2 c =
    let s = c.args in
    let t = c.trailer_word-t in
    let w = word_of s.line.now s.from s.mark in
    rw (← t.ensures)
    (c.no_key-then-n-gt18446744073709551607.ensures
    ∙ sym (sealed_long w t.result (not-false t.result.fine c.if-not-t.false) (omega (arith, c.if-n-gt18446744073709551607.true, c.saturating_sub-n.ensures, word_length s.line.now s.from s.mark))))

record-of-text-requires : tie.Need-record_of_text-requires
record-of-text-requires c κs = search rules

add-t7 : tie.Need-overflow_add-result
add-t7 c = search rules

returns_3 : tie.Need-returns
returns_3 c =
    let s = c.args in
    let t = c.trailer_word-t in
    let w = word_of s.line.now s.from s.mark in
    rw (← t.ensures)
    (fine_key_is (w ++ bytes 8 t.result.value) c.record_of_text.result (c.saturating_sub-n.result + 8) c.record_of_text.ensures
    (omega (arith, sealed_length s.line.now s.from s.mark t.result.value, c.saturating_sub-n.ensures))
    ∙ sym (sealed_fine w t.result (not-false t.result.fine c.if-not-t.false) (omega (arith, c.if-n-gt18446744073709551607.false, c.saturating_sub-n.ensures, word_length s.line.now s.from s.mark))))

pub key_of_text_spec : {M : Type 1} → statement M
key_of_text_spec = tie.close (tie.spec add-trailer-word trailer-word-requires saturating-sub-requires no-key-requires returns no-key-requires-2 returns_2 record-of-text-requires add-t7 returns_3)
