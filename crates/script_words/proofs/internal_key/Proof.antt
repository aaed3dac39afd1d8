-- `script_words::internal_key` meets its contract. By the three forms of a key. Assumes nothing.
use Prim.Native.Nat.{◌/◌}
use mathlib.Core.Path.{sym, ◌∙◌}
use native.Mathlib.Omega.{arith}
use borrow.Author.Rules.{rules}
use Rattle.lemmas.specs.Lists.{up_from}
use Rattle.script_words.specs.Words.{hex_bytes, fine_key, forty}
use Rattle.script_words.specs.WordLaws.{key_none, key_text, key_hex, key_bad, hex_bytes_length, fine_key_is}
use Rattle.script_words.proofs.internal_key.Statement.{statement}
use Rattle.script_words.proofs.internal_key.Tie as tie

is-word-requires : tie.Need-is_word-requires
is-word-requires c κs = search rules

returns : tie.Need-returns-then-is_word
unfolding fine_key forty up_from
returns c =
    let s = c.args in
    sym (key_none s.line.now s.from s.to (sym c.is_word.ensures ∙ c.if-is_word.true))

last-place-of-requires : tie.Need-last_place_of-mark-requires
last-place-of-requires c κs = search rules

key-of-text-requires : tie.Need-key_of_text-requires
key-of-text-requires c κs = search rules

returns_2 : tie.Need-returns-then-mark-to
returns_2 c =
    let s = c.args in
    let m = c.last_place_of-mark in
    c.key_of_text.ensures
    ∙ sym (key_text s.line.now s.from s.to (sym c.is_word.ensures ∙ c.if-is_word.false) m.result m.ensures c.if-mark-to.true)

is-hex-requires : tie.Need-is_hex-requires
is-hex-requires c κs = search rules

no-key-requires : tie.Need-no_key-requires
no-key-requires c κs = search rules

returns_3 : tie.Need-returns-then-not-is_hex
returns_3 c =
    let s = c.args in
    let m = c.last_place_of-mark in
    c.no_key.ensures
    ∙ sym (key_bad s.line.now s.from s.to (sym c.is_word.ensures ∙ c.if-is_word.false) m.result m.ensures c.if-mark-to.false
    (sym c.is_hex.ensures ∙ c.if-not-is_hex.true))

record-of-hex-requires : tie.Need-record_of_hex-requires
record-of-hex-requires c κs = search rules

saturating-sub-requires : tie.Need-saturating_sub-requires
saturating-sub-requires c κs = search rules

returns-4 : tie.Need-returns
returns-4 c =
    let s = c.args in
    let m = c.last_place_of-mark in
    let k = hex_bytes s.line.now s.from s.to in
    fine_key_is k c.record_of_hex.result (c.saturating_sub.result / 2) c.record_of_hex.ensures
    (omega (arith, hex_bytes_length s.line.now s.from s.to, c.saturating_sub.ensures))
    ∙ sym (key_hex s.line.now s.from s.to (sym c.is_word.ensures ∙ c.if-is_word.false) m.result m.ensures c.if-mark-to.false
    (sym c.is_hex.ensures ∙ c.if-not-is_hex.false))

pub internal_key_spec : {M : Type 1} → statement M
internal_key_spec = tie.close (tie.spec is-word-requires returns last-place-of-requires key-of-text-requires returns_2 is-hex-requires no-key-requires returns_3 record-of-hex-requires saturating-sub-requires returns-4)
