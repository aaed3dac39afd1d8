-- `script_words::user_key` meets its contract. By the three forms of a user key. Assumes nothing.
use Prim.Native.Nat.{◌+◌, ◌-◌, ◌/◌}
use mathlib.Core.Path.{sym, ◌∙◌}
use borrow.Author.Rules.{rules}
use Rattle.lemmas.specs.Lists.{up_from}
use Rattle.script_words.specs.Words.{word_of, hex_bytes, fine_user, no_user, forty}
use Rattle.script_words.specs.WordLaws.{user_empty, user_none, user_text, user_hex, user_bad, word_length, hex_bytes_length, fine_user_is, forty_text}
use Rattle.script_words.proofs.user_key.Statement.{statement}
use Rattle.script_words.proofs.user_key.Tie as tie

user-of-requires : tie.Need-user_of-requires
user-of-requires c κs = search rules

returns : tie.Need-returns-then-to-from
unfolding no_user forty up_from
returns c =
    let s = c.args in
    c.user_of.ensures ∙ sym (user_empty s.line.now s.from s.to c.if-to-from.true)

is-word-requires : tie.Need-is_word-requires
is-word-requires c κs = search rules

user-of-requires-2 : tie.Need-user_of-requires-then-is_word
user-of-requires-2 c κs = search rules

returns_2 : tie.Need-returns-then-is_word
unfolding fine_user forty up_from
returns_2 c =
    let s = c.args in
    c.user_of-then-is_word.ensures ∙ sym (user_none s.line.now s.from s.to c.if-to-from.false (sym c.is_word.ensures ∙ c.if-is_word.true))

byte-at-requires : tie.Need-byte_at-requires
byte-at-requires c κs = search rules

add-record-of-text : tie.Need-overflow_add-from
add-record-of-text c = search rules

record-of-text-requires : tie.Need-record_of_text-requires
record-of-text-requires c κs = search rules

add-user-of : tie.Need-overflow_add-from-then-byte_at-eq61
add-user-of c = search rules

sub-user-of : tie.Need-overflow_sub-to
sub-user-of c = search rules

user-of-requires-3 : tie.Need-user_of-requires-then-byte_at-eq61
user-of-requires-3 c κs = search rules

returns_3 : tie.Need-returns-then-byte_at-eq61
returns_3 c =
    let s = c.args in
    let w = word_of s.line.now (s.from + 1) s.to in
    c.user_of-then-byte_at-eq61.ensures
    ∙ fine_user_is w c.record_of_text.result (s.to - (s.from + 1)) (c.record_of_text.ensures ∙ forty_text w 0) (sym (word_length s.line.now (s.from + 1) s.to))
    ∙ sym (user_text s.line.now s.from s.to c.if-to-from.false (sym c.is_word.ensures ∙ c.if-is_word.false) (sym c.byte_at.ensures ∙ c.if-byte_at-eq61.true))

is-hex-requires : tie.Need-is_hex-requires
is-hex-requires c κs = search rules

record-of-hex-requires : tie.Need-record_of_hex-requires
record-of-hex-requires c κs = search rules

sub-user-of-2 : tie.Need-overflow_sub-to-then-is_hex
sub-user-of-2 c = search rules

user-of-requires-4 : tie.Need-user_of-requires-then-is_hex
user-of-requires-4 c κs = search rules

returns-4 : tie.Need-returns-then-is_hex
returns-4 c =
    let s = c.args in
    c.user_of-then-is_hex.ensures
    ∙ fine_user_is (hex_bytes s.line.now s.from s.to) c.record_of_hex.result ((s.to - s.from) / 2) c.record_of_hex.ensures (sym (hex_bytes_length s.line.now s.from s.to))
    ∙ sym (user_hex s.line.now s.from s.to c.if-to-from.false (sym c.is_word.ensures ∙ c.if-is_word.false) (λ e. c.if-byte_at-eq61.false (c.byte_at.ensures ∙ e))
    (sym c.is_hex.ensures ∙ c.if-is_hex.true))

user-of-requires-5 : tie.Need-user_of-requires-2
user-of-requires-5 c κs = search rules

returns-5 : tie.Need-returns
unfolding no_user forty up_from
returns-5 c =
    let s = c.args in
    c.user_of-2.ensures
    ∙ sym (user_bad s.line.now s.from s.to c.if-to-from.false (sym c.is_word.ensures ∙ c.if-is_word.false) (λ e. c.if-byte_at-eq61.false (c.byte_at.ensures ∙ e))
    (sym c.is_hex.ensures ∙ c.if-is_hex.false))

pub user_key_spec : {M : Type 1} → statement M
user_key_spec = tie.close (tie.spec user-of-requires returns is-word-requires user-of-requires-2 returns_2 byte-at-requires add-record-of-text record-of-text-requires add-user-of sub-user-of user-of-requires-3 returns_3 is-hex-requires record-of-hex-requires sub-user-of-2 user-of-requires-4 returns-4 user-of-requires-5 returns-5)
