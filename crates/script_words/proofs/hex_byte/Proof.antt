-- `script_words::hex_byte` meets its contract. By the two digits. Assumes nothing.
use Prim.Native.Nat.{◌+◌}
use mathlib.Core.Path.{◌≡◌, sym, ap, ◌∙◌}
use mathlib.Core.Bool.{true}
use native.Mathlib.Omega.{arith}
use lib.ListN.{get_or}
use borrow.Author.Rules.{rules}
use Rattle.script_words.specs.Words.{hex_value, is_hex_digit}
use Rattle.script_words.specs.WordLaws.{get_d_past, hex_byte_zero, hex_byte_first, hex_byte_second, hex_byte_both, hex_digit_no, hex_digit_yes}
use Rattle.script_words.proofs.hex_byte.Statement.{statement}
use Rattle.script_words.proofs.hex_byte.Tie as tie

returns : tie.Need-returns-then-line-at
returns c =
    let s = c.args in
    rw (get_d_past s.line.now s.at c.if-line-at.true) (sym (hex_byte_zero (get_or s.line.now (s.at + 1) 0)))

byte-at-requires : tie.Need-byte_at-requires
byte-at-requires c κs = search rules

hex-digit-requires : tie.Need-hex_digit-high-requires
hex-digit-requires c κs = search rules

returns_2 : tie.Need-returns-then-high-gt15
returns_2 c =
    let s = c.args in
    sym (hex_byte_first (get_or s.line.now s.at 0) (get_or s.line.now (s.at + 1) 0)
    (hex_digit_no (get_or s.line.now s.at 0) c.byte_at.result c.hex_digit-high.result c.byte_at.ensures c.hex_digit-high.ensures c.if-high-gt15.true))

add-byte-at : tie.Need-overflow_add-at
add-byte-at c = search rules

byte-at-requires-2 : tie.Need-byte_at-requires-2
byte-at-requires-2 c κs = search rules

hex-digit-requires-2 : tie.Need-hex_digit-low-requires
hex-digit-requires-2 c κs = search rules

returns_3 : tie.Need-returns-then-low-gt15
returns_3 c =
    let s = c.args in
    sym (hex_byte_second (get_or s.line.now s.at 0) (get_or s.line.now (s.at + 1) 0)
    (hex_digit_yes (get_or s.line.now s.at 0) c.byte_at.result c.hex_digit-high.result c.byte_at.ensures c.hex_digit-high.ensures c.if-high-gt15.false)
    (hex_digit_no (get_or s.line.now (s.at + 1) 0) c.byte_at-2.result c.hex_digit-low.result c.byte_at-2.ensures c.hex_digit-low.ensures c.if-low-gt15.true))

mul-result : tie.Need-overflow_mul-result
mul-result c = search rules

add-result : tie.Need-overflow_add-result
add-result c = search rules

returns-4 : tie.Need-returns
returns-4 c =
    let s = c.args in
    let x = get_or s.line.now s.at 0 in
    let y = get_or s.line.now (s.at + 1) 0 in
    let h : c.hex_digit-high.result ≡ hex_value x = c.hex_digit-high.ensures ∙ ap hex_value c.byte_at.ensures in
    let l : c.hex_digit-low.result ≡ hex_value y = c.hex_digit-low.ensures ∙ ap hex_value c.byte_at-2.ensures in
    let p : is_hex_digit x ≡ true = hex_digit_yes x c.byte_at.result c.hex_digit-high.result c.byte_at.ensures c.hex_digit-high.ensures c.if-high-gt15.false in
    let q : is_hex_digit y ≡ true = hex_digit_yes y c.byte_at-2.result c.hex_digit-low.result c.byte_at-2.ensures c.hex_digit-low.ensures c.if-low-gt15.false in
    omega (arith, h, l, hex_byte_both x y p q)

pub hex_byte_spec : {M : Type 1} → statement M
hex_byte_spec = tie.close (tie.spec returns byte-at-requires hex-digit-requires returns_2 add-byte-at byte-at-requires-2 hex-digit-requires-2 returns_3 mul-result add-result returns-4)
