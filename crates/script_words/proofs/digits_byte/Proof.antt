-- `script_words::digits_byte` meets its contract. By the place. Assumes nothing.
use mathlib.Core.Path.{sym, ◌∙◌}
use native.Mathlib.Omega.{arith}
use borrow.Author.Rules.{rules}
use Rattle.script_words.specs.WordLaws.{hex_bytes_at, hex_bytes_past}
use Rattle.script_words.proofs.digits_byte.Statement.{statement}
use Rattle.script_words.proofs.digits_byte.Tie as tie

saturating-sub-requires : tie.Need-saturating_sub-n-requires
saturating-sub-requires c κs = search rules

returns : tie.Need-returns-then-n-i
returns c =
    let s = c.args in
    sym (hex_bytes_past s.line.now s.from s.to s.i (omega (arith, c.saturating_sub-n.ensures)))

mul-hex-byte : tie.Need-overflow_mul-i
mul-hex-byte c = search rules

add-hex-byte : tie.Need-overflow_add-from
add-hex-byte c = search rules

hex-byte-requires : tie.Need-hex_byte-requires
hex-byte-requires c κs = search rules

returns_2 : tie.Need-returns
returns_2 c =
    let s = c.args in
    c.hex_byte.ensures ∙ sym (hex_bytes_at s.line.now s.from s.to s.i (omega (arith, c.saturating_sub-n.ensures)))

pub digits_byte_spec : {M : Type 1} → statement M
digits_byte_spec = tie.close (tie.spec saturating-sub-requires returns mul-hex-byte add-hex-byte hex-byte-requires returns_2)
