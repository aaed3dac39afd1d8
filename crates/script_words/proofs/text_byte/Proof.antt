-- `script_words::text_byte` meets its contract. By the place. Assumes nothing.
use Prim.Native.Nat.{ℕ, ◌-◌, ◌<◌}
use mathlib.Core.Path.{◌≡◌, sym, ap, ◌∙◌}
use native.Mathlib.Omega.{arith}
use lib.ListN.{length, get_or}
use borrow.Author.Rules.{rules}
use Rattle.lemmas.specs.Little.{bytes}
use Rattle.script_words.specs.Words.{word_of}
use Rattle.script_words.specs.WordLaws.{word_at, word_length, joined_first, joined_second}
use Rattle.script_words.proofs.text_byte.Statement.{statement}
use Rattle.script_words.proofs.text_byte.Tie as tie

saturating-sub-requires : tie.Need-saturating_sub-n-requires
saturating-sub-requires c κs = search rules

add-byte-at : tie.Need-overflow_add-from
add-byte-at c = search rules

byte-at-requires : tie.Need-byte_at-requires
byte-at-requires c κs = search rules

returns : tie.Need-returns-then-i-n
returns c =
    let s = c.args in
    let w = word_of s.line.now s.from s.to in
    let n : length w ≡ s.to - s.from = word_length s.line.now s.from s.to in
    let h : s.i < s.to - s.from = omega (arith, c.saturating_sub-n.ensures) in
    c.byte_at.ensures ∙ sym (joined_first w (bytes s.width s.x) s.i (omega arith) ∙ word_at s.line.now s.from s.to s.i h)

low-byte-requires : tie.Need-low_byte-requires
low-byte-requires c κs = search rules

returns_2 : tie.Need-returns
returns_2 c =
    let s = c.args in
    let w = word_of s.line.now s.from s.to in
    let n : length w ≡ c.saturating_sub-n.result = word_length s.line.now s.from s.to ∙ sym c.saturating_sub-n.ensures in
    c.low_byte.ensures ∙ sym (joined_second w (bytes s.width s.x) s.i (omega arith) ∙ ap (λ (m : ℕ). get_or (bytes s.width s.x) (s.i - m) 0) n)

pub text_byte_spec : {M : Type 1} → statement M
text_byte_spec = tie.close (tie.spec saturating-sub-requires add-byte-at byte-at-requires returns low-byte-requires returns_2)
