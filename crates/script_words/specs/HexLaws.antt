-- Hex digits laid as bytes: what the loop says at each turn and at its end. Assumes nothing.
use Rattle.std.proofs.Math.Decide.{dec_lt}
use Rattle.std.proofs.Common.{min}
use Rattle.std.specs.Prelude.{ℕ, ◌+◌, ◌-◌, ◌*◌, ◌/◌, ◌≤◌, ◌<◌, ◌≡◌, List, length, get_or, take, set}
use Rattle.std.proofs.Common.{sym, ap, ◌∙◌, arith, add-one, take-suc, take-suc-set, take_all}
use Rattle.script_words.specs.Words.{hex_byte, hex_bytes}
use Rattle.script_words.specs.WordLaws.{hex_bytes_length, hex_bytes_at}

module _ (line : List ℕ) (from to : ℕ) where
  -- one byte more
  pub hex_turn : (out : List ℕ) (i at b : ℕ) → at ≡ from + 2 * i → i < (to - from) / 2 → i < length out → b ≡ hex_byte (get_or line at 0) (get_or line (at + 1) 0)
      → take i out ≡ take i (hex_bytes line from to) → take (i + 1) (set out i b) ≡ take (i + 1) (hex_bytes line from to)
  hex_turn out i at b p h g q e =
      let n : i < length (hex_bytes line from to) = omega (arith, hex_bytes_length line from to) in
      let byte : b ≡ get_or (hex_bytes line from to) i 0 = q ∙ ap (λ (x : ℕ). hex_byte (get_or line x 0) (get_or line (x + 1) 0)) p ∙ sym (hex_bytes_at line from to i h) in
      rw (add-one i, take-suc-set out i b g, take-suc (hex_bytes line from to) i 0 n, e, byte)

  -- no byte is left
  pub hex_over : (out : List ℕ) (i : ℕ) → (to - from) / 2 ≤ i → i ≤ length out → take i out ≡ take i (hex_bytes line from to)
      → take i out ≡ take (length out) (hex_bytes line from to)
  hex_over out i h g e =
      let n : length (hex_bytes line from to) ≤ i = omega (arith, hex_bytes_length line from to) in
      e ∙ take_all i (hex_bytes line from to) n ∙ sym (take_all (length out) (hex_bytes line from to) (omega arith))

  -- no room is left
  pub hex_full : (out : List ℕ) (i : ℕ) → length out ≤ i → i ≤ length out → take i out ≡ take i (hex_bytes line from to)
      → take i out ≡ take (length out) (hex_bytes line from to)
  hex_full out i h g e = let q : i ≡ length out = omega arith in e ∙ ap (λ (n : ℕ). take n (hex_bytes line from to)) q

  -- as many as there are digits for, and room
  pub hex_done : (out : List ℕ) (n : ℕ) → n ≡ min ((to - from) / 2) (length out) → take n out ≡ take n (hex_bytes line from to) → take n out ≡ take (length out) (hex_bytes line from to)
  hex_done out n h e = go (dec_lt n (length out))
    where
      go : Dec (n < length out) → take n out ≡ take (length out) (hex_bytes line from to)
      go (yes k) = hex_over out n (omega arith) (omega arith) e
      go (no k) = hex_full out n (omega arith) (omega arith) e
