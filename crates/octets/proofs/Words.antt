-- Parts of the 8-byte word at a place: its first bytes, the others, one byte. Assumes nothing.
use Prim.Native.Nat.{ℕ, ◌+◌, ◌-◌, ◌*◌, ◌/◌, ◌%◌, ◌^◌, ◌≤◌, ◌<◌, min}
use mathlib.Core.Path.{◌≡◌, sym, ap, ◌∙◌}
use mathlib.Core.Bool.{true}
use mathlib.Core.List.{List}
use native.Mathlib.Nat.{mul-div_cancel, zero-div, one-le-pow}
use native.Mathlib.Omega.{arith}
use lib.ListN.{length, get_or, take, drop, length-drop}
use lib.Pow.{are_bytes}
use lib.Seq.{take-take, drop-drop, length-take-le, get_or-take, get_or-drop}
use Rattle.lemmas.specs.AreBytes.{bytes_take, bytes_drop}
use Rattle.lemmas.specs.Big.{big, big_front, big_rest, big_byte, byte_bits}
use Rattle.lemmas.specs.Slices.{take_drop}

module _ (l : List ℕ) (at : ℕ) (h : at + 8 ≤ length l) (q : are_bytes l ≡ true) where
  -- the word: eight bytes
  abbrev w : List ℕ
  w = take 8 (drop at l)

  eight : length w ≡ 8
  eight = length-take-le 8 (drop at l) (omega (arith, length-drop at l))

  of_bytes : are_bytes w ≡ true
  of_bytes = bytes_take 8 (drop at l) (bytes_drop at l q)

  -- its first bytes, of a list that ends no sooner
  pub word_front : (c m : ℕ) → at + min c 8 ≤ m → big 0 w / 256 ^ (8 - c) ≡ big 0 (take (min c 8) (drop at (take m l)))
  word_front c m k =
      let k8 = min c 8 in
      let left : 8 - c ≡ length w - k8 = omega (arith, eight) in
      let whole : take k8 (drop at (take m l)) ≡ take k8 (drop at l) =
      take_drop at k8 (take m l) ∙ ap (drop at) (take-take (at + k8) m l k) ∙ sym (take_drop at k8 l) in
      rw (left, whole) (big_front k8 w of_bytes ∙ ap (big 0) (take-take k8 8 (drop at l) (omega arith)))

  -- the others, the first c shifted out
  pub word_rest : (c : ℕ) → c ≤ 8 → big 0 w * 2 ^ (8 * c) % 2 ^ 64 ≡ big 0 (take (8 - c) (drop (at + c) l)) * 256 ^ c
  word_rest c k =
      let e : c + (8 - c) ≡ 8 = omega arith in
      let others : drop c w ≡ take (8 - c) (drop (at + c) l) =
      ap (λ (n : ℕ). drop c (take n (drop at l))) (sym e) ∙ sym (take_drop c (8 - c) (drop at l)) ∙ ap (take (8 - c)) (drop-drop c at l) in
      rw (byte_bits c, ← others) (rw eight at (big_rest c w of_bytes (omega (arith, eight))))

  -- byte c
  pub word_byte : (c : ℕ) → c < 8 → big 0 w / 2 ^ (56 - 8 * c) % 256 ≡ get_or l (at + c) 0
  word_byte c k =
      let bits : 56 - 8 * c ≡ 8 * (length w - (c + 1)) = omega (arith, eight) in
      rw (bits, byte_bits (length w - (c + 1))) (big_byte c w of_bytes (omega (arith, eight)) ∙ get_or-take 8 (drop at l) c 0 k ∙ get_or-drop at l c 0)

-- a number that is 0 when it is shifted to the left is 0
pub unshifted : (x c : ℕ) → x * 256 ^ c ≡ 0 → x ≡ 0
unshifted x c e =
    let p = one-le-pow c 256 (omega arith) in
    sym (mul-div_cancel x p) ∙ ap (λ (z : ℕ). z / 256 ^ c) e ∙ zero-div (256 ^ c)
