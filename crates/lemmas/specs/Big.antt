-- Big-endian numbers. Byte lists of equal length have the order of their numbers, so several bytes can be compared at once. Dividing a number takes its bytes apart.
-- Assumes nothing.
use Rattle.std.specs.Prelude.{ℕ, zero, suc, ◌+◌, ◌-◌, ◌*◌, ◌/◌, ◌%◌, ◌^◌, ◌≤◌, ◌<◌, ◌≡◌, refl, Bool, true, false, ◌&&◌, List, [], ◌∷◌, ◌++◌, ltb, eqb, length, get_or, take, drop}
use Rattle.std.proofs.Common.{sym, ap, ◌∙◌, arith, pow-suc, mul_assoc, add-mul, mul-lt-mul_of_pos_right, add-one, length-drop, take-append-drop, drop-drop, take-suc, pow-add, lt-ltb, le-ltb, ltb-true, ltb-false, eqb-true}
use Rattle.std.proofs.Math.Nat.{one-le-pow, pow-succ'}
use Rattle.std.proofs.Math.Arith.{digits_lt, digits_div, digits_mod}
use Rattle.std.proofs.Math.Pow.{are_bytes}
use Rattle.lemmas.specs.AreBytes.{bytes_at, bytes_drop}
use Rattle.lemmas.specs.ListLaws.{and_left, and_right}
use Rattle.lemmas.specs.Lists.{all}
use Rattle.lemmas.specs.Maps.{all_append}
use Rattle.lemmas.specs.Order.{by_first, lexb, lex_same}

-- the big-endian number whose upper part is x and whose lower bytes are these
unfoldable pub big : ℕ → List ℕ → ℕ
big x [] = x
big x (b ∷ bs) = big (x * 256 + b) bs

-- the first of a list of bytes is a byte
first_byte : (c : ℕ) (a : List ℕ) → are_bytes (c ∷ a) ≡ true → c < 256
first_byte c a h = ltb-true c 256 (and_left (ltb c 256) (are_bytes a) h)

-- the others are bytes too
other_bytes : (c : ℕ) (a : List ℕ) → are_bytes (c ∷ a) ≡ true → are_bytes a ≡ true
other_bytes c a h = and_right (ltb c 256) (are_bytes a) h

-- the smaller upper part decides, whatever bytes follow
pub big_start : (x y : ℕ) (a b : List ℕ) → length a ≡ length b → are_bytes a ≡ true → x < y → big x a < big y b
unfolding big
big_start x y [] [] e h l = l
big_start x y [] (d ∷ b) e h l = absurd (omega (arith, e))
big_start x y (c ∷ a) [] e h l = absurd (omega (arith, e))
big_start x y (c ∷ a) (d ∷ b) e h l =
    big_start (x * 256 + c) (y * 256 + d) a b (omega (arith, e)) (other_bytes c a h) (omega (arith, first_byte c a h))

-- with equal upper parts, numbers have the order of their bytes
pub big_order : (x : ℕ) (a b : List ℕ) → length a ≡ length b → are_bytes a ≡ true → are_bytes b ≡ true → lexb a b ≡ ltb (big x a) (big x b)
unfolding big lexb by_first
big_order x [] [] e h k = sym (le-ltb x x (omega arith))
big_order x [] (d ∷ b) e h k = absurd (omega (arith, e))
big_order x (c ∷ a) [] e h k = absurd (omega (arith, e))
big_order x (c ∷ a) (d ∷ b) e h k = go (ltb c d) (ltb d c) refl refl (big_order (x * 256 + c) a b (omega (arith, e)) (other_bytes c a h) (other_bytes d b k))
  where
    go : (s t : Bool) → ltb c d ≡ s → ltb d c ≡ t → lexb a b ≡ ltb (big (x * 256 + c) a) (big (x * 256 + c) b)
        → by_first (ltb c d) (ltb d c) (lexb a b) ≡ ltb (big (x * 256 + c) a) (big (x * 256 + d) b)
    go true t p q r =
        rw p (sym (lt-ltb (big (x * 256 + c) a) (big (x * 256 + d) b) (big_start (x * 256 + c) (x * 256 + d) a b (omega (arith, e)) (other_bytes c a h) (omega (arith, ltb-true c d p)))))
    go false true p q r =
        let l = big_start (x * 256 + d) (x * 256 + c) b a (omega (arith, e)) (other_bytes d b k) (omega (arith, ltb-true d c q)) in
        rw (p, q) (sym (le-ltb (big (x * 256 + c) a) (big (x * 256 + d) b) (omega arith)))
    go false false p q r =
        let same : c ≡ d = omega (arith, ltb-false c d p, ltb-false d c q) in
        rw (p, q) (r ∙ ap (λ (z : ℕ). ltb (big (x * 256 + c) a) (big (x * 256 + z) b)) same)

-- byte lists of equal length with the same number are the same
pub big_same : (a b : List ℕ) → length a ≡ length b → are_bytes a ≡ true → are_bytes b ≡ true → big 0 a ≡ big 0 b → a ≡ b
big_same a b e h k n =
    lex_same a b (big_order 0 a b e h k ∙ le-ltb (big 0 a) (big 0 b) (omega arith)) (big_order 0 b a (sym e) k h ∙ le-ltb (big 0 b) (big 0 a) (omega arith))

-- if a number is 0, its upper part and all its bytes are 0
pub big_zero : (x : ℕ) (a : List ℕ) → big x a ≡ 0 → (x ≡ 0) × (all (λ b. eqb b 0) a ≡ true)
unfolding big all
big_zero x [] e = (e, refl)
big_zero x (c ∷ a) e =
    let r = big_zero (x * 256 + c) a e in
    let z : c ≡ 0 = omega (arith, r.0) in
    (omega (arith, r.0), rw z r.1)

-- the number of zero bytes is 0
pub zeros_big : (a : List ℕ) → all (λ b. eqb b 0) a ≡ true → big 0 a ≡ 0
unfolding big all
zeros_big [] h = refl
zeros_big (c ∷ a) h =
    let z : c ≡ 0 = eqb-true c 0 (and_left (eqb c 0) (all (λ b. eqb b 0) a) h) in
    rw z (zeros_big a (and_right (eqb c 0) (all (λ b. eqb b 0) a) h))

-- all bytes are 0
abbrev zeros : List ℕ → Bool
zeros l = all (λ b. eqb b 0) l

module _ (n i : ℕ) (a : List ℕ) where
  -- zeros from i on: n zeros there, and zeros after them
  in_two : zeros (drop i a) ≡ zeros (take n (drop i a)) && zeros (drop (i + n) a)
  in_two =
      ap zeros (sym (take-append-drop n (drop i a))) ∙ all_append (λ b. eqb b 0) (take n (drop i a)) (drop n (drop i a))
      ∙ ap (λ (l : List ℕ). zeros (take n (drop i a)) && zeros l) (drop-drop n i a)

  -- n bytes whose number is 0 are passed: the answer is that of the rest
  pub zeros_on : big 0 (take n (drop i a)) ≡ 0 → zeros (drop i a) ≡ zeros (drop (i + n) a)
  zeros_on e = in_two ∙ rw (big_zero 0 (take n (drop i a)) e).1

  -- n bytes whose number is not 0: not all are 0
  pub zeros_not : (big 0 (take n (drop i a)) ≡ 0 → ⊥) → zeros (drop i a) ≡ false
  zeros_not e = go (zeros (take n (drop i a))) refl
    where
      go : (t : Bool) → zeros (take n (drop i a)) ≡ t → zeros (drop i a) ≡ false
      go true h = absurd (e (zeros_big (take n (drop i a)) h))
      go false h = in_two ∙ rw h

-- ---- parts of a number: its first bytes, the others, one of them
-- a number is its upper part times a power of 256, plus its bytes
big_from : (x : ℕ) (a : List ℕ) → big x a ≡ x * 256 ^ length a + big 0 a
unfolding big
big_from x [] = omega arith
big_from x (c ∷ a) =
    let p = 256 ^ length a in
    let up : x * 256 ^ suc (length a) ≡ x * 256 * p = ap (λ (z : ℕ). x * z) (pow-succ' 256 (length a)) ∙ sym (mul_assoc x 256 p) in
    omega (arith, big_from (x * 256 + c) a, big_from (0 * 256 + c) a, add-mul (x * 256) c p, add-mul (0 * 256) c p)

-- the number of two lists joined, by the numbers of both
pub big_append : (x : ℕ) (a b : List ℕ) → big x (a ++ b) ≡ big x a * 256 ^ length b + big 0 b
unfolding big
big_append x [] b = big_from x b
big_append x (c ∷ a) b = big_append (x * 256 + c) a b

-- the number of n bytes is below 256 to the n
pub big_bound : (a : List ℕ) → are_bytes a ≡ true → big 0 a < 256 ^ length a
unfolding big
big_bound [] h = omega arith
big_bound (c ∷ a) h =
    let p = 256 ^ length a in
    let below : c * p + big 0 a < 256 * p = digits_lt (first_byte c a h) (big_bound a (other_bytes c a h)) in
    omega (arith, big_from (0 * 256 + c) a, pow-succ' 256 (length a), add-mul (0 * 256) c p)

module _ (c : ℕ) (l : List ℕ) (h : are_bytes l ≡ true) where
  -- a number in two parts: its first c bytes and the others
  parted : big 0 l ≡ big 0 (take c l) * 256 ^ (length l - c) + big 0 (drop c l)
  parted =
      ap (big 0) (sym (take-append-drop c l)) ∙ big_append 0 (take c l) (drop c l)
      ∙ ap (λ (n : ℕ). big 0 (take c l) * 256 ^ n + big 0 (drop c l)) (length-drop c l)

  -- the number of the others is below the power of their width
  rest_bound : big 0 (drop c l) < 256 ^ (length l - c)
  rest_bound = rw (← length-drop c l) (big_bound (drop c l) (bytes_drop c l h))

  -- dividing leaves the first c bytes
  pub big_front : big 0 l / 256 ^ (length l - c) ≡ big 0 (take c l)
  big_front = ap (λ (z : ℕ). z / 256 ^ (length l - c)) parted ∙ digits_div (big 0 (take c l)) rest_bound

  -- multiplying, cut to the width, leaves the other bytes
  pub big_rest : c ≤ length l → big 0 l * 256 ^ c % 256 ^ length l ≡ big 0 (drop c l) * 256 ^ c
  big_rest k =
      let w : 256 ^ length l ≡ 256 ^ (length l - c) * 256 ^ c = ap (λ (n : ℕ). 256 ^ n) (omega arith) ∙ pow-add 256 (length l - c) c in
      let above = big 0 (take c l) in
      let e : big 0 l * 256 ^ c ≡ above * 256 ^ length l + big 0 (drop c l) * 256 ^ c =
      ap (λ (z : ℕ). z * 256 ^ c) parted ∙ add-mul (above * 256 ^ (length l - c)) (big 0 (drop c l)) (256 ^ c)
      ∙ ap (λ (z : ℕ). z + big 0 (drop c l) * 256 ^ c) (mul_assoc above (256 ^ (length l - c)) (256 ^ c) ∙ ap (λ (z : ℕ). above * z) (sym w)) in
      let below : big 0 (drop c l) * 256 ^ c < 256 ^ length l = rw w (mul-lt-mul_of_pos_right rest_bound (one-le-pow c 256 (omega arith))) in
      ap (λ (z : ℕ). z % 256 ^ length l) e ∙ digits_mod above below

-- byte c of a number, by a division and a remainder
pub big_byte : (c : ℕ) (l : List ℕ) → are_bytes l ≡ true → c < length l → big 0 l / 256 ^ (length l - (c + 1)) % 256 ≡ get_or l c 0
unfolding big
big_byte c l h k =
    let b = get_or l c 0 in
    let last : big 0 (take (c + 1) l) ≡ big 0 (take c l) * 256 + b = rw (add-one c, take-suc l c 0 k) (omega (arith, big_append 0 (take c l) (b ∷ []))) in
    ap (λ (z : ℕ). z % 256) (big_front (c + 1) l h ∙ last) ∙ digits_mod (big 0 (take c l)) (bytes_at l c h)

-- n bytes are 8 n bits
pub byte_bits : (n : ℕ) → 2 ^ (8 * n) ≡ 256 ^ n
byte_bits zero = refl
byte_bits (suc n) =
    let e : 8 * suc n ≡ 8 * n + 8 = omega arith in
    ap (λ (k : ℕ). 2 ^ k) e ∙ pow-add 2 (8 * n) 8 ∙ ap (λ (z : ℕ). z * 2 ^ 8) (byte_bits n) ∙ sym (pow-suc 256 n)
