-- Fractions over a common denominator compare as their scaled numerators do. Assumes nothing.
use Rattle.std.specs.Prelude.{ℕ, zero, suc, ◌*◌, ◌<◌, ◌≡◌, refl, Bool, true, false, ltb}
use Rattle.std.proofs.Common.{mul_comm, mul_assoc, mul_left_comm, mul-lt-mul_of_pos_right, mul-le-mul_right, lt_of_mul-lt-mul_right, le_of_mul-le-mul_right, mul-pos, zero-mul, arith, ltb-true, ltb-false, lt-ltb, le-ltb}

-- a factor of a number that is not 0 is not 0
factor_pos : (b k w : ℕ) → b * k ≡ w → 0 < w → 0 < b
factor_pos zero k w e h = absurd (omega (arith, zero-mul k))
factor_pos (suc b) k w e h = omega arith

-- a / b and c / d, where b times k and d times l are one number w: they compare as a × k and c × l
pub over_one : (a b c d k l w : ℕ) → b * k ≡ w → d * l ≡ w → 0 < w → ltb (a * d) (c * b) ≡ ltb (a * k) (c * l)
over_one a b c d k l w p q h = go (ltb (a * k) (c * l)) refl
  where
    bd : 0 < b * d
    bd = mul-pos (factor_pos b k w p h) (factor_pos d l w q h)

    left : a * k * (b * d) ≡ a * d * w
    left = rw (← p) (simp (mul_assoc, mul_comm, mul_left_comm))

    right : c * l * (b * d) ≡ c * b * w
    right = rw (← q) (simp (mul_assoc, mul_comm, mul_left_comm))

    go : (t : Bool) → ltb (a * k) (c * l) ≡ t → ltb (a * d) (c * b) ≡ t
    go true e =
        let s = mul-lt-mul_of_pos_right (ltb-true (a * k) (c * l) e) bd in
        lt-ltb (a * d) (c * b) (lt_of_mul-lt-mul_right w (omega (arith, left, right)))
    go false e =
        let s = mul-le-mul_right (b * d) (ltb-false (a * k) (c * l) e) in
        le-ltb (a * d) (c * b) (le_of_mul-le-mul_right {k = w} (omega (arith, left, right)) h)
