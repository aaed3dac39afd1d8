-- Little-endian numbers: from bytes to values and back. Assumes nothing.
use Rattle.std.specs.Prelude.{ℕ, zero, suc, ◌+◌, ◌-◌, ◌*◌, ◌/◌, ◌%◌, ◌^◌, ◌≤◌, ◌<◌, ◌≡◌, refl, true, List, [], ◌∷◌, ◌++◌, ltb, length, get_or, set, drop}
use Rattle.std.proofs.Common.{sym, ap, ◌∙◌, arith, add-one, div-one, lt-ltb, ltb-true}
use Rattle.std.proofs.Math.Nat.{pow-succ', pow-le-pow_right, div-div-eq-div-mul}
use Rattle.std.proofs.Math.Pow.{are_bytes}
use Rattle.std.proofs.Math.Seq.{slice}
use Rattle.lemmas.specs.ListLaws.{and_left, and_right, both}
use Rattle.lemmas.specs.Slices.{put, put_cons, put_nil, rest_cons, run_end, drop_next}

-- the value of little-endian bytes
unfoldable pub number : List ℕ → ℕ
number [] = 0
number (b ∷ bs) = b + 256 * number bs

-- the w bytes of n, the lowest first
unfoldable pub bytes : ℕ → ℕ → List ℕ
bytes zero n = []
bytes (suc w) n = n % 256 ∷ bytes w (n / 256)

-- ---- their laws
-- n bytes are n long
pub bytes_length : (n a : ℕ) → length (bytes n a) ≡ n
unfolding bytes
bytes_length zero a = refl
bytes_length (suc n) a = ap suc (bytes_length n (a / 256))

-- the value of a number's bytes is the number
pub bytes_number : (n a : ℕ) → a < 256 ^ n → number (bytes n a) ≡ a
unfolding bytes number
bytes_number zero a h = omega arith
bytes_number (suc n) a h = omega (arith, bytes_number n (a / 256) (omega arith))

-- bytes of equal width in front of other bytes: if the whole is equal both parts are
pub bytes_apart : (n a b : ℕ) → a < 256 ^ n → b < 256 ^ n → (x y : List ℕ) → bytes n a ++ x ≡ bytes n b ++ y → (a ≡ b) × (x ≡ y)
unfolding bytes
bytes_apart zero a b h k x y e = (omega arith, e)
bytes_apart (suc n) a b h k x y e =
    let q : a % 256 ≡ b % 256 = cc in
    let t : bytes n (a / 256) ++ x ≡ bytes n (b / 256) ++ y = cc in
    let r = bytes_apart n (a / 256) (b / 256) (omega arith) (omega arith) x y t in
    let d : a / 256 ≡ b / 256 = r.0 in
    (omega arith, r.1)

-- ---- bytes and powers

-- the bytes of a number are bytes
pub bytes_are : (w n : ℕ) → are_bytes (bytes w n) ≡ true
unfolding bytes
bytes_are zero n = refl
bytes_are (suc w) n = both (ltb (n % 256) 256) (are_bytes (bytes w (n / 256))) (lt-ltb (n % 256) 256 (omega arith)) (bytes_are w (n / 256))

-- one byte more has room for 256 times as much
pub number_grow : (r b n : ℕ) → r < 256 ^ n → b < 256 → b + 256 * r < 256 ^ (n + 1)
number_grow r b n h k = rw (add-one n) (omega arith)

-- a number of at most eight bytes fits 64 bits
pub number_fits : (x n : ℕ) → n ≤ 8 → x < 256 ^ n → x < 2 ^ 64
number_fits x n h k =
    let p : 256 ^ n ≤ 256 ^ 8 = pow-le-pow_right (omega arith) h in
    omega arith

-- the value of n bytes is below 256 to the n
pub number_bound : (l : List ℕ) → are_bytes l ≡ true → number l < 256 ^ length l
unfolding number
number_bound [] h = omega arith
number_bound (b ∷ l) h =
    let k : b < 256 = ltb-true b 256 (and_left (ltb b 256) (are_bytes l) h) in
    let ih = number_bound l (and_right (ltb b 256) (are_bytes l) h) in
    omega (arith, pow-succ' 256 (length l))

-- ---- reading from the top down: the value read so far, then one byte more below it

-- the value from j on is byte j plus 256 times the value from j + 1 on
pub number_drop : (l : List ℕ) (j : ℕ) → j < length l → number (drop j l) ≡ get_or l j 0 + 256 * number (drop (j + 1) l)
unfolding number
number_drop l j h = rw (rest_cons l j 0 h)

-- the same for a place that counts down
pub number_back : (l : List ℕ) (j : ℕ) → 0 < j → j ≤ length l → number (drop (j - 1) l) ≡ get_or l (j - 1) 0 + 256 * number (drop j l)
unfolding number
number_back l j h k = rw (drop_next l (j - 1) j 0 (omega arith) (omega arith))

-- no bytes are worth 0
pub number_end : (i e : ℕ) (l : List ℕ) → i ≤ e → e ≤ i → number (slice i e l) ≡ 0
unfolding number
number_end i e l h k = rw (run_end i e l h k)

-- ---- writing: byte j of k goes to place at + j, the other bytes after it

-- a turn: one byte is written
pub bytes_turn : (out : List ℕ) (at k j y : ℕ) → j < k → at + j < length out
    → put (set out (at + j) (y % 256)) (at + (j + 1)) (bytes (k - (j + 1)) (y / 256)) ≡ put out (at + j) (bytes (k - j) y)
unfolding bytes
bytes_turn out at k j y h g =
    let p : at + (j + 1) ≡ at + j + 1 = omega arith in
    let q : k - j ≡ suc (k - (j + 1)) = omega arith in
    rw (p, q) (put_cons out (at + j) (y % 256) (bytes (k - (j + 1)) (y / 256)) g)

-- all bytes are written
pub bytes_end : (out : List ℕ) (at k j y : ℕ) → k ≤ j → put out (at + j) (bytes (k - j) y) ≡ out
unfolding bytes
bytes_end out at k j y h =
    let q : k - j ≡ 0 = omega arith in
    rw q (put_nil out (at + j))

-- byte j of a number, by a division and a remainder
pub byte_at : (w n j : ℕ) → j < w → get_or (bytes w n) j 0 ≡ n / 256 ^ j % 256
unfolding bytes
byte_at zero n j h = absurd (omega arith)
byte_at (suc w) n zero h = ap (λ (k : ℕ). k % 256) (sym (div-one n))
byte_at (suc w) n (suc j) h =
    byte_at w (n / 256) j (omega arith)
    ∙ ap (λ (k : ℕ). k % 256) (div-div-eq-div-mul n 256 (256 ^ j) ∙ ap (λ (k : ℕ). n / k) (sym (pow-succ' 256 j)))
