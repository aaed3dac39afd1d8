-- Lists of bytes: the test `are_bytes` element by element, and for parts of a list. Assumes nothing.
use Rattle.std.specs.Prelude.{ℕ, zero, suc, ◌<◌, ◌≡◌, refl, true, List, [], ◌∷◌, ltb, get_or, take, drop}
use Rattle.std.proofs.Common.{arith, ltb-true, lt-ltb}
use Rattle.std.proofs.Math.Pow.{are_bytes}
use Rattle.lemmas.specs.ListLaws.{and_left, and_right, both}

-- a list is one of bytes if each element is below 256
pub bytes_all : (l : List ℕ) → ((i : ℕ) → get_or l i 0 < 256) → are_bytes l ≡ true
bytes_all [] h = refl
bytes_all (x ∷ xs) h = both (ltb x 256) (are_bytes xs) (lt-ltb x 256 (h 0)) (bytes_all xs (λ i. h (suc i)))

-- an element of a list of bytes is a byte. Past the end 0 is read
pub bytes_at : (l : List ℕ) (i : ℕ) → are_bytes l ≡ true → get_or l i 0 < 256
bytes_at [] zero e = omega arith
bytes_at [] (suc i) e = omega arith
bytes_at (x ∷ xs) zero e = ltb-true x 256 (and_left (ltb x 256) (are_bytes xs) e)
bytes_at (x ∷ xs) (suc i) e = bytes_at xs i (and_right (ltb x 256) (are_bytes xs) e)

-- the first n of a list of bytes are bytes
pub bytes_take : (n : ℕ) (l : List ℕ) → are_bytes l ≡ true → are_bytes (take n l) ≡ true
bytes_take zero l e = refl
bytes_take (suc n) [] e = refl
bytes_take (suc n) (x ∷ xs) e =
    both (ltb x 256) (are_bytes (take n xs)) (and_left (ltb x 256) (are_bytes xs) e) (bytes_take n xs (and_right (ltb x 256) (are_bytes xs) e))

-- a list of bytes without its first n is one of bytes
pub bytes_drop : (n : ℕ) (l : List ℕ) → are_bytes l ≡ true → are_bytes (drop n l) ≡ true
bytes_drop zero l e = e
bytes_drop (suc n) [] e = refl
bytes_drop (suc n) (x ∷ xs) e = bytes_drop n xs (and_right (ltb x 256) (are_bytes xs) e)
