-- Laws of comparing two lists of bytes, as a loop does it. Assumes nothing.
use Rattle.std.specs.Prelude.{ℕ, ◌+◌, ◌≤◌, ◌<◌, ◌≡◌, refl, Bool, true, false, ◌&&◌, eqb, List, [], ◌∷◌, length, get_or, drop}
use Rattle.std.proofs.Common.{ap}
use Rattle.std.specs.Cmp.Lexicographic.{pointwise}
use borrow.Author.Tests.{eq-eqb, ne_eqb}
use Rattle.std.proofs.Math.ListN.{drop_of_length-le}
use Rattle.lemmas.specs.Slices.{rest_cons}
use Rattle.model.specs.Snapshot.{same_bytes}
use Rattle.model.proofs.Reading.{same_eq}

-- lists of different lengths are not equal
pub lengths_differ : (a b : List ℕ) → (length a ≡ length b → ⊥) → same_bytes a b ≡ false
lengths_differ a b h = go (same_bytes a b) refl
  where
    go : (t : Bool) → same_bytes a b ≡ t → same_bytes a b ≡ false
    go false e = e
    go true e = absurd (h (ap length (same_eq a b e)))

module _ (a b : List ℕ) (i : ℕ) where
  -- from a place on: the byte there, then those after it
  module _ (h : i < length a) (k : i < length b) where
    -- bytes that agree: those after them decide
    pub bytes_agree : get_or a i 0 ≡ get_or b i 0 → same_bytes (drop i a) (drop i b) ≡ same_bytes (drop (i + 1) a) (drop (i + 1) b)
    unfolding same_bytes
    bytes_agree e = rw (rest_cons a i 0 h, rest_cons b i 0 k, eq-eqb (get_or a i 0) (get_or b i 0) e)

    -- bytes that differ: not equal
    pub bytes_differ : (get_or a i 0 ≡ get_or b i 0 → ⊥) → same_bytes (drop i a) (drop i b) ≡ false
    unfolding same_bytes
    bytes_differ e = rw (rest_cons a i 0 h, rest_cons b i 0 k, ne_eqb (get_or a i 0) (get_or b i 0) e)

  -- no byte is left: equal
  pub bytes_over : length a ≤ i → length b ≤ i → same_bytes (drop i a) (drop i b) ≡ true
  unfolding same_bytes
  bytes_over h k = rw (drop_of_length-le a h, drop_of_length-le b k)

-- the library's comparison is that of the model
pub same_is : (a b : List ℕ) → pointwise eqb a b ≡ same_bytes a b
unfolding same_bytes
same_is [] [] = refl
same_is [] (y ∷ ys) = refl
same_is (x ∷ xs) [] = refl
same_is (x ∷ xs) (y ∷ ys) = ap (λ (t : Bool). eqb x y && t) (same_is xs ys)
