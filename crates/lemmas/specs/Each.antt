-- A fact about each element of a list, as a type: at a place, for a part, for a list written over another, under map. Assumes nothing.
use Prim.Native.Nat.{ℕ, zero, suc, ◌+◌, ◌<◌}
use mathlib.Core.List.{List, [], ◌∷◌, ◌++◌}
use Rattle.std.proofs.Common.{le_of_suc-le-suc, not-suc-le-zero}
use Rattle.std.proofs.Math.ListN.{length, drop}
use Rattle.std.specs.Prelude.{get_or, take, replicate}
use Rattle.std.proofs.Math.Seq.{slice}
use Rattle.lemmas.specs.Slices.{put}

-- P holds of each element
unfoldable pub Each : {A : Type 0} → (A → Type 0) → List A → Type 0
Each P [] = Unit {0}
Each P (x ∷ xs) = P x × Each P xs

module _ {A : Type 0} (P : A → Type 0) where
  -- P holds of the element at a place
  pub each_at : (xs : List A) (i : ℕ) (d : A) → Each P xs → i < length xs → P (get_or xs i d)
  unfolding Each
  each_at [] i d e h = absurd (not-suc-le-zero h)
  each_at (x ∷ xs) zero d e h = e.0
  each_at (x ∷ xs) (suc i) d e h = each_at xs i d e.1 (le_of_suc-le-suc h)

  -- P holds of each of the first n
  pub each_take : (n : ℕ) (xs : List A) → Each P xs → Each P (take n xs)
  unfolding Each
  each_take zero xs e = tt
  each_take (suc n) [] e = tt
  each_take (suc n) (x ∷ xs) e = (e.0, each_take n xs e.1)

  -- P holds of each after the first n
  pub each_drop : (n : ℕ) (xs : List A) → Each P xs → Each P (drop n xs)
  unfolding Each
  each_drop zero xs e = e
  each_drop (suc n) [] e = tt
  each_drop (suc n) (x ∷ xs) e = each_drop n xs e.1

  -- P holds of each element of a run
  pub each_slice : (i n : ℕ) (xs : List A) → Each P xs → Each P (slice i n xs)
  each_slice i n xs e = each_drop i (take n xs) (each_take n xs e)

  -- P holds of each element of two lists joined
  pub each_append : (xs ys : List A) → Each P xs → Each P ys → Each P (xs ++ ys)
  unfolding Each
  each_append [] ys e f = f
  each_append (x ∷ xs) ys e f = (e.0, each_append xs ys e.1 f)

  -- P holds of each element of a list with another written over it
  pub each_put : (d : List A) (at : ℕ) (s : List A) → Each P d → Each P s → Each P (put d at s)
  unfolding put
  each_put d at s e f = each_append (take at d) (s ++ drop (at + length s) d) (each_take at d e) (each_append s (drop (at + length s) d) f (each_drop (at + length s) d e))

  -- P holds of one element repeated
  pub each_replicate : (n : ℕ) (x : A) → P x → Each P (replicate n x)
  unfolding Each
  each_replicate zero x p = tt
  each_replicate (suc n) x p = (p, each_replicate n x p)
