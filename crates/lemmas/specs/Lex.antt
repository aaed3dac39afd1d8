-- Dictionary order of two lists that agree up to a place, for a loop that compares them. Assumes nothing.
use Rattle.std.specs.Prelude.{ℕ, zero, suc, ◌≤◌, ◌<◌, ◌≡◌, Bool, true, ltb, length, take, drop}
use Rattle.std.proofs.Math.Path.{refl}
use Rattle.std.proofs.Math.Bool.{false}
use mathlib.Core.List.{List, [], ◌∷◌}
use Rattle.std.proofs.Common.{arith}
use Rattle.std.proofs.Math.ListN.{drop_of_length-le}
use Rattle.lemmas.specs.Order.{lexb, by_first, clash, nat_order, lex_order}
use Rattle.lemmas.specs.Slices.{rest_cons}

-- "a is before b" from place i on, where one of them has ended. For "b is before a" exchange a and b
module _ (a b : List ℕ) (i : ℕ) where
  -- both have ended: a is not before b
  pub both_end : length a ≤ i → length b ≤ i → lexb (drop i a) (drop i b) ≡ false
  unfolding lexb
  both_end h k = rw (drop_of_length-le a h, drop_of_length-le b k)

  -- a has ended and b has not: a is before b
  pub left_ends : length a ≤ i → i < length b → lexb (drop i a) (drop i b) ≡ true
  unfolding lexb
  left_ends h k = rw (drop_of_length-le a h, rest_cons b i 0 k)

  -- b has ended: a is not before b
  pub right_ends : length b ≤ i → lexb (drop i a) (drop i b) ≡ false
  unfolding lexb
  right_ends k = rw (drop_of_length-le b k) (nothing_before (drop i a))
    where
      nothing_before : (l : List ℕ) → lexb l [] ≡ false
      nothing_before [] = refl
      nothing_before (x ∷ l) = refl

-- ---- several numbers at once

-- lists that agree up to place i compare as their rests from i on
pub agreed : (i : ℕ) (a b : List ℕ) → i ≤ length a → i ≤ length b → take i a ≡ take i b → lexb a b ≡ lexb (drop i a) (drop i b)
unfolding lexb by_first
agreed zero a b h k e = refl
agreed (suc i) [] b h k e = absurd (omega arith)
agreed (suc i) (x ∷ a) [] h k e = absurd (omega arith)
agreed (suc i) (x ∷ a) (y ∷ b) h k e =
    let here : x ≡ y = cc in
    let rest : take i a ≡ take i b = cc in
    rw (here, nat_order.irrefl y) (agreed i a b (omega arith) (omega arith) rest)

-- fronts that differ decide
pub front_less : (n : ℕ) (a b : List ℕ) → n ≤ length a → n ≤ length b → lexb (take n a) (take n b) ≡ true → lexb a b ≡ true
unfolding lexb by_first
front_less zero a b h k e = clash e refl
front_less (suc n) [] b h k e = absurd (omega arith)
front_less (suc n) (x ∷ a) [] h k e = absurd (omega arith)
front_less (suc n) (x ∷ a) (y ∷ b) h k e = go (ltb x y) (ltb y x) e (front_less n a b (omega arith) (omega arith))
  where
    go : (s t : Bool) → by_first s t (lexb (take n a) (take n b)) ≡ true → (lexb (take n a) (take n b) ≡ true → lexb a b ≡ true) → by_first s t (lexb a b) ≡ true
    go true t e ih = refl
    go false true e ih = clash e refl
    go false false e ih = ih e

-- two lists are not both before each other
pub not_both : (a b : List ℕ) → lexb a b ≡ true → lexb b a ≡ false
not_both a b h = go (lexb b a) refl
  where
    go : (t : Bool) → lexb b a ≡ t → lexb b a ≡ false
    go false e = e
    go true e = clash (lex_order.trans a b a h e) (lex_order.irrefl a)
