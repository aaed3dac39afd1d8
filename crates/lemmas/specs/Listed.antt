-- Tests and sums of lists, by the words that the library's contracts use. Assumes nothing.
use Rattle.std.specs.Prelude.{ℕ, ◌≡◌, refl, Bool, List, [], ◌∷◌}
use Rattle.std.specs.List.{list_all, list_any, filter, sum_by}
use Rattle.std.proofs.Common.{cond}
use Rattle.std.proofs.Math.Bool.{true, false}
use Rattle.std.proofs.lemmas.List.Recursion.{is_sum_by}
use Rattle.lemmas.specs.Lists.{all, any, keep, push, sum}

module _ {A : Type 0} (p : A → Bool) where
  -- all items pass
  pub all_listed : (l : List A) → list_all p l ≡ all p l
  unfolding all
  all_listed [] = refl
  all_listed (x ∷ l) = rw (all_listed l)

  -- some item passes
  pub any_listed : (l : List A) → list_any p l ≡ any p l
  unfolding any
  any_listed [] = refl
  any_listed (x ∷ l) = rw (any_listed l)

  -- one that passes is put in front
  pushed : (b : Bool) (x : A) (l : List A) → cond b (x ∷ l) l ≡ push b x l
  unfolding push
  pushed true x l = refl
  pushed false x l = refl

  -- the items that pass
  pub keep_listed : (l : List A) → filter p l ≡ keep p l
  unfolding keep
  keep_listed [] = refl
  keep_listed (x ∷ l) = rw (keep_listed l) (pushed (p x) x (keep p l))

-- the sum of numbers
pub sum_listed : (l : List ℕ) → sum l ≡ sum_by (λ x. x) l
unfolding sum
sum_listed l = is_sum_by sum (λ x. x) refl (λ _ _. refl) l
