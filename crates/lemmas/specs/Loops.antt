-- Facts for one turn of a loop over a run. For each list function of Lists: its value from i to e, by the element at i and the value from i + 1 to e. First over
-- `map f (slice i e l)`, then over the plain run. Assumes nothing.
use Prim.Native.Nat.{ℕ, zero, suc, ◌+◌, ◌≤◌, ◌<◌}
use Rattle.std.specs.Prelude.{◌≡◌, Bool, ◌⊎◌, ltb, get_or, set}
use Rattle.std.proofs.Math.Path.{refl}
use Rattle.std.proofs.Common.{sym, ap, ◌∙◌, inl, inr, add-one, ltb-true, ltb-false}
use Rattle.std.proofs.Math.Bool.{true, false, cond}
use mathlib.Core.List.{List, [], ◌∷◌, map}
use Rattle.std.proofs.Math.Option.{some}
use native.Mathlib.Omega.{arith}
use Rattle.std.proofs.Math.ListN.{length}
use Rattle.std.proofs.Math.Seq.{slice}
use Rattle.lemmas.specs.Order.{clash}
use Rattle.lemmas.specs.ListLaws.{and_left, and_right}
use Rattle.lemmas.specs.Lists.{push, keep, any, all, find, chain}
use Rattle.lemmas.specs.Slices.{put, put_cons, put_nil, run_cons, run_end, drop_view, view_end, length_view}

-- two numbers are equal, or one is below the other
pub compare : (x y : ℕ) → (x ≡ y) ⊎ ((x < y) ⊎ (y < x))
compare x y = by (ltb x y) refl (ltb y x) refl
  where
    by : (b : Bool) → ltb x y ≡ b → (d : Bool) → ltb y x ≡ d → (x ≡ y) ⊎ ((x < y) ⊎ (y < x))
    by true e d q = inr (inl (ltb-true x y e))
    by false e true q = inr (inr (ltb-true y x q))
    by false e false q = inl (omega (arith, ltb-false x y e, ltb-false y x q))

module _ {A : Type 0} where
  -- the number of items before the first that passes, or of all if none does
  unfoldable pub before_first : (A → Bool) → List A → ℕ
  before_first p [] = 0
  before_first p (x ∷ xs) = cond (p x) 0 (suc (before_first p xs))

  -- it is at most the length
  pub before_first_le : (p : A → Bool) (xs : List A) → before_first p xs ≤ length xs
  unfolding before_first
  before_first_le p [] = omega arith
  before_first_le p (x ∷ xs) = go (before_first_le p xs) (p x)
    where
      go : before_first p xs ≤ length xs → (t : Bool) → cond t 0 (suc (before_first p xs)) ≤ suc (length xs)
      go h true = omega arith
      go h false = omega arith

  -- the items before it do not pass
  pub first_before : (p : A → Bool) (xs : List A) (i : ℕ) (d : A) → i < before_first p xs → p (get_or xs i d) ≡ false
  unfolding before_first
  first_before p [] i d h = absurd (omega arith)
  first_before p (x ∷ xs) i d h = go (λ j. first_before p xs j d) i (p x) refl h
    where
      go : ((j : ℕ) → j < before_first p xs → p (get_or xs j d) ≡ false) → (i : ℕ) (t : Bool) → p x ≡ t → i < cond t 0 (suc (before_first p xs)) → p (get_or (x ∷ xs) i d) ≡ false
      go ih i true e h = absurd (omega arith)
      go ih zero false e h = e
      go ih (suc i) false e h = ih i (omega arith)

  -- the item there passes
  pub first_at_lem : (p : A → Bool) (xs : List A) (d : A) → before_first p xs < length xs → p (get_or xs (before_first p xs) d) ≡ true
  unfolding before_first
  first_at_lem p [] d h = absurd (omega arith)
  first_at_lem p (x ∷ xs) d h = go (first_at_lem p xs d) (p x) refl h
    where
      go : (before_first p xs < length xs → p (get_or xs (before_first p xs) d) ≡ true) → (t : Bool) → p x ≡ t → cond t 0 (suc (before_first p xs)) < suc (length xs) → p (get_or (x ∷ xs) (cond t 0 (suc (before_first p xs))) d) ≡ true
      go ih true e h = e
      go ih false e h = ih (omega arith)

  -- no other place is like that
  pub first_is : (p : A → Bool) (xs : List A) (d : A) (r : ℕ) → r ≤ length xs → ((i : ℕ) → i < r → p (get_or xs i d) ≡ false)
      → (r < length xs → p (get_or xs r d) ≡ true) → r ≡ before_first p xs
  first_is p xs d r h fails passes = go (compare r (before_first p xs))
    where
      go : (r ≡ before_first p xs) ⊎ ((r < before_first p xs) ⊎ (before_first p xs < r)) → r ≡ before_first p xs
      go (inl e) = e
      go (inr (inl l)) = clash (passes (omega (arith, before_first_le p xs))) (first_before p xs r d l)
      go (inr (inr l)) = clash (first_at_lem p xs d (omega arith)) (fails (before_first p xs) l)

-- ---- a list by its first element x and the others: for loops over any form of a list
module _ {A : Type 0} (p : A → Bool) (xs ys : List A) (x : A) (e : xs ≡ x ∷ ys) where
  -- x passes: some item does
  pub any_here : p x ≡ true → any p xs ≡ true
  unfolding any
  any_here t = rw (e, t)

  -- x does not: some of the others pass, or none
  pub any_later : p x ≡ false → any p xs ≡ any p ys
  unfolding any
  any_later t = rw (e, t)

  -- x does not pass: not all do
  pub all_here : p x ≡ false → all p xs ≡ false
  unfolding all
  all_here t = rw (e, t)

  -- x passes: all pass if the others do
  pub all_later : p x ≡ true → all p xs ≡ all p ys
  unfolding all
  all_later t = rw (e, t)

  -- x passes: it is kept
  pub keep_here : p x ≡ true → keep p xs ≡ x ∷ keep p ys
  unfolding keep push
  keep_here t = rw (e, t)

  -- x does not: the others are kept as before
  pub keep_later : p x ≡ false → keep p xs ≡ keep p ys
  unfolding keep push
  keep_later t = rw (e, t)

  -- x passes: it is the first that does
  pub find_here : p x ≡ true → find p xs ≡ some x
  unfolding find
  find_here t = rw (e, t)

  -- x does not: the first is among the others
  pub find_later : p x ≡ false → find p xs ≡ find p ys
  unfolding find
  find_later t = rw (e, t)

  -- x passes: nothing is before it
  pub first_here : p x ≡ true → before_first p xs ≡ 0
  unfolding before_first
  first_here t = rw (e, t)

  -- x does not: one more than among the others
  pub first_later : p x ≡ false → before_first p xs ≡ suc (before_first p ys)
  unfolding before_first
  first_later t = rw (e, t)

-- ---- over the mapped run
module _ {A B : Type 0} (f : A → B) (p : B → Bool) (i e : ℕ) (l : List A) (d : A) where
  module _ (h : i < e) (k : e ≤ length l) where
    -- the mapped run begins with the mapped element at i
    abbrev there : map f (slice i e l) ≡ f (get_or l i d) ∷ map f (slice (i + 1) e l)
    there = drop_view f i e l d h k

    -- the element at i is kept
    pub keep_map_kept : p (f (get_or l i d)) ≡ true → keep p (map f (slice i e l)) ≡ f (get_or l i d) ∷ keep p (map f (slice (i + 1) e l))
    keep_map_kept t = keep_here p (map f (slice i e l)) (map f (slice (i + 1) e l)) (f (get_or l i d)) there t

    -- the element at i is not kept
    pub keep_map_passed : p (f (get_or l i d)) ≡ false → keep p (map f (slice i e l)) ≡ keep p (map f (slice (i + 1) e l))
    keep_map_passed t = keep_later p (map f (slice i e l)) (map f (slice (i + 1) e l)) (f (get_or l i d)) there t

  module _ (h : i ≤ e) (k : e ≤ i) where
    -- nothing is left to keep
    pub keep_map_ended : keep p (map f (slice i e l)) ≡ []
    unfolding keep
    keep_map_ended = rw (run_end i e l h k)

-- ---- over the plain run
module _ {A : Type 0} (p : A → Bool) (i e : ℕ) (l : List A) (d : A) where
  module _ (h : i < e) (k : e ≤ length l) where
    -- the element at i passes: some do
    pub any_found : p (get_or l i d) ≡ true → any p (slice i e l) ≡ true
    any_found t = any_here p (slice i e l) (slice (i + 1) e l) (get_or l i d) (run_cons i e l d h k) t

    -- it does not: the answer is that of the rest
    pub any_passed : p (get_or l i d) ≡ false → any p (slice i e l) ≡ any p (slice (i + 1) e l)
    any_passed t = any_later p (slice i e l) (slice (i + 1) e l) (get_or l i d) (run_cons i e l d h k) t

    -- the element at i does not pass: not all do
    pub all_found : p (get_or l i d) ≡ false → all p (slice i e l) ≡ false
    all_found t = all_here p (slice i e l) (slice (i + 1) e l) (get_or l i d) (run_cons i e l d h k) t

    -- it passes: the answer is that of the rest
    pub all_passed : p (get_or l i d) ≡ true → all p (slice i e l) ≡ all p (slice (i + 1) e l)
    all_passed t = all_later p (slice i e l) (slice (i + 1) e l) (get_or l i d) (run_cons i e l d h k) t

    -- the element at i passes and is kept
    pub keep_kept : p (get_or l i d) ≡ true → keep p (slice i e l) ≡ get_or l i d ∷ keep p (slice (i + 1) e l)
    keep_kept t = keep_here p (slice i e l) (slice (i + 1) e l) (get_or l i d) (run_cons i e l d h k) t

    -- it does not and is left out
    pub keep_passed : p (get_or l i d) ≡ false → keep p (slice i e l) ≡ keep p (slice (i + 1) e l)
    keep_passed t = keep_later p (slice i e l) (slice (i + 1) e l) (get_or l i d) (run_cons i e l d h k) t

    -- the element at i passes: nothing is before it
    pub first_found : p (get_or l i d) ≡ true → before_first p (slice i e l) ≡ 0
    first_found t = first_here p (slice i e l) (slice (i + 1) e l) (get_or l i d) (run_cons i e l d h k) t

    -- it does not: one more than in the rest
    pub first_passed : p (get_or l i d) ≡ false → before_first p (slice i e l) ≡ suc (before_first p (slice (i + 1) e l))
    first_passed t = first_later p (slice i e l) (slice (i + 1) e l) (get_or l i d) (run_cons i e l d h k) t

  module _ (h : i ≤ e) (k : e ≤ i) where
    -- nothing is left: none passes
    pub any_ended : any p (slice i e l) ≡ false
    unfolding any
    any_ended = rw (run_end i e l h k)

    -- nothing is left to keep
    pub keep_ended : keep p (slice i e l) ≡ []
    unfolding keep
    keep_ended = rw (run_end i e l h k)

    -- nothing is left to count
    pub first_ended : before_first p (slice i e l) ≡ 0
    unfolding before_first
    first_ended = rw (run_end i e l h k)

-- ---- a loop that writes the items that pass, one after another, from place n of out on
module _ {A : Type 0} (p : A → Bool) (i e : ℕ) (l : List A) (d : A) (out : List A) (n : ℕ) where
  -- the item at i passes and is written
  pub laid_kept : i < e → e ≤ length l → n < length out → p (get_or l i d) ≡ true
      → put (set out n (get_or l i d)) (n + 1) (keep p (slice (i + 1) e l)) ≡ put out n (keep p (slice i e l))
  laid_kept h k g t = put_cons out n (get_or l i d) (keep p (slice (i + 1) e l)) g ∙ ap (put out n) (sym (keep_kept p i e l d h k t))

  -- it does not and is left out
  pub laid_passed : i < e → e ≤ length l → p (get_or l i d) ≡ false → put out n (keep p (slice (i + 1) e l)) ≡ put out n (keep p (slice i e l))
  laid_passed h k t = ap (put out n) (sym (keep_passed p i e l d h k t))

  -- nothing is left to write
  pub laid_ended : i ≤ e → e ≤ i → put out n (keep p (slice i e l)) ≡ out
  laid_ended h k = ap (put out n) (keep_ended p i e l d h k) ∙ put_nil out n

-- ---- a loop that writes the mapped items of a run, each at its own place
module _ {A B : Type 0} (f : A → B) (i e : ℕ) (l : List A) (out : List B) where
  -- the item at i is written
  pub view_laid : (d : A) → i < e → e ≤ length l → i < length out → put (set out i (f (get_or l i d))) (i + 1) (map f (slice (i + 1) e l)) ≡ put out i (map f (slice i e l))
  view_laid d h k g = put_cons out i (f (get_or l i d)) (map f (slice (i + 1) e l)) g ∙ ap (put out i) (sym (drop_view f i e l d h k))

  -- nothing is left to write
  pub view_all_laid : i ≤ e → e ≤ i → put out i (map f (slice i e l)) ≡ out
  view_all_laid h k = ap (put out i) (view_end f i e l h k) ∙ put_nil out i

-- ---- neighbours
module _ {A : Type 0} (r : A → A → Bool) (xs ys : List A) (x y : A) (e : xs ≡ x ∷ y ∷ ys) where
  -- the first pair does not stand in r: the list does not
  pub chain_here : r x y ≡ false → chain r xs ≡ false
  unfolding chain
  chain_here t = rw (e, t)

  -- it does: the answer is that of the rest
  pub chain_later : r x y ≡ true → chain r xs ≡ chain r (y ∷ ys)
  unfolding chain
  chain_later t = rw (e, t)

-- fewer than two items: there is no pair
pub chain_short : {A : Type 0} (r : A → A → Bool) (xs : List A) → length xs ≤ 1 → chain r xs ≡ true
unfolding chain
chain_short r [] h = refl
chain_short r (x ∷ []) h = refl
chain_short r (x ∷ y ∷ ys) h = absurd (omega arith)

-- the items at i and i + 1 stand in r
pub chain_at : {A : Type 0} (r : A → A → Bool) (xs : List A) (i : ℕ) (d : A) → chain r xs ≡ true → i + 1 < length xs → r (get_or xs i d) (get_or xs (i + 1) d) ≡ true
unfolding chain
chain_at {A} r xs i d c h = rw add-one (go xs i c (omega arith))
  where
    go : (xs : List A) (i : ℕ) → chain r xs ≡ true → suc i < length xs → r (get_or xs i d) (get_or xs (suc i) d) ≡ true
    go [] i c h = absurd (omega arith)
    go (x ∷ []) i c h = absurd (omega arith)
    go (x ∷ y ∷ ys) zero c h = and_left (r x y) (chain r (y ∷ ys)) c
    go (x ∷ y ∷ ys) (suc i) c h = go (y ∷ ys) i (and_right (r x y) (chain r (y ∷ ys)) c) (omega arith)

module _ {A B : Type 0} (f : A → B) (r : B → B → Bool) (i e : ℕ) (l : List A) (d : A) where
  module _ (h : i + 1 < e) (k : e ≤ length l) where
    -- the mapped run begins with the mapped elements at i and i + 1
    two : map f (slice i e l) ≡ f (get_or l i d) ∷ f (get_or l (i + 1) d) ∷ map f (slice (i + 1 + 1) e l)
    two =
        drop_view f i e l d (omega arith) k ∙ ap (λ (z : List B). f (get_or l i d) ∷ z) (drop_view f (i + 1) e l d h k)

    -- the pair at i and i + 1 fails: the list does
    pub chain_map_broken : r (f (get_or l i d)) (f (get_or l (i + 1) d)) ≡ false → chain r (map f (slice i e l)) ≡ false
    chain_map_broken t = chain_here r (map f (slice i e l)) (map f (slice (i + 1 + 1) e l)) (f (get_or l i d)) (f (get_or l (i + 1) d)) two t

    -- it stands in r: the answer is that of the rest
    pub chain_map_goes_on : r (f (get_or l i d)) (f (get_or l (i + 1) d)) ≡ true → chain r (map f (slice i e l)) ≡ chain r (map f (slice (i + 1) e l))
    chain_map_goes_on t =
        chain_later r (map f (slice i e l)) (map f (slice (i + 1 + 1) e l)) (f (get_or l i d)) (f (get_or l (i + 1) d)) two t
        ∙ ap (chain r) (sym (drop_view f (i + 1) e l d h k))

  -- no pair is left from i on
  pub chain_map_ended : e ≤ i + 1 → e ≤ length l → chain r (map f (slice i e l)) ≡ true
  chain_map_ended h k =
      chain_short r (map f (slice i e l)) (omega (arith, length_view f i e l k))
