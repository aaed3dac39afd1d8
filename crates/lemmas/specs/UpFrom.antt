-- Consecutive numbers, used as the places of a list. Assumes nothing.
use Rattle.std.specs.Prelude.{ℕ, zero, suc, ◌+◌, ◌-◌, ◌≤◌, ◌<◌, ◌≡◌, refl, true, List, [], ◌∷◌, ◌++◌, map, ltb, length, get_or, set, take, drop}
use Rattle.std.proofs.Common.{sym, ap, ◌∙◌, arith, add-one, add-zero, add-suc, suc-add, drop-cons, ext_get_or, lt-ltb}
use Rattle.std.proofs.lemmas.List.{length-map}
use Rattle.std.proofs.Math.Seq.{take-length}
use Rattle.lemmas.specs.Lists.{all, up_from}
use Rattle.lemmas.specs.ListLaws.{both}
use Rattle.lemmas.specs.Slices.{put, put_cons, put_nil, get_or_map}

-- ---- a loop that counts from k up to w
-- a turn: k is next
pub up_from_turn : (k w : ℕ) → k < w → up_from k (w - k) ≡ k ∷ up_from (k + 1) (w - (k + 1))
unfolding up_from
up_from_turn k w h =
    let e : w - k ≡ suc (w - (k + 1)) = omega arith in
    rw (e, add-one k)

-- no number is left
pub up_from_end : (k w : ℕ) → w ≤ k → up_from k (w - k) ≡ []
unfolding up_from
up_from_end k w h = let e : w - k ≡ 0 = omega arith in rw e

-- the same written over a list: k is written
pub up_from_laid : (out : List ℕ) (k w : ℕ) → k < w → k < length out
    → put (set out k k) (k + 1) (up_from (k + 1) (w - (k + 1))) ≡ put out k (up_from k (w - k))
up_from_laid out k w h g = put_cons out k k (up_from (k + 1) (w - (k + 1))) g ∙ ap (put out k) (sym (up_from_turn k w h))

-- all are written
pub up_from_all_laid : (out : List ℕ) (k w : ℕ) → w ≤ k → put out k (up_from k (w - k)) ≡ out
up_from_all_laid out k w h = ap (put out k) (up_from_end k w h) ∙ put_nil out k

-- ---- how many there are, and their bound
-- there are n
pub up_from_length : (k n : ℕ) → length (up_from k n) ≡ n
unfolding up_from
up_from_length k zero = refl
up_from_length k (suc n) = ap suc (up_from_length (suc k) n)

-- one more number at the end
pub up_from_snoc : (k n : ℕ) → up_from k (suc n) ≡ up_from k n ++ ((k + n) ∷ [])
unfolding up_from
up_from_snoc k zero = let e : k ≡ k + 0 = omega arith in ap (λ (m : ℕ). m ∷ []) e
up_from_snoc k (suc n) =
    let e : suc k + n ≡ k + suc n = omega arith in
    ap (λ (r : List ℕ). k ∷ r) (up_from_snoc (suc k) n ∙ ap (λ (m : ℕ). up_from (suc k) n ++ (m ∷ [])) e)

-- each is below w
pub up_from_below : (k n w : ℕ) → k + n ≤ w → all (λ i. ltb i w) (up_from k n) ≡ true
unfolding up_from all
up_from_below k zero w h = refl
up_from_below k (suc n) w h = both (ltb k w) (all (λ i. ltb i w) (up_from (suc k) n)) (lt-ltb k w (omega arith)) (up_from_below (suc k) n w (omega arith))

-- ---- the items at those places
-- the run of n items from k on
pub up_from_run : {A : Type 0} (l : List A) (d : A) (k n : ℕ) → k + n ≤ length l → map (λ i. get_or l i d) (up_from k n) ≡ take n (drop k l)
unfolding up_from
up_from_run l d k zero h = refl
up_from_run l d k (suc n) h =
    let here : k < length l = omega arith in
    rw (drop-cons l k d here) (ap (λ (r : List _). get_or l k d ∷ r) (up_from_run l d (suc k) n (omega arith)))

-- a list is the items at each of its places
pub up_from_whole : {A : Type 0} (l : List A) (d : A) → map (λ i. get_or l i d) (up_from 0 (length l)) ≡ l
up_from_whole l d = up_from_run l d 0 (length l) (omega arith) ∙ take-length l

-- ---- lists made of consecutive numbers

-- the number at place i is k + i
pub up_from_at : (k n i d : ℕ) → i < n → get_or (up_from k n) i d ≡ k + i
unfolding up_from
up_from_at k zero i d h = absurd (omega arith)
up_from_at k (suc n) zero d h = sym (add-zero k)
up_from_at k (suc n) (suc i) d h = up_from_at (suc k) n i d (omega arith) ∙ suc-add k i ∙ sym (add-suc k i)

module _ {A : Type 0} (g : ℕ → A) where
  -- the item made of the number i is at place i
  pub made_at : (n i : ℕ) (z : A) → i < n → get_or (map g (up_from 0 n)) i z ≡ g i
  made_at n i z h =
      let l : i < length (up_from 0 n) = rw (up_from_length 0 n) h in
      let e : get_or (up_from 0 n) i 0 ≡ i = omega (arith, up_from_at 0 n i 0 h) in
      get_or_map g (up_from 0 n) i 0 z l ∙ ap g e

  -- a list whose item at each place is made of that number
  pub made_of : (n : ℕ) (z : A) (xs : List A) → length xs ≡ n → ((i : ℕ) → i < n → get_or xs i z ≡ g i) → xs ≡ map g (up_from 0 n)
  made_of n z xs e h =
      let l : length (map g (up_from 0 n)) ≡ n = length-map (up_from 0 n) g ∙ up_from_length 0 n in
      ext_get_or z xs (map g (up_from 0 n)) (e ∙ sym l) (λ i k. h i (omega arith) ∙ sym (made_at n i z (omega arith)))
