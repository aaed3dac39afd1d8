-- Bisecting a list whose elements first pass a test and then fail it: the steps of a loop, and where it ends. Assumes nothing.
use Prim.Native.Nat.{ℕ, zero, suc, ◌+◌, ◌-◌, ◌/◌, ◌≤◌, ◌<◌}
use Rattle.std.specs.Prelude.{◌≡◌, Bool, true, false, not, cond, List, ltb, length, get_or}
use Rattle.std.proofs.Math.Path.{refl}
use Rattle.std.proofs.Common.{sym, ◌∙◌, ap, arith, add-one, lt-ltb, le-ltb}
use Rattle.std.proofs.Math.Decide.{dec_lt}
use Rattle.std.proofs.Math.Seq.{slice, length-slice, take-length}
use Rattle.lemmas.specs.Order.{clash}
use Rattle.lemmas.specs.Lists.{chain}
use Rattle.lemmas.specs.Slices.{at_run}
use Rattle.lemmas.specs.Loops.{before_first, first_is, chain_at}

-- bisects lo to hi in at most n steps: goes on past the middle where the test passes there, else before it
unfoldable pub bisect : (ℕ → Bool) → ℕ → ℕ → ℕ → ℕ
bisect p zero lo hi = lo
bisect p (suc n) lo hi =
    cond (ltb lo hi)
    (cond (p (lo + (hi - lo) / 2)) (bisect p n (lo + (hi - lo) / 2 + 1) hi) (bisect p n lo (lo + (hi - lo) / 2)))
    lo

module _ (p : ℕ → Bool) where
  -- one step where the test passes in the middle: on past it
  one_up : (n lo hi : ℕ) → lo < hi → p (lo + (hi - lo) / 2) ≡ true → bisect p (suc n) lo hi ≡ bisect p n (lo + (hi - lo) / 2 + 1) hi
  unfolding bisect
  one_up n lo hi h e = rw (lt-ltb lo hi h, e)

  -- one step where it fails: up to the middle
  one_down : (n lo hi : ℕ) → lo < hi → p (lo + (hi - lo) / 2) ≡ false → bisect p (suc n) lo hi ≡ bisect p n lo (lo + (hi - lo) / 2)
  unfolding bisect
  one_down n lo hi h e = rw (lt-ltb lo hi h, e)

  -- nothing is left between lo and hi: the answer is lo
  pub met : (n lo hi : ℕ) → hi ≤ lo → bisect p n lo hi ≡ lo
  unfolding bisect
  met zero lo hi h = refl
  met (suc n) lo hi h = rw (le-ltb lo hi h)

  -- more steps than hi - lo change nothing
  pub fuel : (n m lo hi : ℕ) → hi ≤ lo + n → hi ≤ lo + m → bisect p n lo hi ≡ bisect p m lo hi
  fuel zero m lo hi h k = met zero lo hi (omega arith) ∙ sym (met m lo hi (omega arith))
  fuel (suc n) zero lo hi h k = met (suc n) lo hi (omega arith) ∙ sym (met zero lo hi (omega arith))
  fuel (suc n) (suc m) lo hi h k =
      go (dec_lt lo hi) (p (lo + (hi - lo) / 2)) refl
      (λ l. fuel n m (lo + (hi - lo) / 2 + 1) hi (omega arith) (omega arith))
      (λ l. fuel n m lo (lo + (hi - lo) / 2) (omega arith) (omega arith))
    where
      go : Dec (lo < hi) → (b : Bool) → p (lo + (hi - lo) / 2) ≡ b
          → (lo < hi → bisect p n (lo + (hi - lo) / 2 + 1) hi ≡ bisect p m (lo + (hi - lo) / 2 + 1) hi)
          → (lo < hi → bisect p n lo (lo + (hi - lo) / 2) ≡ bisect p m lo (lo + (hi - lo) / 2))
          → bisect p (suc n) lo hi ≡ bisect p (suc m) lo hi
      go (no l) b e up down = met (suc n) lo hi (omega arith) ∙ sym (met (suc m) lo hi (omega arith))
      go (yes l) true e up down = one_up n lo hi l e ∙ up l ∙ sym (one_up m lo hi l e)
      go (yes l) false e up down = one_down n lo hi l e ∙ down l ∙ sym (one_down m lo hi l e)

  -- a turn of the loop where the test passes in the middle: on past it
  pub turn_up : (lo hi : ℕ) → lo < hi → p (lo + (hi - lo) / 2) ≡ true
      → bisect p (hi - lo) lo hi ≡ bisect p (hi - (lo + (hi - lo) / 2 + 1)) (lo + (hi - lo) / 2 + 1) hi
  turn_up lo hi h e =
      fuel (hi - lo) (suc (hi - lo)) lo hi (omega arith) (omega arith)
      ∙ one_up (hi - lo) lo hi h e
      ∙ fuel (hi - lo) (hi - (lo + (hi - lo) / 2 + 1)) (lo + (hi - lo) / 2 + 1) hi (omega arith) (omega arith)

  -- a turn of the loop where the test fails in the middle: up to there
  pub turn_down : (lo hi : ℕ) → lo < hi → p (lo + (hi - lo) / 2) ≡ false
      → bisect p (hi - lo) lo hi ≡ bisect p (lo + (hi - lo) / 2 - lo) lo (lo + (hi - lo) / 2)
  turn_down lo hi h e =
      fuel (hi - lo) (suc (hi - lo)) lo hi (omega arith) (omega arith)
      ∙ one_down (hi - lo) lo hi h e
      ∙ fuel (hi - lo) (lo + (hi - lo) / 2 - lo) lo (lo + (hi - lo) / 2) (omega arith) (omega arith)

-- ---- where it ends

-- r divides lo to hi: before r the test passes, from r on it fails
pub record Edge (p : ℕ → Bool) (lo hi r : ℕ) : Type 0 where
  pub above : lo ≤ r
  pub within : r ≤ hi
  pub passed : (i : ℕ) → lo ≤ i → i < r → p i ≡ true
  pub failed : (i : ℕ) → r ≤ i → i < hi → p i ≡ false

-- a test that, once it fails between low and top, fails from there on
module _ (p : ℕ → Bool) (low top : ℕ) (back : (i : ℕ) → low ≤ i → i + 1 < top → p (i + 1) ≡ true → p i ≡ true) where
  -- a test that passes at j passes at every place before j
  pub passes_below : (i j : ℕ) → low ≤ i → i ≤ j → j < top → p j ≡ true → p i ≡ true
  passes_below i zero g h t e = let q : i ≡ 0 = omega arith in rw q e
  passes_below i (suc j) g h t e =
      go (dec_lt i (suc j)) (λ l. passes_below i j g (omega arith) (omega arith) (back j (omega arith) (omega arith) (rw (add-one j) e)))
    where
      go : Dec (i < suc j) → (i < suc j → p i ≡ true) → p i ≡ true
      go (yes l) ih = ih l
      go (no l) ih = let q : i ≡ suc j = omega arith in rw q e

  -- a test that fails at i fails at every place after i
  fails_on : (i j : ℕ) (b : Bool) → p j ≡ b → low ≤ i → i ≤ j → j < top → p i ≡ false → p j ≡ false
  fails_on i j true e g h t f = clash (passes_below i j g h t e) f
  fails_on i j false e g h t f = e

  -- bisecting ends at the place where the test begins to fail
  pub edge : (n lo hi : ℕ) → low ≤ lo → lo ≤ hi → hi ≤ lo + n → hi ≤ top → Edge p lo hi (bisect p n lo hi)
  edge zero lo hi g h k t =
      rw (met p zero lo hi (omega arith))
      (record { above = omega arith; within = h; passed = (λ i a b. absurd (omega arith)); failed = (λ i a b. absurd (omega arith)) })
  edge (suc n) lo hi g h k t =
      go (dec_lt lo hi) (p (lo + (hi - lo) / 2)) refl
      (λ l. edge n (lo + (hi - lo) / 2 + 1) hi (omega arith) (omega arith) (omega arith) t)
      (λ l. edge n lo (lo + (hi - lo) / 2) g (omega arith) (omega arith) (omega arith))
    where
      go : Dec (lo < hi) → (b : Bool) → p (lo + (hi - lo) / 2) ≡ b
          → (lo < hi → Edge p (lo + (hi - lo) / 2 + 1) hi (bisect p n (lo + (hi - lo) / 2 + 1) hi))
          → (lo < hi → Edge p lo (lo + (hi - lo) / 2) (bisect p n lo (lo + (hi - lo) / 2)))
          → Edge p lo hi (bisect p (suc n) lo hi)
      go (no l) b e up down =
          rw (met p (suc n) lo hi (omega arith))
          (record { above = omega arith; within = h; passed = (λ i a c. absurd (omega arith)); failed = (λ i a c. absurd (omega arith)) })
      go (yes l) true e up down =
          rw (one_up p n lo hi l e)
          (record {
            above = omega (arith, (up l).above);
            within = (up l).within;
            passed = λ i a c. pass i a c (dec_lt i (lo + (hi - lo) / 2 + 1));
            failed = (up l).failed;
          })
        where
          pass : (i : ℕ) → lo ≤ i → i < bisect p n (lo + (hi - lo) / 2 + 1) hi → Dec (i < lo + (hi - lo) / 2 + 1) → p i ≡ true
          pass i a c (yes d) = passes_below i (lo + (hi - lo) / 2) (omega arith) (omega arith) (omega arith) e
          pass i a c (no d) = (up l).passed i (omega arith) c
      go (yes l) false e up down =
          rw (one_down p n lo hi l e)
          (record {
            above = (down l).above;
            within = omega (arith, (down l).within);
            passed = (down l).passed;
            failed = λ i a c. fail i a c (dec_lt i (lo + (hi - lo) / 2));
          })
        where
          fail : (i : ℕ) → bisect p n lo (lo + (hi - lo) / 2) ≤ i → i < hi → Dec (i < lo + (hi - lo) / 2) → p i ≡ false
          fail i a c (yes d) = (down l).failed i a d
          fail i a c (no d) = fails_on (lo + (hi - lo) / 2) i (p i) refl (omega arith) (omega arith) (omega arith) e

-- a run of a list with such a test: bisecting finds the first element that fails
module _ {A : Type 0} (q : A → Bool) (lo hi : ℕ) (l : List A) (d : A) (h : lo ≤ hi) (k : hi ≤ length l)
    (back : (i : ℕ) → lo ≤ i → i + 1 < hi → q (get_or l (i + 1) d) ≡ true → q (get_or l i d) ≡ true) where
  -- the place found is the run's start plus the number of elements before the first that fails
  pub bisect_run : bisect (λ i. q (get_or l i d)) (hi - lo) lo hi ≡ lo + before_first (λ x. not (q x)) (slice lo hi l)
  bisect_run =
      let r : ℕ = bisect (λ i. q (get_or l i d)) (hi - lo) lo hi in
      let e : Edge (λ i. q (get_or l i d)) lo hi r = edge (λ i. q (get_or l i d)) lo hi back (hi - lo) lo hi (omega arith) h (omega arith) (omega arith) in
      let n : length (slice lo hi l) ≡ hi - lo = length-slice lo hi l k in
      let same : r - lo ≡ before_first (λ x. not (q x)) (slice lo hi l) =
      first_is (λ x. not (q x)) (slice lo hi l) d (r - lo) (omega (arith, e.within))
      (λ i b. ap (λ x. not (q x)) (at_run lo hi l i d (omega (arith, e.within))) ∙ ap not (e.passed (lo + i) (omega arith) (omega arith)))
      (λ b. ap (λ x. not (q x)) (at_run lo hi l (r - lo) d (omega (arith, e.within))) ∙ ap not (e.failed (lo + (r - lo)) (omega arith) (omega arith))) in
      omega (arith, e.above)

-- the same over a whole list
pub bisect_list : {A : Type 0} (q : A → Bool) (l : List A) (d : A) → ((i : ℕ) → i + 1 < length l → q (get_or l (i + 1) d) ≡ true → q (get_or l i d) ≡ true)
    → bisect (λ i. q (get_or l i d)) (length l) 0 (length l) ≡ before_first (λ x. not (q x)) l
bisect_list q l d back =
    fuel (λ i. q (get_or l i d)) (length l) (length l - 0) 0 (length l) (omega arith) (omega arith)
    ∙ bisect_run q 0 (length l) l d (omega arith) (omega arith) (λ i g. back i)
    ∙ ap (λ (z : List _). 0 + before_first (λ x. not (q x)) z) (take-length l)
    ∙ omega arith

-- a test that passes at each left neighbour of an element that passes, over a list whose neighbours all stand in r
pub back_along : {A : Type 0} (r : A → A → Bool) (q : A → Bool) (l : List A) (d : A) → chain r l ≡ true → ((x y : A) → r x y ≡ true → q y ≡ true → q x ≡ true)
    → (i : ℕ) → i + 1 < length l → q (get_or l (i + 1) d) ≡ true → q (get_or l i d) ≡ true
back_along r q l d c h i k e = h (get_or l i d) (get_or l (i + 1) d) (chain_at r l i d c k) e
