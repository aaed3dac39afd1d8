-- Laws of Lists.antt. Assumes nothing.
use Prim.Native.Nat.{ℕ, zero, suc, ◌+◌, ◌*◌, ◌≤◌, ◌<◌}
use Rattle.std.specs.Prelude.{◌≡◌, ◌⊎◌, ◌↔◌, Bool, ◌&&◌, ◌||◌, get_or, set, drop, replicate, ltb}
use Rattle.std.proofs.Math.Path.{refl, ap}
use Rattle.std.proofs.Common.{sym, ◌∙◌, subst, drop_of_length-le, drop-cons, get_or-set_same, get_or-set_other}
use Rattle.std.proofs.Math.Logic.{inl, inr}
use Rattle.std.proofs.Math.Bool.{true, false, not, cond}
use mathlib.Core.List.Memᴰ.{append_left as in_left}
use mathlib.Core.List.Memᴰ.{append_right as in_right}
use mathlib.Core.List.Memᴰ.{head as here}
use mathlib.Core.List.Memᴰ.{not-nil}
use mathlib.Core.List.Memᴰ.{tail as there}
use mathlib.Core.List.{List, [], ◌∷◌, ◌++◌, map, Memᴰ as In}
use Rattle.std.proofs.Math.Option.{none, some}
use native.Mathlib.Omega.{arith}
use Rattle.std.proofs.Math.ListN.{length, length-append, get_or-eq_default}
use Rattle.std.proofs.Math.Dec.{eqb}
use borrow.Author.Tests.{eqb-true, eqb-false, eq-eqb, ne_eqb, ltb-true, ltb-false, not-true}
use Rattle.std.proofs.Math.Arith.{lt_of_le-ne}
use Rattle.lemmas.specs.Order.{clash, StrictWeak, asym}
use Rattle.lemmas.specs.Lists.{push, keep, any, all, find, insert, sort, chain, join, is_empty, member, distinct, sum, up_from}

-- a conjunction: its first part holds
pub and_left : (a b : Bool) → (a && b) ≡ true → a ≡ true
and_left true b h = refl
and_left false b h = h

-- its second part holds
pub and_right : (a b : Bool) → (a && b) ≡ true → b ≡ true
and_right true b h = h
and_right false b h = clash h refl

-- it holds if both parts hold
pub both : (a b : Bool) → a ≡ true → b ≡ true → (a && b) ≡ true
both a b e f = rw (e, f)

-- a second part that is true can be left out
pub and_true : (b : Bool) → (b && true) ≡ b
and_true true = refl
and_true false = refl

module _ {A : Type 0} where
  -- what `find` finds passes the test and is in the list
  pub find_some : (p : A → Bool) (xs : List A) (x : A) → find p xs ≡ some x → (p x ≡ true) × In x xs
  unfolding find
  find_some p [] x e = let q : true ≡ false = cc in clash refl q
  find_some p (y ∷ ys) x e = go (find_some p ys x) (p y) refl
    where
      go : (find p ys ≡ some x → (p x ≡ true) × In x ys) → (t : Bool) → p y ≡ t → (p x ≡ true) × In x (y ∷ ys)
      go ih true f = let q : y ≡ x = cc in (cc, here (sym q))
      go ih false f = let r = ih (cc) in (r.0, there r.1)

  -- if none passes nothing is found
  pub find_absent : (p : A → Bool) (xs : List A) → ((x : A) → In x xs → p x ≡ false) → find p xs ≡ none
  unfolding find
  find_absent p [] h = refl
  find_absent p (x ∷ xs) h = rw (h x (here refl)) (find_absent p xs (λ y m. h y (there m)))

  -- items that do not pass are passed over
  pub find_skip : (p : A → Bool) (xs ys : List A) → ((x : A) → In x xs → p x ≡ false) → find p (xs ++ ys) ≡ find p ys
  unfolding find
  find_skip p [] ys h = refl
  find_skip p (x ∷ xs) ys h = rw (h x (here refl)) (find_skip p xs ys (λ y m. h y (there m)))

  -- where `find` finds nothing no item passes
  pub find_none : (p : A → Bool) (xs : List A) (x : A) → find p xs ≡ none → In x xs → p x ≡ false
  unfolding find
  find_none p [] x e x4 = elim x4 [ ]
  find_none p (y ∷ ys) x e (here q) = go (p y) refl
    where
      go : (t : Bool) → p y ≡ t → p x ≡ false
      go true f = cc
      go false f = cc
  find_none p (y ∷ ys) x e (there m) = go (find_none p ys x) (p y) refl
    where
      go : (find p ys ≡ none → In x ys → p x ≡ false) → (t : Bool) → p y ≡ t → p x ≡ false
      go ih true f = cc
      go ih false f = ih (cc) m

  -- ---- how many pass
  -- how many items pass the test
  pub tally : (A → Bool) → List A → ℕ
  tally p [] = 0
  tally p (x ∷ xs) = cond (p x) (suc (tally p xs)) (tally p xs)

  -- no more than all pass
  pub tally_le : (p : A → Bool) (xs : List A) → tally p xs ≤ length xs
  unfolding tally
  tally_le p [] = omega arith
  tally_le p (x ∷ xs) = go (tally_le p xs) (p x)
    where
      go : tally p xs ≤ length xs → (t : Bool) → cond t (suc (tally p xs)) (tally p xs) ≤ suc (length xs)
      go h true = omega arith
      go h false = omega arith

  -- a weaker test is passed by no fewer
  pub tally_mono : (p q : A → Bool) (xs : List A) → ((x : A) → p x ≡ true → q x ≡ true) → tally p xs ≤ tally q xs
  unfolding tally
  tally_mono p q [] h = omega arith
  tally_mono p q (x ∷ xs) h = go (tally_mono p q xs h) (p x) (q x) (h x)
    where
      go : tally p xs ≤ tally q xs → (s t : Bool) → (s ≡ true → t ≡ true) → cond s (suc (tally p xs)) (tally p xs) ≤ cond t (suc (tally q xs)) (tally q xs)
      go i true true k = omega arith
      go i true false k = clash (k refl) refl
      go i false true k = omega arith
      go i false false k = omega arith

  -- by more, if one item passes it that does not pass the stronger test
  pub tally_less : (p q : A → Bool) (xs : List A) (x : A) → ((x : A) → p x ≡ true → q x ≡ true) → In x xs → p x ≡ false → q x ≡ true → tally p xs < tally q xs
  unfolding tally
  tally_less p q [] x h x6 e f = elim x6 [ ]
  tally_less p q (y ∷ ys) x h (here i) e f =
      let e' : p y ≡ false = cc in
      let f' : q y ≡ true = cc in
      rw (e', f') (omega (arith, tally_mono p q ys h))
  tally_less p q (y ∷ ys) x h (there m) e f = go (tally_less p q ys x h m e f) (p y) (q y) (h y)
    where
      go : tally p ys < tally q ys → (s t : Bool) → (s ≡ true → t ≡ true) → cond s (suc (tally p ys)) (tally p ys) < cond t (suc (tally q ys)) (tally q ys)
      go i true true k = omega arith
      go i true false k = clash (k refl) refl
      go i false true k = omega arith
      go i false false k = omega arith

  -- if none is counted none passes
  pub tally_none : (p : A → Bool) (xs : List A) (x : A) → tally p xs ≤ 0 → In x xs → p x ≡ false
  unfolding tally
  tally_none p [] x h x4 = elim x4 [ ]
  tally_none p (y ∷ ys) x h (here i) = ap p i ∙ go (p y) refl
    where
      go : (t : Bool) → p y ≡ t → p y ≡ false
      go false e = e
      go true e = absurd (let z : cond true (suc (tally p ys)) (tally p ys) ≤ 0 = rw e at h in omega arith)
  tally_none p (y ∷ ys) x h (there m) = go (tally_none p ys x) (p y) refl
    where
      go : (tally p ys ≤ 0 → In x ys → p x ≡ false) → (t : Bool) → p y ≡ t → p x ≡ false
      go ih false e = ih (rw e at h) m
      go ih true e = absurd (let z : cond true (suc (tally p ys)) (tally p ys) ≤ 0 = rw e at h in omega arith)

-- ---- `keep`
module _ {A : Type 0} where
  -- an item of the pushed list is the new one, or was there
  pub push_in : (t : Bool) (x y : A) (ys : List A) → In x (push t y ys) → ((x ≡ y) × (t ≡ true)) ⊎ In x ys
  unfolding push
  push_in true x y ys (here e) = inl (e, refl)
  push_in true x y ys (there m) = inr m
  push_in false x y ys m = inr m

  -- what was there stays
  pub push_tail : (t : Bool) (x y : A) (ys : List A) → In x ys → In x (push t y ys)
  unfolding push
  push_tail true x y ys m = there m
  push_tail false x y ys m = m

  -- the new item is there if it was pushed
  pub push_head : (t : Bool) (x y : A) (ys : List A) → t ≡ true → x ≡ y → In x (push t y ys)
  unfolding push
  push_head true x y ys e q = here q
  push_head false x y ys e q = clash e refl

  -- `keep` has exactly the items that pass
  pub keep_in : (p : A → Bool) (xs : List A) (x : A) → In x (keep p xs) ↔ (In x xs × (p x ≡ true))
  unfolding keep
  keep_in p xs x = (λ m. from xs m, λ h. to xs h.0 h.1)
    where
      from : (ys : List A) → In x (keep p ys) → In x ys × (p x ≡ true)
      from [] m = absurd (not-nil m)
      from (y ∷ ys) m = go (from ys) (push_in (p y) x y (keep p ys) m)
        where
          go : (In x (keep p ys) → In x ys × (p x ≡ true)) → ((x ≡ y) × (p y ≡ true)) ⊎ In x (keep p ys) → In x (y ∷ ys) × (p x ≡ true)
          go ih (inl q) = (here q.0, ap p q.0 ∙ q.1)
          go ih (inr k) = let r = ih k in (there r.0, r.1)

      to : (ys : List A) → In x ys → p x ≡ true → In x (keep p ys)
      to [] x3 e = elim x3 [ ]
      to (y ∷ ys) (here q) e = push_head (p y) x y (keep p ys) (sym (ap p q) ∙ e) q
      to (y ∷ ys) (there m) e = push_tail (p y) x y (keep p ys) (to ys m e)

-- ---- `sort`: the same items, in order, and stable
module _ {A : Type 0} (lt : A → A → Bool) where
  -- inserting adds exactly one item
  insert_in : (x y : A) (ys : List A) → In x (insert lt y ys) ↔ In x (y ∷ ys)
  unfolding insert
  insert_in x y ys = (λ m. from ys m, λ m. to ys m)
    where
      from : (zs : List A) → In x (insert lt y zs) → In x (y ∷ zs)
      from [] m = m
      from (z ∷ zs) m = go (from zs) (lt z y) m
        where
          swap : In x (y ∷ zs) → In x (y ∷ z ∷ zs)
          swap (here e) = here e
          swap (there k) = there (there k)

          step : (In x (insert lt y zs) → In x (y ∷ zs)) → In x (z ∷ insert lt y zs) → In x (y ∷ z ∷ zs)
          step ih (here e) = there (here e)
          step ih (there k) = swap (ih k)

          go : (In x (insert lt y zs) → In x (y ∷ zs)) → (t : Bool) → In x (cond t (z ∷ insert lt y zs) (y ∷ z ∷ zs)) → In x (y ∷ z ∷ zs)
          go ih true k = step ih k
          go ih false k = k

      to : (zs : List A) → In x (y ∷ zs) → In x (insert lt y zs)
      to [] m = m
      to (z ∷ zs) m = go (to zs) (lt z y) m
        where
          step : (In x (y ∷ zs) → In x (insert lt y zs)) → In x (y ∷ z ∷ zs) → In x (z ∷ insert lt y zs)
          step ih (here e) = there (ih (here e))
          step ih (there (here e)) = here e
          step ih (there (there k)) = there (ih (there k))

          go : (In x (y ∷ zs) → In x (insert lt y zs)) → (t : Bool) → In x (y ∷ z ∷ zs) → In x (cond t (z ∷ insert lt y zs) (y ∷ z ∷ zs))
          go ih true k = step ih k
          go ih false k = k

  -- a sorted list has the same items
  pub sort_in : (xs : List A) (x : A) → In x (sort lt xs) ↔ In x xs
  unfolding sort
  sort_in xs x = (λ m. from xs m, λ m. to xs m)
    where
      from : (ys : List A) → In x (sort lt ys) → In x ys
      from [] m = m
      from (y ∷ ys) m = go (from ys) ((insert_in x y (sort lt ys)).0 m)
        where
          go : (In x (sort lt ys) → In x ys) → In x (y ∷ sort lt ys) → In x (y ∷ ys)
          go ih (here e) = here e
          go ih (there k) = there (ih k)

      to : (ys : List A) → In x ys → In x (sort lt ys)
      to [] x'' = elim x'' [ ]
      to (y ∷ ys) (here e) = (insert_in x y (sort lt ys)).1 (here e)
      to (y ∷ ys) (there m) = (insert_in x y (sort lt ys)).1 (there (to ys m))

  -- inserting counts the new item once
  insert_tally : (p : A → Bool) (y : A) (ys : List A) → tally p (insert lt y ys) ≡ tally p (y ∷ ys)
  unfolding insert tally
  insert_tally p y [] = refl
  insert_tally p y (z ∷ zs) = go (insert_tally p y zs) (lt z y)
    where
      two : (s t : Bool) (n m : ℕ) → m ≡ cond s (suc n) n → cond t (suc m) m ≡ cond s (suc (cond t (suc n) n)) (cond t (suc n) n)
      two true true n m e = ap suc e
      two true false n m e = e
      two false true n m e = ap suc e
      two false false n m e = e

      go : tally p (insert lt y zs) ≡ tally p (y ∷ zs) → (t : Bool) → tally p (cond t (z ∷ insert lt y zs) (y ∷ z ∷ zs)) ≡ tally p (y ∷ z ∷ zs)
      go ih true = two (p y) (p z) (tally p zs) (tally p (insert lt y zs)) ih
      go ih false = refl

  -- a sorted list has each item as often
  pub sort_tally : (p : A → Bool) (xs : List A) → tally p (sort lt xs) ≡ tally p xs
  unfolding sort tally
  sort_tally p [] = refl
  sort_tally p (x ∷ xs) = insert_tally p x (sort lt xs) ∙ ap (λ n. cond (p x) (suc n) n) (sort_tally p xs)

module _ {A : Type 0} (lt : A → A → Bool) (o : StrictWeak lt) where
  -- "x is not after y": how neighbours stand in a sorted list
  abbrev not_after : A → A → Bool
  not_after x y = not (lt y x)

  -- an item that is not before z can be inserted after z, in order
  insert_after_lem : (z y : A) (zs : List A) → lt y z ≡ false → chain not_after (z ∷ zs) ≡ true → chain not_after (z ∷ insert lt y zs) ≡ true
  unfolding chain insert
  insert_after_lem z y [] e c = both (not_after z y) true (rw e) refl
  insert_after_lem z y (w ∷ ws) e c = go (insert_after_lem w y ws) (lt w y) refl
    where
      go : (lt y w ≡ false → chain not_after (w ∷ ws) ≡ true → chain not_after (w ∷ insert lt y ws) ≡ true)
          → (t : Bool) → lt w y ≡ t → chain not_after (z ∷ cond t (w ∷ insert lt y ws) (y ∷ w ∷ ws)) ≡ true
      go ih true f = both (not_after z w) (chain not_after (w ∷ insert lt y ws)) (and_left (not_after z w) (chain not_after (w ∷ ws)) c)
          (ih (asym lt o w y f) (and_right (not_after z w) (chain not_after (w ∷ ws)) c))
      go ih false f = both (not_after z y) (not_after y w && chain not_after (w ∷ ws)) (rw e)
          (both (not_after y w) (chain not_after (w ∷ ws)) (rw f) (and_right (not_after z w) (chain not_after (w ∷ ws)) c))

  -- inserting keeps the order
  insert_chain : (y : A) (ys : List A) → chain not_after ys ≡ true → chain not_after (insert lt y ys) ≡ true
  unfolding chain insert
  insert_chain y [] c = refl
  insert_chain y (z ∷ zs) c = go (lt z y) refl
    where
      go : (t : Bool) → lt z y ≡ t → chain not_after (cond t (z ∷ insert lt y zs) (y ∷ z ∷ zs)) ≡ true
      go true f = insert_after_lem z y zs (asym lt o z y f) c
      go false f = both (not_after y z) (chain not_after (z ∷ zs)) (rw f) c

  -- a sorted list is in order
  pub sort_chain : (xs : List A) → chain not_after (sort lt xs) ≡ true
  unfolding chain sort
  sort_chain [] = refl
  sort_chain (x ∷ xs) = insert_chain x (sort lt xs) (sort_chain xs)

module _ {A : Type 0} (lt : A → A → Bool) where
  -- items of which none is before another (ties) keep their order
  module _ (p : A → Bool) (ties : (x y : A) → p x ≡ true → p y ≡ true → lt x y ≡ false) where
    -- inserting a tie puts it before the other ties
    insert_keep : (y : A) (ys : List A) → keep p (insert lt y ys) ≡ push (p y) y (keep p ys)
    unfolding insert keep push
    insert_keep y [] = refl
    insert_keep y (z ∷ zs) = go (insert_keep y zs) (lt z y) refl
      where
        swap : lt z y ≡ true → (s t : Bool) → p y ≡ s → p z ≡ t → push t z (push s y (keep p zs)) ≡ push s y (push t z (keep p zs))
        swap f true true e e' = clash f (ties z y e' e)
        swap f true false e e' = refl
        swap f false true e e' = refl
        swap f false false e e' = refl

        go : keep p (insert lt y zs) ≡ push (p y) y (keep p zs) → (t : Bool) → lt z y ≡ t
            → keep p (cond t (z ∷ insert lt y zs) (y ∷ z ∷ zs)) ≡ push (p y) y (push (p z) z (keep p zs))
        go ih true f = ap (λ (r : List A). push (p z) z r) ih ∙ swap f (p y) (p z) refl refl
        go ih false f = refl

    -- sorting is stable
    pub sort_stable : (xs : List A) → keep p (sort lt xs) ≡ keep p xs
    unfolding sort keep
    sort_stable [] = refl
    sort_stable (x ∷ xs) = insert_keep x (sort lt xs) ∙ ap (λ (r : List A). push (p x) x r) (sort_stable xs)

-- ---- tallies
module _ {A : Type 0} where
  -- an item that passes is counted
  pub tally_in : (p : A → Bool) (xs : List A) (x : A) → In x xs → p x ≡ true → 1 ≤ tally p xs
  unfolding tally
  tally_in p [] x x4 h = elim x4 [ ]
  tally_in p (y ∷ ys) x (here e) h = let k : p y ≡ true = cc in rw k (omega arith)
  tally_in p (y ∷ ys) x (there m) h = go (tally_in p ys x m h) (p y)
    where
      go : 1 ≤ tally p ys → (t : Bool) → 1 ≤ cond t (suc (tally p ys)) (tally p ys)
      go i true = omega arith
      go i false = i

  -- the count of two lists joined is the sum of both
  pub tally_append : (p : A → Bool) (xs ys : List A) → tally p (xs ++ ys) ≡ tally p xs + tally p ys
  unfolding tally
  tally_append p [] ys = omega arith
  tally_append p (x ∷ xs) ys = go (tally_append p xs ys) (p x)
    where
      go : tally p (xs ++ ys) ≡ tally p xs + tally p ys → (t : Bool) → cond t (suc (tally p (xs ++ ys))) (tally p (xs ++ ys)) ≡ cond t (suc (tally p xs)) (tally p xs) + tally p ys
      go i true = omega arith
      go i false = i

-- counting over a mapped list
pub tally_map : {A B : Type 0} (p : B → Bool) (g : A → B) (xs : List A) → tally p (map g xs) ≡ tally (λ x. p (g x)) xs
unfolding tally
tally_map p g [] = refl
tally_map p g (x ∷ xs) = ap (λ n. cond (p (g x)) (suc n) n) (tally_map p g xs)

-- for each of the n numbers from k on, the items with that number, joined
unfoldable pub spread : {A : Type 0} → (A → ℕ) → ℕ → ℕ → List A → List A
spread key k n xs = join (map (λ l. keep (λ x. eqb (key x) l) xs) (up_from k n))

-- no items: nothing is counted
spread_none : {A : Type 0} (key : A → ℕ) (p : A → Bool) (k n : ℕ) → tally p (spread key k n []) ≡ 0
unfolding spread join up_from keep tally
spread_none key p k zero = refl
spread_none key p k (suc n) = spread_none key p (suc k) n

-- one more item
module _ {A : Type 0} (key : A → ℕ) (p : A → Bool) (x : A) (xs : List A) where
  -- its number is below k: it is not counted
  spread_below : (k n : ℕ) → key x < k → tally p (spread key k n (x ∷ xs)) ≡ tally p (spread key k n xs)
  unfolding spread join up_from keep push
  spread_below k zero h = refl
  spread_below k (suc n) h =
      let ne : eqb (key x) k ≡ false = ne_eqb (key x) k (λ q. omega arith) in
      let here_k = keep (λ y. eqb (key y) k) xs in
      rw ne (tally_append p here_k (spread key (suc k) n (x ∷ xs)) ∙ rw (spread_below (suc k) n (omega arith)) (sym (tally_append p here_k (spread key (suc k) n xs))))

  -- its number is one of the n: it is counted once
  spread_within : (k n : ℕ) → k ≤ key x → key x < k + n → tally p (spread key k n (x ∷ xs)) ≡ tally p (x ∷ []) + tally p (spread key k n xs)
  unfolding spread join up_from keep push
  spread_within k zero h g = absurd (omega arith)
  spread_within k (suc n) h g = go (eqb (key x) k) refl (spread_below (suc k) n) (spread_within (suc k) n)
    where
      go : (t : Bool) → eqb (key x) k ≡ t
          → (key x < suc k → tally p (spread key (suc k) n (x ∷ xs)) ≡ tally p (spread key (suc k) n xs))
          → (suc k ≤ key x → key x < suc k + n → tally p (spread key (suc k) n (x ∷ xs)) ≡ tally p (x ∷ []) + tally p (spread key (suc k) n xs))
          → tally p (push (eqb (key x) k) x (keep (λ y. eqb (key y) k) xs) ++ spread key (suc k) n (x ∷ xs)) ≡ tally p (x ∷ []) + tally p (keep (λ y. eqb (key y) k) xs ++ spread key (suc k) n xs)
      go true e below ih =
          let c = keep (λ y. eqb (key y) k) xs in
          let q : key x ≡ k = eqb-true (key x) k e in
          rw e (omega (arith, below (omega arith), tally_append p (x ∷ c) (spread key (suc k) n (x ∷ xs)), tally_append p (x ∷ []) c, tally_append p c (spread key (suc k) n xs)))
      go false e below ih =
          let c = keep (λ y. eqb (key y) k) xs in
          let q : key x ≡ k → ⊥ = eqb-false (key x) k e in
          let r : suc k ≤ key x = omega (arith, q) in
          rw e (omega (arith, ih r (omega arith), tally_append p c (spread key (suc k) n (x ∷ xs)), tally_append p c (spread key (suc k) n xs)))

-- counting over the spread items is counting over all, if each item's number is one of the n
pub tally_spread : {A : Type 0} (key : A → ℕ) (p : A → Bool) (k n : ℕ) (xs : List A) → ((x : A) → In x xs → (k ≤ key x) × (key x < k + n)) → tally p (spread key k n xs) ≡ tally p xs
unfolding tally
tally_spread key p k n [] h = spread_none key p k n
tally_spread key p k n (x ∷ xs) h =
    let w = h x (here refl) in
    omega (arith, spread_within key p x xs k n w.0 w.1, tally_append p (x ∷ []) xs, tally_spread key p k n xs (λ y m. h y (there m)))

-- if no item passes the count is 0
any_tally : {A : Type 0} (p : A → Bool) (xs : List A) → any p xs ≡ false → tally p xs ≡ 0
unfolding any tally
any_tally p [] e = refl
any_tally p (x ∷ xs) e = go (any_tally p xs) (p x) refl
  where
    go : (any p xs ≡ false → tally p xs ≡ 0) → (t : Bool) → p x ≡ t → cond t (suc (tally p xs)) (tally p xs) ≡ 0
    go ih true f = clash (rw f) e
    go ih false f = ih (rw f at e)

-- in a list without repetition each number is counted at most once
pub distinct_tally : (ns : List ℕ) (n : ℕ) → distinct ns ≡ true → tally (λ m. eqb m n) ns ≤ 1
unfolding tally distinct member
distinct_tally [] n d = omega arith
distinct_tally (m ∷ ns) n d = go (distinct_tally ns n (and_right (not (member m ns)) (distinct ns) d)) (eqb m n) refl
  where
    go : tally (λ m. eqb m n) ns ≤ 1 → (t : Bool) → eqb m n ≡ t → cond t (suc (tally (λ m. eqb m n) ns)) (tally (λ m. eqb m n) ns) ≤ 1
    go ih false e = ih
    go ih true e =
        let q : m ≡ n = eqb-true m n e in
        let z : tally (λ k. eqb k m) ns ≡ 0 = any_tally (λ k. eqb k m) ns (not-true (member m ns) (and_left (not (member m ns)) (distinct ns) d)) in
        let z' : tally (λ k. eqb k n) ns ≡ 0 = rw q at z in
        omega arith

-- if the count is 0 no item passes
any_none : {A : Type 0} (p : A → Bool) (xs : List A) → tally p xs ≡ 0 → any p xs ≡ false
unfolding any tally
any_none p [] e = refl
any_none p (x ∷ xs) e = go (any_none p xs) (p x) refl
  where
    go : (tally p xs ≡ 0 → any p xs ≡ false) → (t : Bool) → p x ≡ t → any p (x ∷ xs) ≡ false
    go ih true f = absurd (let z : suc (tally p xs) ≡ 0 = rw f at e in omega arith)
    go ih false f = rw f (ih (rw f at e))

-- if each number is counted at most once, none stands twice
pub distinct_of_tally : (ns : List ℕ) → ((n : ℕ) → tally (λ m. eqb m n) ns ≤ 1) → distinct ns ≡ true
unfolding tally distinct member
distinct_of_tally [] h = refl
distinct_of_tally (m ∷ ns) h =
    let self : eqb m m ≡ true = eq-eqb m m refl in
    let one : suc (tally (λ k. eqb k m) ns) ≤ 1 = rw self at (h m) in
    let none_left : tally (λ k. eqb k m) ns ≡ 0 = omega arith in
    both (not (member m ns)) (distinct ns) (rw (any_none (λ k. eqb k m) ns none_left)) (distinct_of_tally ns (λ n. less n (eqb m n) refl))
  where
    less : (n : ℕ) (t : Bool) → eqb m n ≡ t → tally (λ k. eqb k n) ns ≤ 1
    less n true e = let z : suc (tally (λ k. eqb k n) ns) ≤ 1 = rw e at (h n) in omega arith
    less n false e = rw e at (h n)

-- ---- `all`, lengths, joins
-- `all` says that each item passes
pub all_in : {A : Type 0} (q : A → Bool) (xs : List A) → all q xs ≡ true ↔ ((x : A) → In x xs → q x ≡ true)
unfolding all
all_in q [] = (λ e x m. absurd (not-nil m), λ h. refl)
all_in q (y ∷ ys) = let r = all_in q ys in
    (λ e. from (and_left (q y) (all q ys) e) (r.0 (and_right (q y) (all q ys) e)), λ h. both (q y) (all q ys) (h y (here refl)) (r.1 (λ x m. h x (there m))))
  where
    from : q y ≡ true → ((x : _) → In x ys → q x ≡ true) → (x : _) → In x (y ∷ ys) → q x ≡ true
    from e h x (here i) = ap q i ∙ e
    from e h x (there m) = h x m

module _ {A : Type 0} (lt : A → A → Bool) where
  -- inserting makes a list one longer
  insert_length : (y : A) (ys : List A) → length (insert lt y ys) ≡ suc (length ys)
  unfolding insert
  insert_length y [] = refl
  insert_length y (z ∷ zs) = go (insert_length y zs) (lt z y)
    where
      go : length (insert lt y zs) ≡ suc (length zs) → (t : Bool) → length (cond t (z ∷ insert lt y zs) (y ∷ z ∷ zs)) ≡ suc (suc (length zs))
      go ih true = ap suc ih
      go ih false = refl

  -- sorting keeps the length
  pub sort_length : (xs : List A) → length (sort lt xs) ≡ length xs
  unfolding sort
  sort_length [] = refl
  sort_length (x ∷ xs) = insert_length x (sort lt xs) ∙ ap suc (sort_length xs)

module _ {A : Type 0} where
  -- `keep` makes a list no longer
  pub keep_length : (p : A → Bool) (xs : List A) → length (keep p xs) ≤ length xs
  unfolding keep push
  keep_length p [] = omega arith
  keep_length p (x ∷ xs) = go (keep_length p xs) (p x)
    where
      go : length (keep p xs) ≤ length xs → (t : Bool) → length (push t x (keep p xs)) ≤ suc (length xs)
      go ih true = omega arith
      go ih false = omega arith

  -- an item of one of the lists is in their join
  pub join_in : (xss : List (List A)) (i : ℕ) (x : A) → In x (get_or xss i []) → In x (join xss)
  unfolding join
  join_in [] zero x m = absurd (not-nil m)
  join_in [] (suc i) x m = absurd (not-nil m)
  join_in (xs ∷ xss) zero x m = in_left (join xss) m
  join_in (xs ∷ xss) (suc i) x m = in_right xs (join_in xss i x m)

  -- one of the lists is no longer than their join
  pub join_length : (xss : List (List A)) (i : ℕ) → length (get_or xss i []) ≤ length (join xss)
  unfolding join
  join_length [] zero = omega arith
  join_length [] (suc i) = omega arith
  join_length (xs ∷ xss) zero = omega (arith, length-append xs (join xss))
  join_length (xs ∷ xss) (suc i) = omega (arith, length-append xs (join xss), join_length xss i)

  -- an item of a list with one place set is the new one, or was there
  pub set_in : (xs : List A) (i : ℕ) (v x : A) → In x (set xs i v) → (x ≡ v) ⊎ In x xs
  set_in [] i v x m = absurd (not-nil m)
  set_in (y ∷ ys) zero v x (here e) = inl e
  set_in (y ∷ ys) zero v x (there m) = inr (there m)
  set_in (y ∷ ys) (suc i) v x (here e) = inr (here e)
  set_in (y ∷ ys) (suc i) v x (there m) = go (set_in ys i v x m)
    where
      go : (x ≡ v) ⊎ In x ys → (x ≡ v) ⊎ In x (y ∷ ys)
      go (inl e) = inl e
      go (inr k) = inr (there k)

  -- the item at a place is in the list
  pub get_or_in : (xs : List A) (i : ℕ) (d : A) → i < length xs → In (get_or xs i d) xs
  get_or_in [] i d h = absurd (omega arith)
  get_or_in (x ∷ xs) zero d h = here refl
  get_or_in (x ∷ xs) (suc i) d h = there (get_or_in xs i d (omega arith))

-- ---- tests on lists, numbers without repetition
-- `any` gives an item that passes
pub any_in : {A : Type 0} (q : A → Bool) (xs : List A) → any q xs ≡ true → (x : A) × In x xs × (q x ≡ true)
unfolding any
any_in q [] e = clash e refl
any_in q (x ∷ xs) e = go (any_in q xs) (q x) refl
  where
    go : (any q xs ≡ true → (y : _) × In y xs × (q y ≡ true)) → (t : Bool) → q x ≡ t → (y : _) × In y (x ∷ xs) × (q y ≡ true)
    go ih true f = (x, here refl, f)
    go ih false f = let w = ih (rw f at e) in (w.0, there w.1, w.2)

-- a number that is not in the whole is in neither part
member_append : (n : ℕ) (xs ys : List ℕ) → member n (xs ++ ys) ≡ false → (member n xs ≡ false) × (member n ys ≡ false)
unfolding member any
member_append n [] ys h = (refl, h)
member_append n (x ∷ xs) ys h = go (member_append n xs ys) (eqb x n) refl
  where
    go : (member n (xs ++ ys) ≡ false → (member n xs ≡ false) × (member n ys ≡ false)) → (t : Bool) → eqb x n ≡ t → (member n (x ∷ xs) ≡ false) × (member n ys ≡ false)
    go ih true e = clash (rw e) h
    go ih false e = let r = ih (rw e at h) in (rw e r.0, r.1)

-- parts of a list without repetition have none
pub distinct_append : (xs ys : List ℕ) → distinct (xs ++ ys) ≡ true → (distinct xs ≡ true) × (distinct ys ≡ true)
unfolding distinct
distinct_append [] ys h = (refl, h)
distinct_append (x ∷ xs) ys h =
    let r = distinct_append xs ys (and_right (not (member x (xs ++ ys))) (distinct (xs ++ ys)) h) in
    let m = member_append x xs ys (not-true (member x (xs ++ ys)) (and_left (not (member x (xs ++ ys))) (distinct (xs ++ ys)) h)) in
    (both (not (member x xs)) (distinct xs) (rw m.0) r.0, r.1)

-- a disjunction that fails: its second part fails
pub or_right : (a b : Bool) → (a || b) ≡ false → b ≡ false
or_right true b e = clash refl e
or_right false b e = e

-- a number from k to k + n that passes makes `any` true
pub up_from_any : (q : ℕ → Bool) (k n j : ℕ) → k ≤ j → j < k + n → q j ≡ true → any q (up_from k n) ≡ true
unfolding up_from any
up_from_any q k zero j a b h = absurd (omega arith)
up_from_any q k (suc n) j a b h = go (up_from_any q (suc k) n j) (eqb k j) refl
  where
    or_true : (x y : Bool) → y ≡ true → (x || y) ≡ true
    or_true true y e = refl
    or_true false y e = e

    go : (suc k ≤ j → j < suc k + n → q j ≡ true → any q (up_from (suc k) n) ≡ true) → (t : Bool) → eqb k j ≡ t → (q k || any q (up_from (suc k) n)) ≡ true
    go ih true e = let i : q k ≡ true = rw (eqb-true k j e) h in rw i
    go ih false e = let n' = eqb-false k j e in or_true (q k) (any q (up_from (suc k) n)) (ih (lt_of_le-ne a n') (omega arith) h)

-- ---- a list with some items left out
-- the first list is the second with some items left out
pub data Sub {A : Type 0} : List A → List A → Type 0 where
  end : Sub [] []
  skip : {y : A} {xs ys : List A} → Sub xs ys → Sub xs (y ∷ ys)
  also : {y : A} {xs ys : List A} → Sub xs ys → Sub (y ∷ xs) (y ∷ ys)

module _ {A : Type 0} where
  -- the empty list: all are left out
  pub sub_none : (ys : List A) → Sub [] ys
  sub_none [] = end
  sub_none (y ∷ ys) = skip (sub_none ys)

  -- the list itself: none is left out
  pub sub_all : (ys : List A) → Sub ys ys
  sub_all [] = end
  sub_all (y ∷ ys) = also (sub_all ys)

  -- `keep` leaves items out
  pub sub_keep : (q : A → Bool) (ys : List A) → Sub (keep q ys) ys
  unfolding keep push
  sub_keep q [] = end
  sub_keep q (y ∷ ys) = go (sub_keep q ys) (q y)
    where
      go : Sub (keep q ys) ys → (t : Bool) → Sub (push t y (keep q ys)) (y ∷ ys)
      go ih true = also ih
      go ih false = skip ih

  -- one item of a list alone
  pub sub_one : (x : A) (ys : List A) → In x ys → Sub (x ∷ []) ys
  sub_one x [] x'' = elim x'' [ ]
  sub_one x (y ∷ ys) (here e) = subst (λ (z : A). Sub (z ∷ []) (y ∷ ys)) (sym e) (also (sub_none ys))
  sub_one x (y ∷ ys) (there m) = skip (sub_one x ys m)

  -- leaving out twice is leaving out
  pub sub_trans : {xs ys zs : List A} → Sub xs ys → Sub ys zs → Sub xs zs
  sub_trans {xs = xs} s end = s
  sub_trans {xs = xs} s (skip t) = skip (sub_trans {xs = xs} s t)
  sub_trans {xs = xs} (skip s) (also t) = skip (sub_trans {xs = xs} s t)
  sub_trans (also {xs = xs} s) (also t) = also (sub_trans {xs = xs} s t)

  -- an item of the shorter list is one of the longer
  pub sub_in : {xs ys : List A} (x : A) → Sub xs ys → In x xs → In x ys
  sub_in x end m = m
  sub_in x (skip s) m = there (sub_in x s m)
  sub_in x (also s) (here e) = here e
  sub_in x (also s) (there m) = there (sub_in x s m)

  -- two such lists joined
  pub sub_append : {xs ys as' bs : List A} → Sub xs ys → Sub as' bs → Sub (xs ++ as') (ys ++ bs)
  sub_append end t = t
  sub_append (skip s) t = skip (sub_append s t)
  sub_append (also s) t = also (sub_append s t)

  -- the shorter list is no longer
  pub sub_length : {xs ys : List A} → Sub xs ys → length xs ≤ length ys
  sub_length end = omega arith
  sub_length (skip s) = omega (arith, sub_length s)
  sub_length (also s) = omega (arith, sub_length s)

-- ---- neighbours without the first, and with one more
module _ {A : Type 0} (r : A → A → Bool) where
  -- without the first item the neighbours still stand in r
  pub chain_rest : (x : A) (xs : List A) → chain r (x ∷ xs) ≡ true → chain r xs ≡ true
  unfolding chain
  chain_rest x [] c = refl
  chain_rest x (y ∷ ys) c = and_right (r x y) (chain r (y ∷ ys)) c

  -- an item that stands in r to all others can go first
  pub chain_cons : (y : A) (zs : List A) → chain r zs ≡ true → ((f : A) → In f zs → r y f ≡ true) → chain r (y ∷ zs) ≡ true
  unfolding chain
  chain_cons y [] c h = refl
  chain_cons y (z ∷ zs) c h = both (r y z) (chain r (z ∷ zs)) (h z (here refl)) c

-- ---- neighbours, where r is transitive through a good item between
module _ {A : Type 0} (r : A → A → Bool) (Good : A → Type 0) (through : (f g h : A) → Good g → r f g ≡ true → r g h ≡ true → r f h ≡ true) where
  -- the first item stands in r to every later one
  pub chain_first : (x y : A) (xs : List A) → ((f : A) → In f xs → Good f) → chain r (x ∷ xs) ≡ true → In y xs → r x y ≡ true
  unfolding chain
  chain_first x y [] g c m = absurd (not-nil m)
  chain_first x y (z ∷ zs) g c m = go (chain_first z y zs (λ f i. g f (there i)) (and_right (r x z) (chain r (z ∷ zs)) c)) m
    where
      step : r x z ≡ true
      step = and_left (r x z) (chain r (z ∷ zs)) c

      go : (In y zs → r z y ≡ true) → In y (z ∷ zs) → r x y ≡ true
      go ih (here e) = subst (λ (f : A). r x f ≡ true) (sym e) step
      go ih (there k) = through x z y (g z (here refl)) step (ih k)

  -- leaving items out keeps neighbours in r
  pub sub_chain : {xs ys : List A} → ((f : A) → In f ys → Good f) → Sub xs ys → chain r ys ≡ true → chain r xs ≡ true
  sub_chain g end c = c
  sub_chain g (skip {y = y} {ys = ys} s) c = sub_chain (λ f i. g f (there i)) s (chain_rest r y ys c)
  sub_chain g (also {y = y} {xs = xs} {ys = ys} s) c = go xs s (sub_chain (λ f i. g f (there i)) s (chain_rest r y ys c))
    where
      go : (zs : List A) → Sub zs ys → chain r zs ≡ true → chain r (y ∷ zs) ≡ true
      go zs s c' = chain_cons r y zs c' (λ f i. chain_first y f ys (λ f i. g f (there i)) c (sub_in f s i))

-- ---- a sorted list stays as it is when sorted
module _ {A : Type 0} (lt : A → A → Bool) where
  -- an item that is before none can stay first
  insert_least : (x : A) (xs : List A) → chain (λ a b. not (lt b a)) (x ∷ xs) ≡ true → insert lt x xs ≡ x ∷ xs
  unfolding insert chain
  insert_least x [] c = refl
  insert_least x (y ∷ ys) c =
      let e : lt y x ≡ false = not-true (lt y x) (and_left (not (lt y x)) (chain (λ a b. not (lt b a)) (y ∷ ys)) c) in
      rw e

  -- sorting a list that is in order leaves it as it is
  pub sort_sorted : (xs : List A) → chain (λ a b. not (lt b a)) xs ≡ true → sort lt xs ≡ xs
  unfolding sort chain
  sort_sorted [] c = refl
  sort_sorted (x ∷ []) c = insert_least x [] c
  sort_sorted (x ∷ y ∷ ys) c =
      let ih : sort lt (y ∷ ys) ≡ y ∷ ys = sort_sorted (y ∷ ys) (and_right (not (lt y x)) (chain (λ a b. not (lt b a)) (y ∷ ys)) c) in
      ap (λ (r : List A). insert lt x r) ih ∙ insert_least x (y ∷ ys) c

-- ---- numbers from k on, n of them
-- they are the numbers from k up to, not including, k + n
pub up_from_in : (k n j : ℕ) → In j (up_from k n) ↔ ((k ≤ j) × (j < k + n))
unfolding up_from
up_from_in k zero j = (λ m. absurd (not-nil m), λ h. absurd (omega arith))
up_from_in k (suc n) j = let r = up_from_in (suc k) n j in (λ m. from r.0 m, λ h. to r.1 h.0 h.1 (eqb j k) refl)
  where
    from : (In j (up_from (suc k) n) → (suc k ≤ j) × (j < suc k + n)) → In j (k ∷ up_from (suc k) n) → (k ≤ j) × (j < k + suc n)
    from ih (here e) = (omega arith, omega arith)
    from ih (there m) = let h = ih m in (omega (arith, h.0), omega (arith, h.1))

    to : ((suc k ≤ j) × (j < suc k + n) → In j (up_from (suc k) n)) → k ≤ j → j < k + suc n → (t : Bool) → eqb j k ≡ t → In j (k ∷ up_from (suc k) n)
    to ih a b true e = here (eqb-true j k e)
    to ih a b false e = let i : suc k ≤ j = lt_of_le-ne a (λ q. eqb-false j k e (sym q)) in there (ih (i, omega arith))

-- `find` returns the first number that passes
pub find_up_from : (q : ℕ → Bool) (k n b : ℕ) → k ≤ b → b < k + n → q b ≡ true → ((j : ℕ) → j < b → q j ≡ false) → find q (up_from k n) ≡ some b
unfolding find up_from
find_up_from q k zero b l u e h = absurd (omega arith)
find_up_from q k (suc n) b l u e h = go (find_up_from q (suc k) n b) (eqb k b) refl
  where
    go : (suc k ≤ b → b < suc k + n → q b ≡ true → ((j : ℕ) → j < b → q j ≡ false) → find q (up_from (suc k) n) ≡ some b) → (t : Bool) → eqb k b ≡ t
        → cond (q k) (some k) (find q (up_from (suc k) n)) ≡ some b
    go ih true t = let same : k ≡ b = eqb-true k b t in let z : q k ≡ true = rw same e in rw z (ap (λ (x : ℕ). some x) same)
    go ih false t = let i : k < b = lt_of_le-ne l (eqb-false k b t) in rw (h k i) (ih i (omega arith) e h)

-- ---- `find`, `keep`
module _ {A : Type 0} where
  -- `find` by tests that agree
  pub find_same : (p q : A → Bool) (xs : List A) → ((x : A) → p x ≡ q x) → find p xs ≡ find q xs
  unfolding find
  find_same p q [] h = refl
  find_same p q (x ∷ xs) h = rw (h x, find_same p q xs h)

  -- `keep` of two lists joined
  pub keep_append : (p : A → Bool) (xs ys : List A) → keep p (xs ++ ys) ≡ keep p xs ++ keep p ys
  unfolding keep push
  keep_append p [] ys = refl
  keep_append p (x ∷ xs) ys = go (keep_append p xs ys) (p x)
    where
      go : keep p (xs ++ ys) ≡ keep p xs ++ keep p ys → (t : Bool) → push t x (keep p (xs ++ ys)) ≡ push t x (keep p xs) ++ keep p ys
      go ih true = ap (λ (r : List A). x ∷ r) ih
      go ih false = ih

  -- if none passes none is kept
  pub keep_none : (p : A → Bool) (xs : List A) → ((x : A) → In x xs → p x ≡ false) → keep p xs ≡ []
  unfolding keep push
  keep_none p [] h = refl
  keep_none p (x ∷ xs) h = rw (h x (here refl)) (keep_none p xs (λ y m. h y (there m)))

  -- if all pass all are kept
  pub keep_all : (p : A → Bool) (xs : List A) → ((x : A) → In x xs → p x ≡ true) → keep p xs ≡ xs
  unfolding keep push
  keep_all p [] h = refl
  keep_all p (x ∷ xs) h = rw (h x (here refl)) (ap (λ (r : List A). x ∷ r) (keep_all p xs (λ y m. h y (there m))))

  -- a stronger test keeps a part of what the weaker one keeps
  pub keep_sub : (p q : A → Bool) (xs : List A) → ((x : A) → p x ≡ true → q x ≡ true) → Sub (keep p xs) (keep q xs)
  unfolding keep push
  keep_sub p q [] h = end
  keep_sub p q (x ∷ xs) h = go (keep_sub p q xs h) (p x) (q x) (h x)
    where
      go : Sub (keep p xs) (keep q xs) → (s t : Bool) → (s ≡ true → t ≡ true) → Sub (push s x (keep p xs)) (push t x (keep q xs))
      go ih true true k = also ih
      go ih true false k = clash (k refl) refl
      go ih false true k = skip ih
      go ih false false k = ih

  -- of equal length: nothing is left out, the lists are the same
  pub sub_same : {xs ys : List A} → Sub xs ys → length xs ≡ length ys → xs ≡ ys
  sub_same end e = refl
  sub_same (skip s) e = absurd (omega (arith, sub_length s))
  sub_same (also {y = y} s) e = ap (λ (r : List A). y ∷ r) (sub_same s (omega arith))

-- ---- the first that nothing is before
module _ {A : Type 0} (lt : A → A → Bool) where
  -- the first such item, found in one pass
  unfoldable pub least_of : A → List A → A
  least_of a [] = a
  least_of a (x ∷ xs) = least_of (cond (lt x a) x a) xs

  -- no item of the list is before x
  unfoldable pub is_least : List A → A → Bool
  is_least ys x = all (λ y. not (lt y x)) ys

module _ {A : Type 0} (lt : A → A → Bool) (o : StrictWeak lt) where
  -- a later item that is before the first: the first can be left out
  least_skip : (a x : A) (xs : List A) → lt x a ≡ true → (y : A) → is_least lt (a ∷ x ∷ xs) y ≡ is_least lt (x ∷ xs) y
  unfolding is_least all
  least_skip a x xs e y = go (lt x y) (lt a y) refl refl
    where
      go : (s t : Bool) → lt x y ≡ s → lt a y ≡ t → (not (lt a y) && (not (lt x y) && all (λ z. not (lt z y)) xs)) ≡ (not (lt x y) && all (λ z. not (lt z y)) xs)
      go true true f g = rw (f, g)
      go true false f g = rw (f, g)
      go false true f g = clash (o.trans x a y e g) f
      go false false f g = rw (f, g)

  -- a later item that is not before the first can be left out
  least_pass : (a x : A) (xs : List A) → lt x a ≡ false → (y : A) → is_least lt (a ∷ x ∷ xs) y ≡ is_least lt (a ∷ xs) y
  unfolding is_least all
  least_pass a x xs e y = go (lt a y) (lt x y) refl refl
    where
      go : (s t : Bool) → lt a y ≡ s → lt x y ≡ t → (not (lt a y) && (not (lt x y) && all (λ z. not (lt z y)) xs)) ≡ (not (lt a y) && all (λ z. not (lt z y)) xs)
      go true t f g = rw f
      go false true f g = clash g (o.ntrans x a y e f)
      go false false f g = rw (f, g)

  -- if the first is not least, an item that is not before it is not least either
  least_not : (a x : A) (xs : List A) → lt x a ≡ false → is_least lt (a ∷ x ∷ xs) a ≡ false → is_least lt (a ∷ x ∷ xs) x ≡ false
  unfolding is_least
  least_not a x xs e n = go (is_least lt (a ∷ x ∷ xs) x) refl
    where
      go : (t : Bool) → is_least lt (a ∷ x ∷ xs) x ≡ t → is_least lt (a ∷ x ∷ xs) x ≡ false
      go false f = f
      go true f =
          let each = (all_in (λ y. not (lt y x)) (a ∷ x ∷ xs)).0 f in
          let yes : is_least lt (a ∷ x ∷ xs) a ≡ true = (all_in (λ y. not (lt y a)) (a ∷ x ∷ xs)).1 (λ y m. rw (o.ntrans y x a (not-true (lt y x) (each y m)) e)) in
          clash yes n

  -- a single item is least
  least_alone : (a : A) → is_least lt (a ∷ []) a ≡ true
  unfolding is_least all
  least_alone a = rw (o.irrefl a)

  -- if an item is before the first, the first is not least
  least_fails : (a x : A) (xs : List A) → lt x a ≡ true → is_least lt (a ∷ x ∷ xs) a ≡ false
  unfolding is_least
  least_fails a x xs e = flip (is_least lt (a ∷ x ∷ xs) a) refl
    where
      flip : (t : Bool) → is_least lt (a ∷ x ∷ xs) a ≡ t → is_least lt (a ∷ x ∷ xs) a ≡ false
      flip false f = f
      flip true f = clash e (not-true (lt x a) ((all_in (λ y. not (lt y a)) (a ∷ x ∷ xs)).0 f x (there (here refl))))

  -- one pass finds the first item that no item is before
  pub find_least : (a : A) (xs : List A) → find (is_least lt (a ∷ xs)) (a ∷ xs) ≡ some (least_of lt a xs)
  unfolding find least_of
  find_least a [] = rw (least_alone a)
  find_least a (x ∷ xs) = go (find_least a xs) (find_least x xs) (lt x a) refl
    where
      go : find (is_least lt (a ∷ xs)) (a ∷ xs) ≡ some (least_of lt a xs) → find (is_least lt (x ∷ xs)) (x ∷ xs) ≡ some (least_of lt x xs) → (t : Bool) → lt x a ≡ t
          → find (is_least lt (a ∷ x ∷ xs)) (a ∷ x ∷ xs) ≡ some (least_of lt (cond t x a) xs)
      go ih jh true e = rw (least_fails a x xs e) (find_same (is_least lt (a ∷ x ∷ xs)) (is_least lt (x ∷ xs)) (x ∷ xs) (least_skip a x xs e) ∙ jh)
      go ih jh false e = pass (is_least lt (a ∷ x ∷ xs) a) refl
        where
          same : (y : A) → is_least lt (a ∷ x ∷ xs) y ≡ is_least lt (a ∷ xs) y
          same = least_pass a x xs e

          pass : (t : Bool) → is_least lt (a ∷ x ∷ xs) a ≡ t → find (is_least lt (a ∷ x ∷ xs)) (a ∷ x ∷ xs) ≡ some (least_of lt a xs)
          pass true f = let g : is_least lt (a ∷ xs) a ≡ true = sym (same a) ∙ f in rw f ((rw g at ih))
          pass false f =
              let g : is_least lt (a ∷ xs) a ≡ false = sym (same a) ∙ f in
              let k : is_least lt (a ∷ x ∷ xs) x ≡ false = least_not a x xs e f in
              rw (f, k) (find_same (is_least lt (a ∷ x ∷ xs)) (is_least lt (a ∷ xs)) xs same ∙ (rw g at ih))

-- ---- empty or not
module _ {A : Type 0} where
  -- a list with an item is not empty
  pub in_nonempty : {x : A} {xs : List A} → In x xs → is_empty xs ≡ false
  unfolding is_empty
  in_nonempty (here e) = refl
  in_nonempty (there m) = refl

  -- a list longer than n is not empty
  pub longer_nonempty : (n : ℕ) (xs : List A) → n < length xs → is_empty xs ≡ false
  unfolding is_empty
  longer_nonempty n [] h = absurd (omega arith)
  longer_nonempty n (x ∷ xs) h = refl

-- ---- one element repeated
module _ {A : Type 0} where
  -- reading any place gives it, also past the end
  pub get_or_same : (n i : ℕ) (d : A) → get_or (replicate n d) i d ≡ d
  get_or_same zero zero d = refl
  get_or_same zero (suc i) d = refl
  get_or_same (suc n) zero d = refl
  get_or_same (suc n) (suc i) d = get_or_same n i d

  -- each item is the one repeated
  pub in_replicate : (n : ℕ) (d x : A) → In x (replicate n d) → x ≡ d
  in_replicate zero d x m = absurd (not-nil m)
  in_replicate (suc n) d x (here e) = e
  in_replicate (suc n) d x (there m) = in_replicate n d x m

  -- empty lists joined are empty
  pub join_empties : (n : ℕ) → ◌≡◌ {A = List A} (join (replicate n [])) []
  unfolding join
  join_empties zero = refl
  join_empties (suc n) = join_empties n

  -- reading a list with place j set: the new item at j, else the old one
  pub get_d_set : (xs : List A) (j i : ℕ) (v d : A) → i < length xs → get_or (set xs j v) i d ≡ cond (eqb j i) v (get_or xs i d)
  get_d_set xs j i v d h = go (eqb j i) refl
    where
      go : (t : Bool) → eqb j i ≡ t → get_or (set xs j v) i d ≡ cond t v (get_or xs i d)
      go true e = let q : j ≡ i = eqb-true j i e in rw q (get_or-set_same xs i v d h)
      go false e = get_or-set_other xs j i v d (λ q. eqb-false j i e (sym q))

  -- mapping by the identity changes nothing
  pub map_same : (xs : List A) → map (λ x. x) xs ≡ xs
  map_same [] = refl
  map_same (x ∷ xs) = ap (λ (r : List A). x ∷ r) (map_same xs)

  -- two joined lists are equal, with equally long first parts: the parts are equal
  pub append_apart : (a b x y : List A) → length a ≡ length b → a ++ x ≡ b ++ y → (a ≡ b) × (x ≡ y)
  append_apart [] [] x y h e = (refl, e)
  append_apart [] (b ∷ bs) x y h e = absurd (omega arith)
  append_apart (a ∷ as') [] x y h e = absurd (omega arith)
  append_apart (a ∷ as') (b ∷ bs) x y h e =
      let q : a ≡ b = cc in
      let r = append_apart as' bs x y (omega arith) (cc) in
      let t : as' ≡ bs = r.0 in
      (cc, r.1)

-- ---- lengths of joins
-- parts of at most c items joined have at most c for each part
pub joined_most : {A B : Type 0} (w : A → List B) (c : ℕ) (xs : List A) → ((x : A) → In x xs → length (w x) ≤ c) → length (join (map w xs)) ≤ length xs * c
unfolding join
joined_most w c [] h = omega arith
joined_most w c (x ∷ xs) h = let a = h x (here refl) in let b = joined_most w c xs (λ y m. h y (there m)) in omega (arith, length-append (w x) (join (map w xs)))

-- parts of at least one item joined have at least as many items as there are parts
pub joined_least : {A B : Type 0} (w : A → List B) (xs : List A) → ((x : A) → In x xs → 1 ≤ length (w x)) → length xs ≤ length (join (map w xs))
unfolding join
joined_least w [] h = omega arith
joined_least w (x ∷ xs) h = omega (arith, h x (here refl), joined_least w xs (λ y m. h y (there m)), length-append (w x) (join (map w xs)))

-- the lists from k on, n of them, have no more items than all from k on
pub stretch_few : {A : Type 0} (xss : List (List A)) (k n : ℕ) → sum (map (λ l. length (get_or xss l [])) (up_from k n)) ≤ length (join (drop k xss))
unfolding sum up_from join
stretch_few xss k zero = omega arith
stretch_few xss k (suc n) = go (ltb k (length xss)) refl (stretch_few xss (suc k) n)
  where
    rest : ℕ
    rest = sum (map (λ l. length (get_or xss l [])) (up_from (suc k) n))

    go : (t : Bool) → ltb k (length xss) ≡ t → rest ≤ length (join (drop (suc k) xss)) → length (get_or xss k []) + rest ≤ length (join (drop k xss))
    go true e ih =
        let q : drop k xss ≡ get_or xss k [] ∷ drop (suc k) xss = drop-cons xss k [] (ltb-true k (length xss) e) in
        rw q (omega (arith, length-append (get_or xss k []) (join (drop (suc k) xss))))
    go false e ih =
        let a : get_or xss k [] ≡ [] = get_or-eq_default xss [] (ltb-false k (length xss) e) in
        let b : drop (suc k) xss ≡ [] = drop_of_length-le xss {i = suc k} (omega (arith, ltb-false k (length xss) e)) in
        let z : rest ≤ 0 = rw b at ih in
        rw a (omega arith)

-- ---- two tests that both fail
-- both fail: neither holds
pub neither : (a b : Bool) → a ≡ false → b ≡ false → (not a && not b) ≡ true
neither a b e f = rw (e, f)

-- the first fails
pub neither_left : (a b : Bool) → (not a && not b) ≡ true → a ≡ false
neither_left a b h = not-true a (and_left (not a) (not b) h)

-- the second fails
pub neither_right : (a b : Bool) → (not a && not b) ≡ true → b ≡ false
neither_right a b h = not-true b (and_right (not a) (not b) h)
