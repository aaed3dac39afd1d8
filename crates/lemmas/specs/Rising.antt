-- Lists by rising number. Assumes nothing.
use Rattle.std.specs.Prelude.{ℕ, zero, suc, ◌<◌, ◌≡◌, Bool, ltb}
use Rattle.std.proofs.Math.Path.{refl, ap}
use Rattle.std.proofs.Math.Bool.{true, false}
use mathlib.Core.List.Memᴰ.{head as here}
use mathlib.Core.List.Memᴰ.{not-nil}
use mathlib.Core.List.Memᴰ.{tail as there}
use mathlib.Core.List.{List, [], ◌∷◌, ◌++◌, map, Memᴰ as In}
use Rattle.std.proofs.Common.{arith, ltb-true, ltb-false, lt-ltb}
use Rattle.lemmas.specs.Order.{StrictWeak, nat_order, on_order}
use Rattle.lemmas.specs.Lists.{push, keep, sort, chain, join, up_from}
use Rattle.lemmas.specs.ListLaws.{keep_in, sort_chain, chain_rest, chain_cons, up_from_in}
use Rattle.lemmas.specs.Maps.{of_join_map}
use Rattle.lemmas.specs.Once.{Once, once_sort, once_strict, strict_first, strict_append}

-- each number is below the next
abbrev pub rising : {A : Type 0} → (A → ℕ) → List A → Bool
rising key xs = chain (λ a b. ltb (key a) (key b)) xs

module _ {A : Type 0} (key : A → ℕ) where
  -- the order by number
  pub rising_order : StrictWeak (λ (a b : A). ltb (key a) (key b))
  rising_order = on_order ltb key nat_order

  -- the first number is below each later one
  pub rising_first : (x y : A) (xs : List A) → rising key (x ∷ xs) ≡ true → In y xs → key x < key y
  rising_first x y xs c m = ltb-true (key x) (key y) (strict_first (λ (a b : A). ltb (key a) (key b)) rising_order x y xs c m)

  -- what is below the first number is below each
  pub rising_above : (n : ℕ) (x y : A) (xs : List A) → rising key (x ∷ xs) ≡ true → n < key x → In y (x ∷ xs) → n < key y
  rising_above n x y xs c h (here e) = omega (arith, ap key e)
  rising_above n x y xs c h (there m) = omega (arith, rising_first x y xs c m)

  -- numbers all below those of a rising list go before it
  pub rising_append : (xs ys : List A) → rising key xs ≡ true → rising key ys ≡ true → ((x y : A) → In x xs → In y ys → key x < key y) → rising key (xs ++ ys) ≡ true
  rising_append xs ys c d h = strict_append (λ (a b : A). ltb (key a) (key b)) rising_order xs ys c d (λ x y m n. lt-ltb (key x) (key y) (h x y m n))

  -- a number below those of a rising list goes before it
  pub rising_cons : (x : A) (xs : List A) → rising key xs ≡ true → ((y : A) → In y xs → key x < key y) → rising key (x ∷ xs) ≡ true
  unfolding chain
  rising_cons x xs c h = rising_append (x ∷ []) xs refl c (λ z y m n. go z y m (h y n))
    where
      go : (z y : A) → In z (x ∷ []) → key x < key y → key z < key y
      go z y (here e) k = omega (arith, ap key e)
      go z y (there m) k = absurd (not-nil m)

  -- items no two of which have one number rise when sorted by number
  pub sort_rises : (xs : List A) → Once key xs → rising key (sort (λ (a b : A). ltb (key a) (key b)) xs) ≡ true
  sort_rises xs o =
      let lt : A → A → Bool = λ a b. ltb (key a) (key b) in
      once_strict key lt (λ a b h k. omega (arith, ltb-false (key a) (key b) h, ltb-false (key b) (key a) k)) (sort lt xs) (sort_chain lt rising_order xs) (once_sort key lt xs o)

  -- items in a strict order that pass a test rise by number, where that order is by number for those that pass
  pub keep_rises : (lt : A → A → Bool) → StrictWeak lt → (q : A → Bool) (xs : List A) → chain lt xs ≡ true → ((a b : A) → q a ≡ true → q b ≡ true → lt a b ≡ true → key a < key b) → rising key (keep q xs) ≡ true
  unfolding keep push chain
  keep_rises lt o q [] c h = refl
  keep_rises lt o q (x ∷ xs) c h = go (q x) refl (keep_rises lt o q xs (chain_rest lt x xs c) h)
    where
      go : (t : Bool) → q x ≡ t → rising key (keep q xs) ≡ true → rising key (push t x (keep q xs)) ≡ true
      go false e r = r
      go true e r = rising_cons x (keep q xs) r (λ y m. let k = (keep_in q xs y).0 m in h x y e k.1 (strict_first lt o x y xs c k.0))

-- consecutive numbers rise
pub up_from_rising : (k n : ℕ) → chain ltb (up_from k n) ≡ true
unfolding up_from chain
up_from_rising k zero = refl
up_from_rising k (suc n) = chain_cons ltb k (up_from (suc k) n) (up_from_rising (suc k) n) (λ j m. lt-ltb k j (omega (arith, ((up_from_in (suc k) n j).0 m).0)))

-- lists joined, one made of each item of a list in strict order: where each of an earlier item's stands before each of a later one's
pub strict_join : {A B : Type 0} (lt : A → A → Bool) (before : B → B → Bool) → StrictWeak lt → StrictWeak before → (g : A → List B) (xs : List A) → chain lt xs ≡ true → ((x : A) → chain before (g x) ≡ true)
    → ((x y : A) (d e : B) → lt x y ≡ true → In d (g x) → In e (g y) → before d e ≡ true) → chain before (join (map g xs)) ≡ true
unfolding join chain
strict_join lt before o u g [] c h k = refl
strict_join lt before o u g (x ∷ xs) c h k =
    strict_append before u (g x) (join (map g xs)) (h x) (strict_join lt before o u g xs (chain_rest lt x xs c) h k)
    (λ d e m n. let w = of_join_map g xs e n in k x w.0 d e (strict_first lt o x w.0 xs c w.1) m w.2)
