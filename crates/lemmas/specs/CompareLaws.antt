-- Laws of Compare.antt: what is compared of two lists by rising number, and in which order. Assumes nothing.
use Rattle.std.specs.Prelude.{ℕ, ◌<◌, ◌≡◌, ◌↔◌, ◌⊎◌, Bool, not}
use Rattle.std.proofs.Math.Path.{refl, subst}
use Rattle.std.proofs.Common.{sym, ap, ◌∙◌, inl, inr, arith}
use Rattle.std.proofs.Math.Bool.{true, false}
use mathlib.Core.List.Memᴰ.{head as here}
use mathlib.Core.List.Memᴰ.{not-nil}
use mathlib.Core.List.Memᴰ.{tail as there}
use mathlib.Core.List.{List, [], ◌∷◌, map, Memᴰ as In}
use borrow.Author.Tests.{ltb-true, ltb-false, not-true}
use Rattle.std.proofs.Math.Dec.{ltb}
use Rattle.lemmas.specs.Order.{Stand, less, more, same as tied, stand, nat_order}
use Rattle.lemmas.specs.Lists.{push, sort, chain, distinct}
use Rattle.lemmas.specs.ListLaws.{push_in, push_tail, push_head, sort_in, chain_rest, chain_cons}
use Rattle.lemmas.specs.Once.{distinct_once}
use Rattle.lemmas.specs.Rising.{rising, rising_first, rising_above, sort_rises}
use Rattle.lemmas.specs.Compare.{compare_one, compare, compare_left_end, compare_right_end, compare_left, compare_right, compare_same, compare_other}

-- ---- what is compared
-- an entry is called for: of an item whose number only the first list has, or only the second, or of the second's where both have the number and do not hold the same
pub data CalledFor {A E : Type 0} (key : A → ℕ) (same : A → A → Bool) (left right other : A → E) (xs ys : List A) (e : E) : Type 0 where
  at_left : (x : A) → In x xs → ((y : A) → In y ys → key x ≡ key y → ⊥) → left x ≡ e → CalledFor key same left right other xs ys e
  at_right : (y : A) → In y ys → ((x : A) → In x xs → key x ≡ key y → ⊥) → right y ≡ e → CalledFor key same left right other xs ys e
  at_both : (x y : A) → In x xs → In y ys → key x ≡ key y → same x y ≡ false → other y ≡ e → CalledFor key same left right other xs ys e

-- the turns of a comparison: what a turn takes is below all that is left
data Turns {A E : Type 0} (key : A → ℕ) (same : A → A → Bool) (left right other : A → E) : List A → List A → List E → Type 0 where
  ended : Turns key same left right other [] [] []
  first : {x : A} {xs ys : List A} {es : List E} → ((a : A) → In a xs → key x < key a) → ((b : A) → In b ys → key x < key b) → Turns key same left right other xs ys es
      → Turns key same left right other (x ∷ xs) ys (left x ∷ es)
  second : {y : A} {xs ys : List A} {es : List E} → ((a : A) → In a xs → key y < key a) → ((b : A) → In b ys → key y < key b) → Turns key same left right other xs ys es
      → Turns key same left right other xs (y ∷ ys) (right y ∷ es)
  both : {x y : A} {xs ys : List A} {es : List E} → key x ≡ key y → ((a : A) → In a xs → key x < key a) → ((b : A) → In b ys → key x < key b) → Turns key same left right other xs ys es
      → Turns key same left right other (x ∷ xs) (y ∷ ys) (push (not (same x y)) (other y) es)

module _ {A E : Type 0} (key : A → ℕ) (same : A → A → Bool) (left right other : A → E) where
  -- the entries of two lists
  abbrev compared : List A → List A → List E
  compared xs ys = compare key same left right other xs ys

  -- an entry of them is called for
  abbrev Calls : List A → List A → E → Type 0
  Calls xs ys e = CalledFor key same left right other xs ys e

  -- they go by turns
  abbrev Goes : List A → List A → List E → Type 0
  Goes xs ys es = Turns key same left right other xs ys es

  -- an item has the lower number
  abbrev lower : A → A → Bool
  lower a b = ltb (key a) (key b)

  -- the first list's first item is below all of the second list
  pub compare_first : (x : A) (xs ys : List A) → ((b : A) → In b ys → key x < key b) → compared (x ∷ xs) ys ≡ left x ∷ compared xs ys
  compare_first x xs [] h = compare_left_end key same left right other x xs
  compare_first x xs (y ∷ ys) h = compare_left key same left right other x y xs ys (h y (here refl))

  -- the second list's first item is below all of the first list
  pub compare_second : (y : A) (xs ys : List A) → ((a : A) → In a xs → key y < key a) → compared xs (y ∷ ys) ≡ right y ∷ compared xs ys
  compare_second y [] ys h = compare_right_end key same left right other y ys
  compare_second y (x ∷ xs) ys h = compare_right key same left right other x y xs ys (h x (here refl))

  -- the first items have one number
  pub compare_both : (x y : A) (xs ys : List A) → key x ≡ key y → compared (x ∷ xs) (y ∷ ys) ≡ push (not (same x y)) (other y) (compared xs ys)
  unfolding push
  compare_both x y xs ys q = go (same x y) refl
    where
      go : (t : Bool) → same x y ≡ t → compared (x ∷ xs) (y ∷ ys) ≡ push (not (same x y)) (other y) (compared xs ys)
      go true e = rw e (compare_same key same left right other x y xs ys q e)
      go false e = rw e (compare_other key same left right other x y xs ys q e)

  -- a comparison of items that rise goes by turns
  by_turns : (xs ys : List A) → rising key xs ≡ true → rising key ys ≡ true → Goes xs ys (compared xs ys)
  unfolding compare compare_one
  by_turns [] [] c d = ended
  by_turns [] (y ∷ ys) c d = second (λ a m. absurd (not-nil m)) (λ a m. rising_first key y a ys d m) (by_turns [] ys c (chain_rest lower y ys d))
  by_turns (x ∷ xs) [] c d = first (λ a m. rising_first key x a xs c m) (λ b m. absurd (not-nil m)) (by_turns xs [] (chain_rest lower x xs c) d)
  by_turns (x ∷ xs) (y ∷ ys) c d =
      let c' = chain_rest lower x xs c in
      let d' = chain_rest lower y ys d in
      go (stand ltb nat_order (key x) (key y)) (by_turns xs (y ∷ ys) c' d) (by_turns (x ∷ xs) ys c d') (by_turns xs ys c' d')
    where
      go : Stand ltb (key x) (key y) → Goes xs (y ∷ ys) (compared xs (y ∷ ys)) → Goes (x ∷ xs) ys (compared (x ∷ xs) ys)
          → Goes xs ys (compared xs ys) → Goes (x ∷ xs) (y ∷ ys) (compared (x ∷ xs) (y ∷ ys))
      go (less e f) l r b =
          let h : (b : A) → In b (y ∷ ys) → key x < key b = λ b m. rising_above key (key x) y b ys d (ltb-true (key x) (key y) e) m in
          subst (λ (es : List E). Goes (x ∷ xs) (y ∷ ys) es) (sym (compare_first x xs (y ∷ ys) h)) (first (λ a m. rising_first key x a xs c m) h l)
      go (more e f) l r b =
          let h : (a : A) → In a (x ∷ xs) → key y < key a = λ a m. rising_above key (key y) x a xs c (ltb-true (key y) (key x) e) m in
          subst (λ (es : List E). Goes (x ∷ xs) (y ∷ ys) es) (sym (compare_second y (x ∷ xs) ys h)) (second h (λ a m. rising_first key y a ys d m) r)
      go (tied e f) l r b =
          let q : key x ≡ key y = omega (arith, ltb-false (key x) (key y) e, ltb-false (key y) (key x) f) in
          subst (λ (es : List E). Goes (x ∷ xs) (y ∷ ys) es) (sym (compare_both x y xs ys q)) (both q (λ a m. rising_first key x a xs c m) (λ b m. omega (arith, rising_first key y b ys d m)) b)

  -- an item behind the first
  past : {x a : A} {xs : List A} → In a (x ∷ xs) → (key x ≡ key a → ⊥) → In a xs
  past (here e) h = absurd (h (ap key (sym e)))
  past (there m) h = m

  -- what is called for stays so in lists that have more, unless a new item has the number of an old one of the other list
  wider : {xs ys us vs : List A} {e : E} → ((a : A) → In a xs → In a us) → ((b : A) → In b ys → In b vs) → ((a b : A) → In a xs → In b vs → key a ≡ key b → In b ys) → ((a b : A) → In a us → In b ys → key a ≡ key b → In a xs)
      → Calls xs ys e → Calls us vs e
  wider f g h k (at_left x m n e) = at_left x (f x m) (λ y i q. n y (h x y m i q) q) e
  wider f g h k (at_right y m n e) = at_right y (g y m) (λ x i q. n x (k x y i m q) q) e
  wider f g h k (at_both x y m n q s e) = at_both x y (f x m) (g y n) q s e

  -- what the turns give is called for
  turns_sound : {xs ys : List A} {es : List E} → Goes xs ys es → (e : E) → In e es → Calls xs ys e
  turns_sound ended e m = absurd (not-nil m)
  turns_sound (first {x = x} p q t) e (here i) = at_left x (here refl) (λ y m k. omega (arith, q y m)) (sym i)
  turns_sound (first p q t) e (there m) = wider (λ a. there) (λ b k. k) (λ a b k i z. i) (λ a b i k z. past i (λ u. omega (arith, q b k))) (turns_sound t e m)
  turns_sound (second {y = y} p q t) e (here i) = at_right y (here refl) (λ x m k. omega (arith, p x m)) (sym i)
  turns_sound (second p q t) e (there m) = wider (λ a k. k) (λ b. there) (λ a b k i z. past i (λ u. omega (arith, p a k))) (λ a b i k z. i) (turns_sound t e m)
  turns_sound (both {x = x} {y = y} {xs = xs} {ys = ys} {es = es} r p q t) e m = go (λ k. turns_sound t e k) (push_in (not (same x y)) e (other y) es m)
    where
      go : (In e es → Calls xs ys e) → ((e ≡ other y) × (not (same x y) ≡ true)) ⊎ In e es → Calls (x ∷ xs) (y ∷ ys) e
      go ih (inl i) = at_both x y (here refl) (here refl) r (not-true (same x y) i.1) (sym i.0)
      go ih (inr k) = wider (λ a. there) (λ b. there) (λ a b k i z. past i (λ u. omega (arith, p a k))) (λ a b i k z. past i (λ u. omega (arith, q b k))) (ih k)

  -- what is called for is given
  turns_complete : {xs ys : List A} {es : List E} → Goes xs ys es → (e : E) → Calls xs ys e → In e es
  turns_complete ended e (at_left x m n i) = absurd (not-nil m)
  turns_complete ended e (at_right y m n i) = absurd (not-nil m)
  turns_complete ended e (at_both x y m k q s i) = absurd (not-nil m)
  turns_complete (first p q t) e (at_left a (here j) n i) = here (sym i ∙ ap left j)
  turns_complete (first p q t) e (at_left a (there m) n i) = there (turns_complete t e (at_left a m n i))
  turns_complete (first p q t) e (at_right b m n i) = there (turns_complete t e (at_right b m (λ a k. n a (there k)) i))
  turns_complete (first p q t) e (at_both a b (here j) k r s i) = absurd (omega (arith, q b k, ap key j))
  turns_complete (first p q t) e (at_both a b (there m) k r s i) = there (turns_complete t e (at_both a b m k r s i))
  turns_complete (second p q t) e (at_left a m n i) = there (turns_complete t e (at_left a m (λ b k. n b (there k)) i))
  turns_complete (second p q t) e (at_right b (here j) n i) = here (sym i ∙ ap right j)
  turns_complete (second p q t) e (at_right b (there m) n i) = there (turns_complete t e (at_right b m n i))
  turns_complete (second p q t) e (at_both a b m (here j) r s i) = absurd (omega (arith, p a m, ap key j))
  turns_complete (second p q t) e (at_both a b m (there k) r s i) = there (turns_complete t e (at_both a b m k r s i))
  turns_complete (both {x = x} {y = y} {xs = xs} {ys = ys} {es = es} r p q t) e w = go (λ v. turns_complete t e v) w
    where
      stays : In e es → In e (push (not (same x y)) (other y) es)
      stays m = push_tail (not (same x y)) e (other y) es m

      go : (Calls xs ys e → In e es) → Calls (x ∷ xs) (y ∷ ys) e → In e (push (not (same x y)) (other y) es)
      go ih (at_left a (here j) n i) = absurd (n y (here refl) (ap key j ∙ r))
      go ih (at_left a (there m) n i) = stays (ih (at_left a m (λ b k. n b (there k)) i))
      go ih (at_right b (here j) n i) = absurd (n x (here refl) (r ∙ ap key (sym j)))
      go ih (at_right b (there m) n i) = stays (ih (at_right b m (λ a k. n a (there k)) i))
      go ih (at_both a b (here j) (here l) z s i) = push_head (not (same x y)) e (other y) es (rw (sym j, sym l, s)) (sym i ∙ ap other l)
      go ih (at_both a b (here j) (there k) z s i) = absurd (omega (arith, q b k, ap key j))
      go ih (at_both a b (there m) (here l) z s i) = absurd (omega (arith, p a m, ap key l))
      go ih (at_both a b (there m) (there k) z s i) = stays (ih (at_both a b m k z s i))

  -- lists of items that rise, compared, have exactly what is called for
  pub compare_in : (xs ys : List A) → rising key xs ≡ true → rising key ys ≡ true → (e : E) → In e (compared xs ys) ↔ Calls xs ys e
  compare_in xs ys c d e = (turns_sound (by_turns xs ys c d) e, turns_complete (by_turns xs ys c d) e)

  -- sorted first, where no number stands twice: what is called for is that of the lists as they were
  pub compare_sorted_in : (xs ys : List A) → distinct (map key xs) ≡ true → distinct (map key ys) ≡ true → (e : E)
      → In e (compared (sort lower xs) (sort lower ys)) ↔ Calls xs ys e
  compare_sorted_in xs ys c d e =
      let r = compare_in (sort lower xs) (sort lower ys) (sort_rises key xs (distinct_once key xs c)) (sort_rises key ys (distinct_once key ys d)) e in
      let mx = sort_in lower xs in
      let my = sort_in lower ys in (
        λ m. wider (λ a. (mx a).0) (λ b. (my b).0) (λ a b k i z. (my b).1 i) (λ a b i k z. (mx a).1 i) (r.0 m),
        λ w. r.1 (wider (λ a. (mx a).1) (λ b. (my b).1) (λ a b k i z. (my b).0 i) (λ a b i k z. (mx a).0 i) w),
      )

  -- ---- the order of the entries: where an entry made of an item has the item's number, and those of lower numbers stand before those of higher
  module _ (lt : E → E → Bool) (Made : ℕ → E → Type 0) (ml : (x : A) → Made (key x) (left x)) (mr : (y : A) → Made (key y) (right y)) (mo : (y : A) → Made (key y) (other y))
      (before : (n m : ℕ) (d e : E) → n < m → Made n d → Made m e → lt d e ≡ true) where
    -- an entry that is called for has the number of an item
    numbered : {xs ys : List A} {e : E} (n : ℕ) → ((a : A) → In a xs → n < key a) → ((b : A) → In b ys → n < key b) → Calls xs ys e → (m : ℕ) × (n < m) × Made m e
    numbered n p q (at_left x m k e) = (key x, p x m, subst (λ (d : E). Made (key x) d) e (ml x))
    numbered n p q (at_right y m k e) = (key y, q y m, subst (λ (d : E). Made (key y) d) e (mr y))
    numbered n p q (at_both x y m k z s e) = (key y, q y k, subst (λ (d : E). Made (key y) d) e (mo y))

    -- one entry more
    onto : {xs ys : List A} (es : List E) (n : ℕ) (d : E) → ((a : A) → In a xs → n < key a) → ((b : A) → In b ys → n < key b) → Goes xs ys es → Made n d → chain lt es ≡ true → chain lt (d ∷ es) ≡ true
    onto es n d p q t i c = chain_cons lt d es c (λ e m. let w = numbered n p q (turns_sound t e m) in before n w.0 d e w.1 i w.2)

    -- the turns give them in order
    turns_ordered : {xs ys : List A} {es : List E} → Goes xs ys es → chain lt es ≡ true
    unfolding chain push
    turns_ordered ended = refl
    turns_ordered (first {x = x} {es = es} p q t) = onto es (key x) (left x) p q t (ml x) (turns_ordered t)
    turns_ordered (second {y = y} {es = es} p q t) = onto es (key y) (right y) p q t (mr y) (turns_ordered t)
    turns_ordered (both {x = x} {y = y} {es = es} r p q t) = go (not (same x y)) (turns_ordered t)
      where
        go : (b : Bool) → chain lt es ≡ true → chain lt (push b (other y) es) ≡ true
        go true c = onto es (key y) (other y) (λ a m. omega (arith, p a m)) (λ b m. omega (arith, q b m)) t (mo y) c
        go false c = c

    -- so each entry stands before the next
    pub compare_ordered : (xs ys : List A) → rising key xs ≡ true → rising key ys ≡ true → chain lt (compared xs ys) ≡ true
    compare_ordered xs ys c d = turns_ordered (by_turns xs ys c d)
