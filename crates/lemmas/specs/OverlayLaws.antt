-- One list laid over another, both by rising number: what is left rises too, and its members are told. Assumes nothing.
use Rattle.std.specs.Prelude.{ℕ, ◌<◌, ◌≡◌, refl, ◌↔◌, ◌⊎◌, Bool, true, false, cond}
use Rattle.std.proofs.Common.{ap, sym, ◌∙◌, subst, inl, inr, arith, ltb-true, ltb-false}
use mathlib.Core.List.Memᴰ.{append_cases}
use mathlib.Core.List.Memᴰ.{append_left as in_left}
use mathlib.Core.List.Memᴰ.{append_right as in_right}
use mathlib.Core.List.Memᴰ.{head as here}
use mathlib.Core.List.Memᴰ.{not-nil}
use mathlib.Core.List.Memᴰ.{tail as there}
use mathlib.Core.List.{List, [], ◌∷◌, ◌++◌, map, Memᴰ as In}
use Rattle.std.proofs.Math.Dec.{ltb}
use Rattle.lemmas.specs.Lists.{chain, join}
use Rattle.lemmas.specs.ListLaws.{chain_rest}
use Rattle.lemmas.specs.Once.{strict_one}
use Rattle.lemmas.specs.Rising.{rising, rising_order, rising_first, rising_above, rising_append, rising_cons}
use Rattle.lemmas.specs.Compare.{overlay_one, overlay}

-- ---- what is left
module _ {A E : Type 0} (key : A → ℕ) (of : E → ℕ) (brings : E → List A) where
  -- an item is left: no entry has its number, or some entry brings it
  abbrev pub Left : List A → List E → A → Type 0
  Left xs es a = (In a xs × ((e : E) → In e es → of e ≡ key a → ⊥)) ⊎ ((e : E) × In e es × In a (brings e))

  -- an item more, in front
  left_more : (x : A) (xs : List A) (es : List E) (a : A) → Left xs es a → Left (x ∷ xs) es a
  left_more x xs es a (inl g) = inl (there g.0, g.1)
  left_more x xs es a (inr g) = inr g

  -- a list of what is left, by rising number
  pub record Laid (xs : List A) (es : List E) (zs : List A) : Type 0 where
    pub rises : rising key zs ≡ true
    pub members : (a : A) → In a zs ↔ Left xs es a

-- `own`: an entry brings items of its own number. `few`: it brings no two
module _ {A E : Type 0} (key : A → ℕ) (of : E → ℕ) (brings : E → List A) (own : (e : E) (a : A) → In a (brings e) → key a ≡ of e) (few : (e : E) → rising key (brings e) ≡ true) where
  -- nothing laid over nothing
  laid_none : Laid key of brings [] [] []
  unfolding chain
  laid_none = record { rises = refl; members = λ a. (λ m. absurd (not-nil m), λ h. none a h) }
    where
      none : (a : A) → Left key of brings [] [] a → In a []
      none a (inl h) = h.0
      none a (inr h) = absurd (not-nil h.1)

  -- an item below all that follow stays
  laid_stays : (x : A) (xs : List A) (es : List E) (zs : List A) → ((y : A) → In y xs → key x < key y) → ((e : E) → In e es → key x < of e) → Laid key of brings xs es zs → Laid key of brings (x ∷ xs) es (x ∷ zs)
  laid_stays x xs es zs h k w = record {
    rises = rising_cons key x zs w.rises (λ z m. after z ((w.members z).0 m));
    members = λ a. (λ m. from a m, λ g. to a g);
  }
    where
      after : (z : A) → Left key of brings xs es z → key x < key z
      after z (inl g) = h z g.0
      after z (inr g) = omega (arith, own g.0 z g.2, k g.0 g.1)

      from : (a : A) → In a (x ∷ zs) → Left key of brings (x ∷ xs) es a
      from a (here e) = inl (here e, λ d m q. absurd (omega (arith, k d m, ap key e)))
      from a (there m) = left_more key of brings x xs es a ((w.members a).0 m)

      to : (a : A) → Left key of brings (x ∷ xs) es a → In a (x ∷ zs)
      to a (inl (here e, n)) = here e
      to a (inl (there m, n)) = there ((w.members a).1 (inl (m, n)))
      to a (inr g) = there ((w.members a).1 (inr g))

  -- an entry below all that follow brings its own
  laid_brings : (e : E) (xs : List A) (es : List E) (zs : List A) → ((y : A) → In y xs → of e < key y) → ((d : E) → In d es → of e < of d) → Laid key of brings xs es zs → Laid key of brings xs (e ∷ es) (brings e ++ zs)
  laid_brings e xs es zs h k w = record {
    rises = rising_append key (brings e) zs (few e) w.rises (λ y z m n. after y z m ((w.members z).0 n));
    members = λ a. (λ m. from a (append_cases (brings e) m), λ g. to a g);
  }
    where
      after : (y z : A) → In y (brings e) → Left key of brings xs es z → key y < key z
      after y z m (inl g) = omega (arith, own e y m, h z g.0)
      after y z m (inr g) = omega (arith, own e y m, own g.0 z g.2, k g.0 g.1)

      other : (a : A) → In a xs → ((d : E) → In d es → of d ≡ key a → ⊥) → (d : E) → In d (e ∷ es) → of d ≡ key a → ⊥
      other a m n d (here q) r = omega (arith, h a m, ap of q)
      other a m n d (there i) r = n d i r

      widen : (a : A) → Left key of brings xs es a → Left key of brings xs (e ∷ es) a
      widen a (inl g) = inl (g.0, other a g.0 g.1)
      widen a (inr g) = inr (g.0, there g.1, g.2)

      from : (a : A) → In a (brings e) ⊎ In a zs → Left key of brings xs (e ∷ es) a
      from a (inl m) = inr (e, here refl, m)
      from a (inr m) = widen a ((w.members a).0 m)

      to : (a : A) → Left key of brings xs (e ∷ es) a → In a (brings e ++ zs)
      to a (inl g) = in_right (brings e) ((w.members a).1 (inl (g.0, λ d m. g.1 d (there m))))
      to a (inr (d, here q, m)) = in_left zs (subst (λ (c : E). In a (brings c)) q m)
      to a (inr (d, there i, m)) = in_right (brings e) ((w.members a).1 (inr (d, i, m)))

  -- an item whose number an entry has goes
  laid_goes : (x : A) (e : E) (xs : List A) (es : List E) (zs : List A) → key x ≡ of e → In e es → Laid key of brings xs es zs → Laid key of brings (x ∷ xs) es zs
  laid_goes x e xs es zs q i w = record { rises = w.rises; members = λ a. (λ m. left_more key of brings x xs es a ((w.members a).0 m), λ g. to a g) }
    where
      to : (a : A) → Left key of brings (x ∷ xs) es a → In a zs
      to a (inl (here r, n)) = absurd (n e i (sym q ∙ ap key (sym r)))
      to a (inl (there m, n)) = (w.members a).1 (inl (m, n))
      to a (inr g) = (w.members a).1 (inr g)

  -- one walk over both gives this list
  pub overlay_laid : (xs : List A) (es : List E) → rising key xs ≡ true → rising of es ≡ true → Laid key of brings xs es (overlay key of brings xs es)
  unfolding overlay overlay_one join
  overlay_laid [] [] c d = laid_none
  overlay_laid [] (e ∷ es) c d = laid_brings e [] es (join (map brings es)) (λ y m. absurd (not-nil m)) (λ b m. rising_first of e b es d m) (overlay_laid [] es c (chain_rest (λ (a b : E). ltb (of a) (of b)) e es d))
  overlay_laid (x ∷ xs) es c d = go (λ ds k. overlay_laid xs ds (chain_rest (λ (a b : A). ltb (key a) (key b)) x xs c) k) es d
    where
      over : List E → List A
      over ds = overlay key of brings xs ds

      go : ((ds : List E) → rising of ds ≡ true → Laid key of brings xs ds (over ds)) → (ds : List E) → rising of ds ≡ true → Laid key of brings (x ∷ xs) ds (overlay_one key of brings x over ds)
      go ih [] k = laid_stays x xs [] (over []) (λ y m. rising_first key x y xs c m) (λ e m. absurd (not-nil m)) (ih [] k)
      go ih (e ∷ ds) k = turn (ltb (of e) (key x)) (ltb (key x) (of e)) refl refl (go ih ds later)
        where
          later : rising of ds ≡ true
          later = chain_rest (λ (a b : E). ltb (of a) (of b)) e ds k

          after : (d : E) → In d ds → of e < of d
          after d m = rising_first of e d ds k m

          turn : (s t : Bool) → ltb (of e) (key x) ≡ s → ltb (key x) (of e) ≡ t → Laid key of brings (x ∷ xs) ds (overlay_one key of brings x over ds)
              → Laid key of brings (x ∷ xs) (e ∷ ds) (cond s (brings e ++ overlay_one key of brings x over ds) (cond t (x ∷ over (e ∷ ds)) (brings e ++ over ds)))
          turn true t p q w = laid_brings e (x ∷ xs) ds (overlay_one key of brings x over ds) (λ y m. rising_above key (of e) x y xs c (ltb-true (of e) (key x) p) m) after w
          turn false true p q w = laid_stays x xs (e ∷ ds) (over (e ∷ ds)) (λ y m. rising_first key x y xs c m) (λ d m. rising_above of (key x) e d ds k (ltb-true (key x) (of e) q) m) (ih (e ∷ ds) k)
          turn false false p q w =
              let same : key x ≡ of e = omega (arith, ltb-false (of e) (key x) p, ltb-false (key x) (of e) q) in
              laid_goes x e xs (e ∷ ds) (brings e ++ over ds) same (here refl) (laid_brings e xs ds (over ds) (λ y m. omega (arith, rising_first key x y xs c m)) after (ih ds later))

  -- a list by rising number with these members is the overlay
  pub overlay_is : (xs : List A) (es : List E) (zs : List A) → rising key xs ≡ true → rising of es ≡ true → rising key zs ≡ true → ((a : A) → In a zs ↔ Left key of brings xs es a) → zs ≡ overlay key of brings xs es
  overlay_is xs es zs c d r h =
      let w = overlay_laid xs es c d in
      strict_one (λ (a b : A). ltb (key a) (key b)) (rising_order key) zs (overlay key of brings xs es) r w.rises (λ a m. (w.members a).1 ((h a).0 m)) (λ a m. (h a).1 ((w.members a).0 m))
