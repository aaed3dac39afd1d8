-- Two lists by rising number, gone through at once: what differs between them, and one laid over the other. Assumes nothing.
use Prim.Native.Nat.{ℕ, suc, ◌+◌, ◌≤◌, ◌<◌}
use Rattle.std.specs.Prelude.{◌≡◌, Bool, cond, ltb}
use Rattle.std.proofs.Math.Path.{refl, ap}
use Rattle.std.proofs.Common.{◌∙◌}
use Rattle.std.proofs.Math.Bool.{true, false}
use mathlib.Core.List.Memᴰ.{head as here}
use mathlib.Core.List.Memᴰ.{tail as there}
use mathlib.Core.List.{List, [], ◌∷◌, ◌++◌, map, Memᴰ as In}
use native.Mathlib.Omega.{arith}
use borrow.Author.Tests.{ltb-false, lt-ltb, le-ltb}
use Rattle.std.proofs.Math.ListN.{length, length-map}
use Rattle.lemmas.specs.Lists.{join}

-- ---- what differs
-- `key` gives an item's number, `same` tells whether two items of one number hold the same. An entry is made of an item that only the first list has, of one that
-- only the second has, or of the second's item where both have the number and do not hold the same
module _ {A E : Type 0} (key : A → ℕ) (same : A → A → Bool) (left right other : A → E) where
  -- x against the second list, then f of what is left of it
  unfoldable pub compare_one : A → (List A → List E) → List A → List E
  compare_one x f [] = left x ∷ f []
  compare_one x f (y ∷ ys) = cond (ltb (key y) (key x)) (right y ∷ compare_one x f ys) (cond (ltb (key x) (key y)) (left x ∷ f (y ∷ ys)) (cond (same x y) (f ys) (other y ∷ f ys)))

  -- the entries, by rising number
  unfoldable pub compare : List A → List A → List E
  compare [] ys = map right ys
  compare (x ∷ xs) ys = compare_one x (compare xs) ys

  -- ---- a turn, by the first items of both
  -- the second list has ended
  pub compare_left_end : (x : A) (xs : List A) → compare (x ∷ xs) [] ≡ left x ∷ compare xs []
  unfolding compare compare_one
  compare_left_end x xs = refl

  -- the first list has ended
  pub compare_right_end : (y : A) (ys : List A) → compare [] (y ∷ ys) ≡ right y ∷ compare [] ys
  unfolding compare
  compare_right_end y ys = refl

  module _ (x y : A) (xs ys : List A) where
    -- the first list's number is lower
    pub compare_left : key x < key y → compare (x ∷ xs) (y ∷ ys) ≡ left x ∷ compare xs (y ∷ ys)
    unfolding compare compare_one
    compare_left h = rw (le-ltb (key y) (key x) (omega arith), lt-ltb (key x) (key y) h)

    -- the second list's number is lower
    pub compare_right : key y < key x → compare (x ∷ xs) (y ∷ ys) ≡ right y ∷ compare (x ∷ xs) ys
    unfolding compare compare_one
    compare_right h = rw (lt-ltb (key y) (key x) h)

    -- one number, and both hold the same
    pub compare_same : key x ≡ key y → same x y ≡ true → compare (x ∷ xs) (y ∷ ys) ≡ compare xs ys
    unfolding compare compare_one
    compare_same h e = rw (le-ltb (key y) (key x) (omega arith), le-ltb (key x) (key y) (omega arith), e)

    -- one number, and they do not
    pub compare_other : key x ≡ key y → same x y ≡ false → compare (x ∷ xs) (y ∷ ys) ≡ other y ∷ compare xs ys
    unfolding compare compare_one
    compare_other h e = rw (le-ltb (key y) (key x) (omega arith), le-ltb (key x) (key y) (omega arith), e)

  -- ---- how many entries
  -- at most as many as there are items
  pub compare_few : (xs ys : List A) → length (compare xs ys) ≤ length xs + length ys
  unfolding compare compare_one
  compare_few [] ys = omega (arith, length-map ys right)
  compare_few (x ∷ xs) ys = go (compare_few xs) ys
    where
      go : ((zs : List A) → length (compare xs zs) ≤ length xs + length zs) → (zs : List A) → length (compare_one x (compare xs) zs) ≤ suc (length xs) + length zs
      go ih [] = omega (arith, ih [])
      go ih (z ∷ zs) = turn (ltb (key z) (key x)) (ltb (key x) (key z)) (same x z) (go ih zs) (ih (z ∷ zs)) (ih zs)
        where
          turn : (a b c : Bool) → length (compare_one x (compare xs) zs) ≤ suc (length xs) + length zs → length (compare xs (z ∷ zs)) ≤ length xs + suc (length zs) → length (compare xs zs) ≤ length xs + length zs
              → length (cond a (right z ∷ compare_one x (compare xs) zs) (cond b (left x ∷ compare xs (z ∷ zs)) (cond c (compare xs zs) (other z ∷ compare xs zs)))) ≤ suc (length xs) + suc (length zs)
          turn true b c h k l = omega arith
          turn false true c h k l = omega arith
          turn false false true h k l = omega arith
          turn false false false h k l = omega arith

-- items in another form: where g keeps numbers and sameness, and h turns the entries of one form into those of the other, the lists are compared alike
module _ {A B E F : Type 0} (key : A → ℕ) (same : A → A → Bool) (left right other : A → E) (key' : B → ℕ) (same' : B → B → Bool) (left' right' other' : B → F) (g : A → B) (h : E → F) where
  pub compare_map : (xs ys : List A) → ((x : A) → In x xs → (key' (g x) ≡ key x) × (left' (g x) ≡ h (left x))) → ((y : A) → In y ys → (key' (g y) ≡ key y) × (right' (g y) ≡ h (right y)) × (other' (g y) ≡ h (other y)))
      → ((x y : A) → In x xs → In y ys → key x ≡ key y → same' (g x) (g y) ≡ same x y)
      → compare key' same' left' right' other' (map g xs) (map g ys) ≡ map h (compare key same left right other xs ys)
  unfolding compare compare_one
  compare_map [] [] p q r = refl
  compare_map [] (y ∷ ys) p q r =
      let ih = compare_map [] ys p (λ z m. q z (there m)) (λ x z k m e. r x z k (there m) e) in
      ap (λ (e : F). e ∷ map right' (map g ys)) (q y (here refl)).1 ∙ ap (λ (es : List F). h (right y) ∷ es) ih
  compare_map (x ∷ xs) ys p q r = go ys (λ zs m. compare_map xs zs (λ z k. p z (there k)) (λ z k. q z (m z k)) (λ u z k l e. r u z (there k) (m z l) e)) q (λ z m e. r x z (here refl) m e)
    where
      first : (key' (g x) ≡ key x) × (left' (g x) ≡ h (left x))
      first = p x (here refl)

      go : (zs : List A) → ((us : List A) → ((u : A) → In u us → In u zs) → compare key' same' left' right' other' (map g xs) (map g us) ≡ map h (compare key same left right other xs us))
          → ((z : A) → In z zs → (key' (g z) ≡ key z) × (right' (g z) ≡ h (right z)) × (other' (g z) ≡ h (other z))) → ((z : A) → In z zs → key x ≡ key z → same' (g x) (g z) ≡ same x z)
          → compare_one key' same' left' right' other' (g x) (compare key' same' left' right' other' (map g xs)) (map g zs) ≡ map h (compare_one key same left right other x (compare key same left right other xs) zs)
      go [] ih q r = ap (λ (e : F). e ∷ compare key' same' left' right' other' (map g xs) []) first.1 ∙ ap (λ (es : List F). h (left x) ∷ es) (ih [] (λ u m. m))
      go (z ∷ zs) ih q r =
          let k = q z (here refl) in
          let whole = ih (z ∷ zs) (λ u m. m) in
          let tail = ih zs (λ u m. there m) in
          let on = go zs (λ us m. ih us (λ u n. there (m u n))) (λ u m. q u (there m)) (λ u m e. r u (there m) e) in
          rw (first.0, first.1, k.0, k.1, k.2) (turn (ltb (key z) (key x)) refl (ltb (key x) (key z)) refl (r z (here refl)) whole tail on)
        where
          turn : (a : Bool) → ltb (key z) (key x) ≡ a → (b : Bool) → ltb (key x) (key z) ≡ b → (key x ≡ key z → same' (g x) (g z) ≡ same x z) → compare key' same' left' right' other' (map g xs) (map g (z ∷ zs)) ≡ map h (compare key same left right other xs (z ∷ zs))
              → compare key' same' left' right' other' (map g xs) (map g zs) ≡ map h (compare key same left right other xs zs)
              → compare_one key' same' left' right' other' (g x) (compare key' same' left' right' other' (map g xs)) (map g zs) ≡ map h (compare_one key same left right other x (compare key same left right other xs) zs)
              → cond a (h (right z) ∷ compare_one key' same' left' right' other' (g x) (compare key' same' left' right' other' (map g xs)) (map g zs))
              (cond b (h (left x) ∷ compare key' same' left' right' other' (map g xs) (g z ∷ map g zs)) (cond (same' (g x) (g z)) (compare key' same' left' right' other' (map g xs) (map g zs)) (h (other z) ∷ compare key' same' left' right' other' (map g xs) (map g zs))))
              ≡ map h (cond a (right z ∷ compare_one key same left right other x (compare key same left right other xs) zs)
              (cond b (left x ∷ compare key same left right other xs (z ∷ zs)) (cond (same x z) (compare key same left right other xs zs) (other z ∷ compare key same left right other xs zs))))
          turn true a b c d whole tail on = ap (λ (es : List F). h (right z) ∷ es) on
          turn false a true c d whole tail on = ap (λ (es : List F). h (left x) ∷ es) whole
          turn false a false c d whole tail on = rw (d (omega (arith, ltb-false (key z) (key x) a, ltb-false (key x) (key z) c))) (last (same x z))
            where
              last : (c : Bool) → cond c (compare key' same' left' right' other' (map g xs) (map g zs)) (h (other z) ∷ compare key' same' left' right' other' (map g xs) (map g zs))
                  ≡ map h (cond c (compare key same left right other xs zs) (other z ∷ compare key same left right other xs zs))
              last true = tail
              last false = ap (λ (es : List F). h (other z) ∷ es) tail

-- ---- one list laid over another
-- an item stays unless an entry has its number; `brings` gives what an entry puts in its place, one item or none
module _ {A E : Type 0} (key : A → ℕ) (of : E → ℕ) (brings : E → List A) where
  -- x against the entries, then f of those that are left
  unfoldable pub overlay_one : A → (List E → List A) → List E → List A
  overlay_one x f [] = x ∷ f []
  overlay_one x f (e ∷ es) = cond (ltb (of e) (key x)) (brings e ++ overlay_one x f es) (cond (ltb (key x) (of e)) (x ∷ f (e ∷ es)) (brings e ++ f es))

  -- what is left, by rising number
  unfoldable pub overlay : List A → List E → List A
  overlay [] es = join (map brings es)
  overlay (x ∷ xs) es = overlay_one x (overlay xs) es
