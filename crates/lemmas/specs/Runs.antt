-- Runs of neighbours in a list, and parts of a list that repeats nothing. Assumes nothing.
use Rattle.std.specs.Prelude.{◌≡◌, refl, ◌⊎◌}
use Rattle.std.proofs.Common.{sym, ◌∙◌, ap, subst, inl, inr}
use mathlib.Core.List.Memᴰ.{append_cases}
use mathlib.Core.List.Memᴰ.{cases_cons}
use mathlib.Core.List.Memᴰ.{head as here}
use mathlib.Core.List.Memᴰ.{tail as there}
use mathlib.Core.List.{List, [], ◌∷◌, ◌++◌, Memᴰ as In, append-nil, append_assoc}
use Rattle.lemmas.specs.ListLaws.{Sub, end, skip, also, sub_none, sub_all, sub_append, sub_in}
use Rattle.lemmas.specs.Once.{Once}

-- a run of neighbours of a list, with what stands to its left and to its right
pub record Run {A : Type 0} (ys xs : List A) : Type 0 where
  pub left : List A
  pub right : List A
  pub is : ys ≡ left ++ (xs ++ right)

-- where an item of the list stands to a run of it
pub data Side {A : Type 0} {ys xs : List A} (r : Run ys xs) (x : A) : Type 0 where
  to_left : In x r.left → Side r x
  within : In x xs → Side r x
  to_right : In x r.right → Side r x

module _ {A : Type 0} where
  -- no items
  pub run_none : (ys : List A) → Run ys []
  run_none ys = record { left = []; right = ys; is = refl }

  -- one item
  pub run_one : (x : A) (ys : List A) → In x ys → Run ys (x ∷ [])
  run_one x [] x'' = elim x'' [ ]
  run_one x (y ∷ ys) (here e) = record { left = []; right = ys; is = ap (λ (z : A). z ∷ ys) (sym e) }
  run_one x (y ∷ ys) (there m) = let r = run_one x ys m in record { left = y ∷ r.left; right = r.right; is = ap (λ (zs : List A). y ∷ zs) r.is }

  -- in a list with one item more in front
  pub run_later : (y : A) (ys xs : List A) → Run ys xs → Run (y ∷ ys) xs
  run_later y ys xs r = record { left = y ∷ r.left; right = r.right; is = ap (λ (zs : List A). y ∷ zs) r.is }

  -- a front of a run
  unfoldable pub run_front : (ys xs zs : List A) → Run ys (xs ++ zs) → Run ys xs
  run_front ys xs zs r = record { left = r.left; right = zs ++ r.right; is = r.is ∙ ap (λ (ws : List A). r.left ++ ws) (append_assoc xs zs r.right) }

  -- a run leaves some items out
  pub run_sub : {ys xs : List A} → Run ys xs → Sub xs ys
  run_sub {ys} {xs} r =
      let s : Sub (xs ++ []) (xs ++ r.right) = sub_append (sub_all xs) (sub_none r.right) in
      let t : Sub ([] ++ (xs ++ [])) (r.left ++ (xs ++ r.right)) = sub_append (sub_none r.left) s in
      let u : Sub xs (r.left ++ (xs ++ r.right)) = subst (λ (zs : List A). Sub zs (r.left ++ (xs ++ r.right))) (append-nil xs) t in
      subst (λ (zs : List A). Sub xs zs) (sym r.is) u

  -- each item of the list stands to the left of the run, within it, or to the right
  pub side : {ys xs : List A} (r : Run ys xs) (x : A) → In x ys → Side r x
  side {ys} {xs} r x m = first (append_cases r.left (subst (λ (zs : List A). In x zs) r.is m))
    where
      second : In x xs ⊎ In x r.right → Side r x
      second (inl i) = within i
      second (inr i) = to_right i

      first : In x r.left ⊎ In x (xs ++ r.right) → Side r x
      first (inl i) = to_left i
      first (inr i) = second (append_cases xs i)

-- ---- no item twice
-- of two parts of a list that has no item twice, one whose items the other has is a part of the other
pub sub_within : {A : Type 0} {xs ys zs : List A} → Once (λ (x : A). x) zs → Sub xs zs → Sub ys zs → ((x : A) → In x xs → In x ys) → Sub xs ys
unfolding Once
sub_within o end t h = sub_none _
sub_within o (skip s) (skip t) h = sub_within o.1 s t h
sub_within {A} {xs} o (skip {y = z} s) (also {xs = ys} t) h = skip (sub_within o.1 s t (λ x m. other x m (cases_cons (h x m))))
  where
    other : (x : A) → In x xs → (x ≡ z) ⊎ In x ys → In x ys
    other x m (inl e) = absurd (o.0 x (sub_in x s m) (sym e))
    other x m (inr i) = i
sub_within o (also {y = z} s) (skip t) h = absurd (o.0 z (sub_in z t (h z (here refl))) refl)
sub_within {A} o (also {y = z} {xs = xs} s) (also {xs = ys} t) h = also (sub_within o.1 s t (λ x m. other x m (cases_cons (h x (there m)))))
  where
    other : (x : A) → In x xs → (x ≡ z) ⊎ In x ys → In x ys
    other x m (inl e) = absurd (o.0 x (sub_in x s m) (sym e))
    other x m (inr i) = i
