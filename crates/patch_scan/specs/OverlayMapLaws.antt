-- Items and entries in another form, one list laid over the other: what is left is the same in that form. Assumes nothing.
use Rattle.std.specs.Prelude.{ℕ, ◌≡◌, Bool, true, false, cond, ltb}
use Rattle.std.proofs.Math.Path.{refl}
use Rattle.std.proofs.Common.{ap, sym}
use mathlib.Core.List.Memᴰ.{head as here}
use mathlib.Core.List.Memᴰ.{tail as there}
use mathlib.Core.List.{List, [], ◌∷◌, ◌++◌, map, map-append, Memᴰ as In}
use Rattle.lemmas.specs.Lists.{join}
use Rattle.lemmas.specs.Compare.{overlay_one, overlay}

-- g turns items into the other form and h entries: both keep their numbers, and an entry brings the same in either form
module _ {A B E F : Type 0} (key : A → ℕ) (of : E → ℕ) (brings : E → List A) (key' : B → ℕ) (of' : F → ℕ) (brings' : F → List B) (g : A → B) (h : E → F) where
  -- an entry is the same in either form
  abbrev Alike : E → Type 0
  Alike e = (of' (h e) ≡ of e) × (brings' (h e) ≡ map g (brings e))

  -- what an entry brings, in front of what is left
  brought : (e : E) (bs : List B) (as' : List A) → Alike e → bs ≡ map g as' → brings' (h e) ++ bs ≡ map g (brings e ++ as')
  brought e bs as' k ih = rw (k.1, ih) (sym (map-append g (brings e) as'))

  -- so what is left is the same in either form
  pub overlay_map : (xs : List A) (es : List E) → ((x : A) → In x xs → key' (g x) ≡ key x) → ((e : E) → In e es → Alike e) → overlay key' of' brings' (map g xs) (map h es) ≡ map g (overlay key of brings xs es)
  unfolding overlay overlay_one join
  overlay_map [] [] p q = refl
  overlay_map [] (e ∷ es) p q = brought e (join (map brings' (map h es))) (join (map brings es)) (q e (here refl)) (overlay_map [] es p (λ d m. q d (there m)))
  overlay_map (x ∷ xs) es p q = go es (λ ds k. overlay_map xs ds (λ z m. p z (there m)) k) q
    where
      -- what is left of the others, in either form
      over : List E → List A
      over ds = overlay key of brings xs ds

      over' : List F → List B
      over' fs = overlay key' of' brings' (map g xs) fs

      go : (ds : List E) → ((cs : List E) → ((e : E) → In e cs → Alike e) → over' (map h cs) ≡ map g (over cs)) → ((e : E) → In e ds → Alike e)
          → overlay_one key' of' brings' (g x) over' (map h ds) ≡ map g (overlay_one key of brings x over ds)
      go [] ih q = ap (λ (bs : List B). g x ∷ bs) (ih [] q)
      go (e ∷ ds) ih q =
          let k = q e (here refl) in
          let later : (d : E) → In d ds → Alike d = λ d m. q d (there m) in
          rw (p x (here refl), k.0) (turn (ltb (of e) (key x)) (ltb (key x) (of e)) (go ds ih later) (ih (e ∷ ds) q) (ih ds later))
        where
          turn : (a b : Bool) → overlay_one key' of' brings' (g x) over' (map h ds) ≡ map g (overlay_one key of brings x over ds) → over' (map h (e ∷ ds)) ≡ map g (over (e ∷ ds)) → over' (map h ds) ≡ map g (over ds)
              → cond a (brings' (h e) ++ overlay_one key' of' brings' (g x) over' (map h ds)) (cond b (g x ∷ over' (map h (e ∷ ds))) (brings' (h e) ++ over' (map h ds)))
              ≡ map g (cond a (brings e ++ overlay_one key of brings x over ds) (cond b (x ∷ over (e ∷ ds)) (brings e ++ over ds)))
          turn true b on whole rest = brought e (overlay_one key' of' brings' (g x) over' (map h ds)) (overlay_one key of brings x over ds) (q e (here refl)) on
          turn false true on whole rest = ap (λ (bs : List B). g x ∷ bs) whole
          turn false false on whole rest = brought e (over' (map h ds)) (over ds) (q e (here refl)) rest
