-- What owning an array says about each element. For any element type. Assumes nothing.
use Rattle.std.specs.Prelude.{List, [], ◌∷◌, map}
use mir.Val.{Val}
use Rattle.std.specs.Borrow.{Fml}
use denote.Array.{each}
use denote.Shadow.{shadow}
use Rattle.lemmas.specs.Each.{Each}

-- an array that is a parameter
pub each_owned : {A : Type 0} (own : A → List Val → Fml) (P : A → Type 0) → ((x : A) (vs : List Val) → shadow (own x vs) → P x)
    → (xs : List A) (us : List Val) → shadow (each A own xs us) → Each P xs
unfolding Each
each_owned own P h [] us p = tt
each_owned own P h (x ∷ xs) [] p = absurd p
each_owned own P h (x ∷ xs) (u ∷ us) p = (h x (u ∷ []) p.0, each_owned own P h xs us p.1)

-- an array that is a field, where each element is owned in another form
pub each_field_owned : {A D : Type 0} (own : D → List Val → Fml) (into : A → D) (P : A → Type 0) → ((x : A) (vs : List Val) → shadow (own (into x) vs) → P x)
    → (xs : List A) (us : List Val) → shadow (each D own (map into xs) us) → Each P xs
unfolding Each
each_field_owned own into P h [] us p = tt
each_field_owned own into P h (x ∷ xs) [] p = absurd p
each_field_owned own into P h (x ∷ xs) (u ∷ us) p = (h x (u ∷ []) p.0, each_field_owned own into P h xs us p.1)
