-- What `stays` needs in each case, and the loop of `stay` at each turn. Assumes nothing.
use Prim.Native.Nat.{ℕ, ◌+◌, ◌≤◌, ◌<◌}
use mathlib.Core.Path.{◌≡◌, refl}
use mathlib.Core.Bool.{Bool, true, false, not}
use mathlib.Core.List.{List, [], ◌∷◌}
use native.Mathlib.Numerals.{add-one}
use lib.ListN.{length, get_or, drop}
use lib.Seq.{slice}
use Rattle.lemmas.specs.Lists.{keep}
use Rattle.lemmas.specs.Slices.{parts, parts_turn, parts_over}
use Rattle.edit_stayers.specs.Stayers.{has_pair, stays_by, stayers_by}

-- ---- a file of a level stays
module _ (dl dn al an : List ℕ) (l n : ℕ) where
  -- deleted there: it stays if it is added there
  pub stays_added : has_pair l n dl dn ≡ true → stays_by dl dn al an l n ≡ has_pair l n al an
  unfolding stays_by
  stays_added t = rw t (twice (has_pair l n al an))
    where
      twice : (b : Bool) → not (not b) ≡ b
      twice true = refl
      twice false = refl

  -- not deleted there: it stays
  pub stays_untouched : has_pair l n dl dn ≡ false → stays_by dl dn al an l n ≡ true
  unfolding stays_by
  stays_untouched t = rw t

-- ---- what stays of levels one after another, from a level on
module _ {A : Type 0} (number : A → ℕ) (test : ℕ → ℕ → Bool) (all : List A) (counts : List ℕ) (level from : ℕ) where
  -- what stays of that level, and of those after it
  pub stayers_turn : level < length counts
      → stayers_by number test level (parts (drop from all) (drop level counts))
      ≡ keep (λ x. test level (number x)) (slice from (from + get_or counts level 0) all)
      ∷ stayers_by number test (level + 1) (parts (drop (from + get_or counts level 0) all) (drop (level + 1) counts))
  unfolding stayers_by
  stayers_turn h = rw (parts_turn all counts level from h, add-one level)

  -- no level is left
  pub stayers_over : length counts ≤ level → stayers_by number test level (parts (drop from all) (drop level counts)) ≡ []
  unfolding stayers_by
  stayers_over h = rw (parts_over all counts level from h)
