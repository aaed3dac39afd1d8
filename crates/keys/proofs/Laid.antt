-- One list of bytes copied to the start of a room of zeros. Assumes nothing.
use Prim.Native.Nat.{ℕ, ◌-◌, ◌≤◌}
use mathlib.Core.Path.{◌≡◌, ◌∙◌, ap}
use mathlib.Core.List.{List}
use lib.ListN.{length, take, replicate}
use Rattle.lemmas.specs.Fronts.{front_lent}
use Rattle.keys.specs.Key.{laid, padded}
use Rattle.keys.specs.KeyLaws.{laid_zeros}

-- a record's front laid into a room of zeros is the key with zeros past its end
pub front_laid : (room : ℕ) (x bytes : List ℕ) (n : ℕ) → length x ≤ room → x ≡ take (length x) bytes → n ≡ length x
    → laid (take (n - 0) bytes) (replicate room 0) ≡ padded room x
front_laid room x bytes n r h e = ap (λ (l : List ℕ). laid l (replicate room 0)) (front_lent x bytes n h e) ∙ laid_zeros room x r
