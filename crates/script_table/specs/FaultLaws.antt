-- What a fault names. Assumes nothing.
use Rattle.std.specs.Prelude.{ℕ, ◌≡◌, refl, false, List}
use Rattle.std.proofs.Common.{◌∙◌, inl, inr}
use Rattle.script_table.specs.declared.Fault.{Fault}
use Rattle.script_table.specs.Faults.{of_numbers, fits_snapshots, fits_other, fits, Named}

-- of the kinds W, X and Y no word is
pub none_is : (line : List ℕ) (from to : ℕ) → (fits line from to 87 ≡ false) × (fits line from to 88 ≡ false) × (fits line from to 89 ≡ false)
unfolding fits of_numbers fits_other fits_snapshots
none_is line from to = (refl, refl, refl)

-- a fault that names the same run and the same kind
pub named_as : (line : List ℕ) (f g : Fault) → (g.kind ≡ f.kind) × (g.from ≡ f.from) × (g.to ≡ f.to) → Named line f → Named line g
named_as line f g h (inl e) = inl (h.0 ∙ e)
named_as line f g h (inr e) = inr (rw (h.0, h.1, h.2) e)
