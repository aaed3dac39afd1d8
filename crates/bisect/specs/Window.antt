-- The middle of the places that are left in a search by halves, and the half that is left. Assumes nothing.
use Rattle.std.specs.Prelude.{ℕ, ◌+◌, ◌-◌, ◌/◌, Bool, cond}
use Rattle.bisect.specs.declared.Window.{Window}

-- the middle
abbrev pub mid_of : Window → ℕ
mid_of w = w.lo + (w.hi - w.lo) / 2

-- the half that is left: past the middle if what stands there is passed, else up to it
unfoldable pub half_of : Window → Bool → Window
half_of w passed = cond passed (record { lo = mid_of w + 1; hi = w.hi }) (record { lo = w.lo; hi = mid_of w })
