-- Laws of a search by halves: where the middle is, and that fewer places are left. Assumes nothing.
use Rattle.std.specs.Prelude.{◌-◌, ◌≤◌, ◌<◌, Bool, true, false}
use Rattle.std.proofs.Common.{arith}
use Rattle.bisect.specs.declared.Window.{Window}
use Rattle.bisect.specs.Window.{mid_of, half_of}

-- the middle is not before the places that are left
pub mid_least : (w : Window) → w.lo ≤ mid_of w
mid_least w = omega arith

-- it is not after them
pub mid_below : (w : Window) → w.lo < w.hi → mid_of w < w.hi
mid_below w h = omega arith

-- fewer places are left
pub half_nearer : (w : Window) → w.lo < w.hi → (b : Bool) → (half_of w b).hi - (half_of w b).lo < w.hi - w.lo
unfolding half_of
half_nearer w h true = omega (arith, mid_least w, mid_below w h)
half_nearer w h false = omega (arith, mid_least w, mid_below w h)
