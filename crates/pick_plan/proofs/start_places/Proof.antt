-- `pick_plan::start_places` meets its contract. Assumes nothing.
use Prim.Native.Nat.{ℕ, ◌+◌}
use mathlib.Core.Path.{ap}
use native.Mathlib.Omega.{arith}
use borrow.Author.Rules.{rules}
use lib.ListN.{get_or}
use Rattle.lemmas.specs.Slices.{sum_upto}
use Rattle.pick_plan.specs.Starts.{places_of}
use Rattle.pick_plan.proofs.start_places.Statement.{statement}
use Rattle.pick_plan.proofs.start_places.Tie as tie

returns : tie.Need-returns-then-not-due
unfolding places_of
returns c = rw c.if-not-due.true

start-of-requires : tie.Need-start_of-from-requires
start-of-requires c κs = search rules

mul-t8 : tie.Need-offset_bounds-counts-level
mul-t8 c = search rules

array-read-t11 : tie.Need-bounds-counts-level
array-read-t11 c = search rules

add-t12 : tie.Need-overflow_add-result
add-t12 c =
    let s = c in
    let a = s.args in
    rw c.start_of-from.ensures (omega (arith, sum_upto a.level a.counts, s.requires.1))

returns_2 : tie.Need-returns
unfolding places_of
returns_2 c =
    let a = c.args in
    rw (c.if-not-due.false) (ap (λ (n : ℕ). record { lo = n; hi = n + get_or a.counts a.level 0 }) c.start_of-from.ensures)

pub start_places_spec : {M : Type 1} → statement M
start_places_spec = tie.close (tie.spec returns start-of-requires mul-t8 array-read-t11 add-t12 returns_2)
