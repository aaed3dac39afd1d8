-- `pick_search::asked_most` meets its contract. Assumes nothing.
use Prim.Native.Nat.{ℕ, zero, suc}
use mathlib.Core.Path.{◌≡◌, refl}
use Rattle.model.specs.File.{max_word}
use Rattle.pick_search.specs.declared.Choice.{Choice}
use Rattle.pick_search.specs.Choice.{asked_most}
use Rattle.pick_search.proofs.asked_most.Statement.{statement}
use Rattle.pick_search.proofs.asked_most.Tie as tie

returns : tie.Need-returns-then-k-eq-FIRST
unfolding asked_most
returns c = rw c.if-k-eq-FIRST.true

-- any search but the first has no limit
unlimited : (c : Choice) (k : ℕ) → (k ≡ 0 → ⊥) → max_word ≡ asked_most c k
unfolding asked_most
unlimited c zero h = absurd (h refl)
unlimited c (suc k) h = refl

returns_2 : tie.Need-returns
returns_2 c =
    let a = c.args in
    unlimited a.c a.k c.if-k-eq-FIRST.false

pub asked_most_spec : {M : Type 1} → statement M
asked_most_spec = tie.close (tie.spec returns returns_2)
