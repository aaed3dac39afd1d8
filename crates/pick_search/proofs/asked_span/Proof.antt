-- `pick_search::asked_span` meets its contract. Assumes nothing.
use Prim.Native.Nat.{ℕ, zero, suc, ◌<◌}
use mathlib.Core.Path.{◌≡◌, refl, ◌∙◌}
use borrow.Author.Rules.{rules}
use Rattle.pick_found.specs.FoundRun.{joint_found}
use Rattle.pick_search.specs.declared.Choice.{Choice}
use Rattle.pick_search.specs.Choice.{asked_span}
use Rattle.pick_search.proofs.asked_span.Statement.{statement}
use Rattle.pick_search.proofs.asked_span.Tie as tie

returns : tie.Need-returns-then-k-eq-FIRST
unfolding asked_span
returns c = rw c.if-k-eq-FIRST.true

range-of-requires : tie.Need-range_of-requires
range-of-requires c κs = search rules

returns_2 : tie.Need-returns-then-k-eq-SECOND
unfolding asked_span
returns_2 c = c.range_of.ensures ∙ rw c.if-k-eq-SECOND.true

range-of-requires-2 : tie.Need-range_of-requires-then-k-eq-AGAIN
range-of-requires-2 c κs = search rules

returns_3 : tie.Need-returns-then-k-eq-AGAIN
unfolding asked_span
returns_3 c = c.range_of-then-k-eq-AGAIN.ensures ∙ rw c.if-k-eq-AGAIN.true

joint-range-requires : tie.Need-joint_range-requires
joint-range-requires c κs = search rules

-- the third search and the fifth ask by the joint range
joint : (c : Choice) (k : ℕ) → k < 5 → (k ≡ 0 → ⊥) → (k ≡ 1 → ⊥) → (k ≡ 3 → ⊥) → joint_found c.first c.second ≡ asked_span c k
unfolding asked_span
joint c zero h a b d = absurd (a refl)
joint c (suc zero) h a b d = absurd (b refl)
joint c (suc (suc zero)) h a b d = refl
joint c (suc (suc (suc zero))) h a b d = absurd (d refl)
joint c (suc (suc (suc (suc k)))) h a b d = refl

returns-4 : tie.Need-returns
returns-4 c =
    let third = c in
    let second = third in
    let first = second in
    let s = first in
    c.joint_range.ensures ∙ joint s.args.c s.args.k s.requires first.if-k-eq-FIRST.false second.if-k-eq-SECOND.false third.if-k-eq-AGAIN.false

pub asked_span_spec : {M : Type 1} → statement M
asked_span_spec = tie.close (tie.spec returns range-of-requires returns_2 range-of-requires-2 returns_3 joint-range-requires returns-4)
