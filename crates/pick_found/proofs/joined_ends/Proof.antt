-- `pick_found::joined_ends` meets its contract. Assumes nothing.
use mathlib.Core.Path.{◌≡◌, refl, sym, ap, ◌∙◌}
use mathlib.Core.Bool.{Bool, true, false, cond}
use mathlib.Core.Logic.{⊎_elim}
use Rattle.model.specs.Key.{before}
use Rattle.keys.specs.Key.{key_of}
use Rattle.pick_found.specs.FoundRun.{low_with, high_with}
use Rattle.pick_found.specs.FoundLaws.{low_only, high_only, low_both, high_both}
use borrow.Author.Rules.{rules}
use Rattle.pick_found.proofs.joined_ends.Statement.{statement}
use Rattle.pick_found.proofs.joined_ends.Tie as tie

returns : tie.Need-returns-then-m-eq0
unfolding low_with high_with
returns c = rw c.if-m-eq0.true (refl, refl)

returns_2 : tie.Need-returns-then-n-eq0
returns_2 c =
    let e = c in
    let a = e.args in
    rw c.if-n-eq0.true (sym (low_only (key_of a.ends.low) (key_of a.more.low) a.m e.if-m-eq0.false), sym (high_only (key_of a.ends.high) (key_of a.more.high) a.m e.if-m-eq0.false))

is-before-requires : tie.Need-is_before-requires
is-before-requires c κs = search rules

-- the smallest key of both
lower : (j : tie.Joined-is_before) → let a = j.args in key_of j.if-is_before.low ≡ low_with a.n (key_of a.ends.low) a.m (key_of a.more.low)
lower j =
    let b = j.before in
    let e = b.before.before.before in
    let a = e.args in
    let x = key_of a.ends.low in
    let y = key_of a.more.low in
    let is : key_of j.if-is_before.low ≡ cond (before y x) y x =
    ⊎_elim
    (λ w. let t : before y x ≡ true = sym b.is_before.ensures ∙ w.if-is_before.true in rw t (ap key_of w.low-is))
    (λ w. let t : before y x ≡ false = sym b.is_before.ensures ∙ w.if-is_before.false in rw t (ap key_of w.low-is))
    j.if-is_before.branch-raw in
    is ∙ sym (low_both x y a.m e.if-m-eq0.false a.n e.if-n-eq0.false)

is-before-requires-2 : tie.Need-is_before-requires-2
is-before-requires-2 c κs = search rules

-- the largest key of both, by how the two compare
upper : (b : tie.After-is_before-2) (t : Bool) → b.is_before-2.result ≡ t
    → let a = b.args in
    let x = key_of a.ends.high in
    let y = key_of a.more.high in
    cond t y x ≡ high_with a.n x a.m y
upper b t is =
    let e = b in
    let a = e.args in
    let x = key_of a.ends.high in
    let y = key_of a.more.high in
    sym (high_both x y a.m e.if-m-eq0.false a.n e.if-n-eq0.false ∙ rw (sym b.is_before-2.ensures ∙ is))

returns_3 : tie.Need-returns-then-is_before-2
returns_3 c = (lower c.before.before.before.before, upper c.before true c.if-is_before-2.true)

returns-4 : tie.Need-returns-else-is_before-2
returns-4 c = (lower c.before.before.before.before, upper c.before false c.if-is_before-2.false)

pub joined_ends_spec : {M : Type 1} → statement M
joined_ends_spec = tie.close (tie.spec returns returns_2 is-before-requires is-before-requires-2 returns_3 returns-4)
