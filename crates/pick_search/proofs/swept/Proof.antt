-- `pick_search::swept` meets its contract. Assumes nothing.
use Prim.Native.Nat.{ℕ, ◌+◌}
use mathlib.Core.Path.{◌≡◌, refl, sym, ap, ◌∙◌}
use mathlib.Core.Bool.{true}
use native.Mathlib.Omega.{arith}
use lib.Dec.{ltb}
use borrow.Author.Rules.{rules}
use Rattle.lemmas.specs.Order.{clash}
use Rattle.pick_search.specs.Search.{takes_next}
use Rattle.pick_search.proofs.swept.Statement.{statement}
use Rattle.pick_search.proofs.swept.Tie as tie

takes-next-requires : tie.Need-takes_next-requires
takes-next-requires c κs = search rules

returns : tie.Need-returns-then-not-takes_next
returns c =
    let e = sym c.takes_next.ensures ∙ c.if-not-takes_next.true in
    record { ends = λ h. refl; grows = λ h. clash h e; goes_on = λ h. clash h e }

with-file-requires : tie.Need-with_file-more-requires
with-file-requires c κs = search rules

add-next : tie.Need-overflow_add-next
add-next c = search rules

returns_2 : tie.Need-returns
returns_2 c =
    let w = c.with_file-more.ensures in
    let b = c in
    let a = b.args in
    let t = takes_next a.q a.edge a.w.found a.f in
    let e : t ≡ true = ◌∙◌ {a = t} (sym {b = t} b.takes_next.ensures) (c.if-not-takes_next.false) in
    let same : c.with_file-more.result.from + c.with_file-more.result.count ≡ a.w.found.from + a.w.found.count + 1 = omega (arith, w.0, w.1) in
    record {
      ends = λ h. clash e h;
      grows = λ h. record { from = w.0; count = w.1; low = w.2; high = w.3; bytes = w.4 };
      goes_on = λ h. ap (λ (n : ℕ). ltb n a.q.to) same;
    }

pub swept_spec : {M : Type 1} → statement M
swept_spec = tie.close (tie.spec takes-next-requires returns with-file-requires add-next returns_2)
