-- `pick_answer::is_trivial` meets its contract. Assumes nothing.
use Prim.Native.Nat.{ℕ, ◌+◌, ◌*◌, min}
use mathlib.Core.Path.{◌≡◌, sym, ap, ◌∙◌}
use mathlib.Core.Bool.{◌&&◌}
use native.Mathlib.Omega.{arith}
use borrow.Author.Tests.{eq-eqb, ne_eqb}
use lib.Dec.{eqb, ltb}
use lib.ListN.{length}
use Rattle.model.specs.File.{total, max_files, max_word}
use Rattle.model.specs.Pick.{trivial}
use Rattle.records.specs.Run.{run}
use Rattle.pick_answer.specs.Picked.{picked_of}
use Rattle.pick_answer.specs.PickedLaws.{well_room, well_maximum, trivial_manual, trivial_is}
use Rattle.pick_answer.proofs.Shape.{shape}
use borrow.Author.Rules.{rules}
use Rattle.pick_answer.proofs.is_trivial.Statement.{statement}
use Rattle.pick_answer.proofs.is_trivial.Tie as tie

is-manual-requires : tie.Need-is_manual-requires
is-manual-requires c κs = search rules

returns : tie.Need-returns-then-is_manual
returns c =
    let m = c in
    sym (trivial_manual m.args.c (sym m.is_manual.ensures ∙ c.if-is_manual.true))

-- the array's length
long : (s : tie.Start) → length s.args.c.files ≡ max_files
long s = (shape s.args.c _ s.well_formed.0).files

-- not made by hand: the counts and the bytes of the grandparents decide
by_size : (c : tie.Else-is_manual) → let p = c.args.c in
    trivial (picked_of p) ≡ (eqb p.first 1 && eqb p.second 0 && ltb (min (total (run (p.first + p.second) (p.first + p.second + p.grand) p.files)) max_word) (10 * p.maximum))
by_size c =
    let s = c.before.before in
    trivial_is s.args.c s.requires (long s) (sym c.is_manual.ensures ∙ c.if-is_manual.false)

returns_2 : tie.Need-returns-then-c-ne1
returns_2 c =
    let p = c.args.c in
    sym (by_size c.before.before ∙ rw (ne_eqb p.first 1 c.if-c-ne1.true))

returns_3 : tie.Need-returns-then-c-ne0
returns_3 c =
    let e = c.before.before.before.before in
    let p = e.args.c in
    sym (by_size e ∙ rw (eq-eqb p.first 1 (omega arith), ne_eqb p.second 0 c.if-c-ne0.true))

add-inputs : tie.Need-overflow_add-inputs
add-inputs c = search rules

add-total-size : tie.Need-overflow_add-inputs-2
add-total-size c =
    let s = c in
    omega (arith, well_room s.args.c s.requires)

total-size-requires : tie.Need-total_size-bytes-requires
total-size-requires c κs = search rules

mul-result : tie.Need-overflow_mul-result
mul-result c =
    let s = c.before.before.before.before.before.before.before.before.before.before.before in
    omega (arith, (well_maximum s.args.c s.requires (long s)).1)

returns-4 : tie.Need-returns
returns-4 c =
    let e = c.before.before.before.before.before.before.before.before.before in
    let p = e.args.c in
    ap (λ (n : ℕ). ltb n (10 * p.maximum)) c.total_size-bytes.ensures ∙ sym (by_size e ∙ rw (eq-eqb p.first 1 (omega arith), eq-eqb p.second 0 (omega arith)))

pub is_trivial_spec : {M : Type 1} → statement M
is_trivial_spec = tie.close (tie.spec is-manual-requires returns returns_2 returns_3 add-inputs add-total-size total-size-requires mul-result returns-4)
