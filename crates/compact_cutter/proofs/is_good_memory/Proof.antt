-- `compact_cutter::is_good_memory` meets its contract. Assumes nothing.
use Prim.Native.Nat.{◌*◌}
use mathlib.Core.Path.{◌≡◌, sym, ◌∙◌}
use mathlib.Core.Bool.{◌&&◌}
use native.Mathlib.Omega.{arith}
use borrow.Author.Tests.{not-true, not-false, eq-eqb, ne_eqb, le-leb, lt-leb}
use lib.Dec.{leb}
use lib.ListN.{length}
use Rattle.model.specs.File.{max_files}
use Rattle.model.specs.Calls.{counts_up_to}
use Rattle.pick_answer.specs.Picked.{picked_of}
use Rattle.pick_answer.specs.PickedLaws.{well_room, well_maximum, grand_length}
use Rattle.pick_answer.proofs.Shape.{shape}
use Rattle.compact_cutter.specs.Cutter.{good_memory}
use Rattle.compact_cutter.specs.CutterLaws.{good_seen, good_fresh}
use borrow.Author.Rules.{rules}
use Rattle.compact_cutter.proofs.is_good_memory.Statement.{statement}
use Rattle.compact_cutter.proofs.is_good_memory.Tie as tie

returns : tie.Need-returns-then-m-ne0
returns c =
    let t = c in
    let a = t.args in
    sym (good_fresh a.c a.m (not-true a.m.seen t.if-not-m.true) ∙ rw (ne_eqb a.m.place 0 c.if-m-ne0.true))

returns_2 : tie.Need-returns-then-not-m
returns_2 c =
    let t = c in
    let a = t.args in
    sym (good_fresh a.c a.m (not-true a.m.seen t.if-not-m.true) ∙ rw (eq-eqb a.m.place 0 (omega arith)))

-- the array's length
long : (s : tie.Start) → length s.args.c.files ≡ max_files
long s = (shape s.args.c _ s.well_formed.0).files

-- a key was seen: the place, the count and what it counts decide
seen : (c : tie.Else-not-m) → let a = c.args in
    good_memory a.c a.m ≡ (leb a.m.place a.c.grand && leb a.m.count (10 * a.c.maximum) && counts_up_to (picked_of a.c).grand a.m.place a.m.count)
seen c =
    let s = c.before.before in
    let a = s.args in
    good_seen a.c a.m (not-false a.m.seen c.if-not-m.false) ∙ rw (grand_length a.c (long s) (well_room a.c s.requires))

returns_3 : tie.Need-returns-then-c-m
returns_3 c =
    let e = c.before.before.before in
    let a = e.args in
    sym (seen e ∙ rw (lt-leb a.m.place a.c.grand (omega arith)))

mul-if4 : tie.Need-overflow_mul-c
mul-if4 c =
    let s = c.before.before.before.before.before.before in
    omega (arith, (well_maximum s.args.c s.requires (long s)).1)

returns-4 : tie.Need-returns-then-c-m-2
returns-4 c =
    let e = c.before.before.before.before.before.before in
    let a = e.args in
    sym (seen e ∙ rw (le-leb a.m.place a.c.grand (omega arith), lt-leb a.m.count (10 * a.c.maximum) (omega arith)))

counts-up-to-requires : tie.Need-counts_up_to-requires
counts-up-to-requires c κs = search rules

returns-5 : tie.Need-returns
returns-5 c =
    let e = c.before.before.before.before.before.before.before in
    let a = e.args in
    c.counts_up_to.ensures ∙ sym (seen e ∙ rw (le-leb a.m.place a.c.grand (omega arith), le-leb a.m.count (10 * a.c.maximum) (omega arith)))

pub is_good_memory_spec : {M : Type 1} → statement M
is_good_memory_spec = tie.close (tie.spec returns returns_2 returns_3 mul-if4 returns-4 counts-up-to-requires returns-5)
