-- `levels::are_well_formed` meets its contract. Assumes nothing.
use Prim.Native.Nat.{ℕ, ◌-◌}
use mathlib.Core.Path.{◌≡◌, sym, ap, ◌∙◌}
use native.Mathlib.Omega.{arith}
use borrow.Author.Rules.{rules}
use borrow.Author.Tests.{not-true, not-false}
use lib.ListN.{length, take}
use Rattle.lemmas.specs.Lists.{distinct}
use Rattle.model.specs.File.{max_files}
use Rattle.levels.specs.Levels.{tells_well}
use Rattle.levels.proofs.are_well_formed.Statement.{statement}
use Rattle.levels.proofs.are_well_formed.Tie as tie

returns : tie.Need-returns-then-not-v
unfolding tells_well
returns c = let v = c.args.v in sym (rw (not-true v.arranged c.if-not-v.true))

sub-all-distinct : tie.Need-slice_bounds-all_distinct-count
sub-all-distinct c = search rules

part-all-distinct-start : tie.Need-slice_bounds-all_distinct-start
part-all-distinct-start c = search rules

part-all-distinct-end : tie.Need-slice_bounds-all_distinct-end
part-all-distinct-end c =
    let room : length c.args.v.numbers ≡ max_files = search rules in
    omega (arith, room)

all-distinct-requires : tie.Need-all_distinct-requires
all-distinct-requires c κs = search rules

returns_2 : tie.Need-returns
unfolding tells_well
returns_2 c =
    let e = c in
    let v = e.args.v in
    let n : v.total - 0 ≡ v.total = omega arith in
    c.all_distinct.ensures ∙ ap (λ (k : ℕ). distinct (take k v.numbers)) n ∙ sym (rw (not-false v.arranged e.if-not-v.false))

pub are_well_formed_spec : {M : Type 1} → statement M
are_well_formed_spec = tie.close (tie.spec returns sub-all-distinct part-all-distinct-start part-all-distinct-end all-distinct-requires returns_2)
