-- `pick_answer::are_distinct` meets its contract. Assumes nothing.
use Prim.Native.Nat.{◌+◌}
use mathlib.Core.Path.{◌≡◌, sym, ap, ◌∙◌}
use native.Mathlib.Omega.{arith}
use borrow.Author.Rules.{rules}
use lib.Seq.{slice}
use Rattle.lemmas.specs.Lists.{distinct}
use Rattle.pick_answer.specs.Picked.{distinct_runs}
use Rattle.pick_answer.specs.PickedLaws.{lent_slice}
use Rattle.pick_answer.proofs.are_distinct.Statement.{statement}
use Rattle.pick_answer.proofs.are_distinct.Tie as tie

add-inputs : tie.Need-overflow_add-inputs
add-inputs c = search rules

add-all : tie.Need-overflow_add-all
add-all c = search rules

sub-all-distinct : tie.Need-slice_bounds-all_distinct-count
sub-all-distinct c = search rules

part-all-distinct-start : tie.Need-slice_bounds-all_distinct-start
part-all-distinct-start c = search rules

part-all-distinct-end : tie.Need-slice_bounds-all_distinct-end
part-all-distinct-end c = search rules

all-distinct-requires : tie.Need-all_distinct-requires
all-distinct-requires c κs = search rules

-- what is lent to all_distinct is a run of the column
first_is : (c : tie.After-all_distinct) → let a = c.args in c.all_distinct.result ≡ distinct (slice 0 a.first a.column)
first_is c = let a = c.args in c.all_distinct.ensures ∙ ap distinct (lent_slice 0 a.first a.column (omega arith))

returns : tie.Need-returns-then-not-all_distinct
unfolding distinct_runs
returns c =
    let t = sym (first_is c.before) ∙ c.if-not-all_distinct.true in
    sym (rw t)

mul-all-distinct : tie.Need-offset_bounds-column-first
mul-all-distinct c = search rules

sub-all-distinct-2 : tie.Need-slice_bounds-all_distinct-count-2
sub-all-distinct-2 c = search rules

part-all-distinct-start-2 : tie.Need-slice_bounds-all_distinct-start-2
part-all-distinct-start-2 c = search rules

part-all-distinct-end-2 : tie.Need-slice_bounds-all_distinct-end-2
part-all-distinct-end-2 c = search rules

all-distinct-requires-2 : tie.Need-all_distinct-requires-2
all-distinct-requires-2 c κs = search rules

second_is : (c : tie.After-all_distinct-2) → let a = c.args in c.all_distinct-2.result ≡ distinct (slice a.first (a.first + a.second) a.column)
second_is c =
    let a = c.args in
    c.all_distinct-2.ensures ∙ ap distinct (lent_slice a.first (a.first + a.second) a.column (omega arith))

returns_2 : tie.Need-returns-then-not-all_distinct-2
unfolding distinct_runs
returns_2 c =
    let e = c in
    let t = sym (first_is e.before.before.before.before) ∙ e.if-not-all_distinct.false in
    let u = sym (second_is c.before) ∙ c.if-not-all_distinct-2.true in
    sym (rw (t, u))

mul-all-distinct-2 : tie.Need-offset_bounds-column-inputs
mul-all-distinct-2 c = search rules

sub-all-distinct-3 : tie.Need-slice_bounds-all_distinct-count-3
sub-all-distinct-3 c = search rules

part-all-distinct-start-3 : tie.Need-slice_bounds-all_distinct-start-3
part-all-distinct-start-3 c = search rules

part-all-distinct-end-3 : tie.Need-slice_bounds-all_distinct-end-3
part-all-distinct-end-3 c = search rules

all-distinct-requires-3 : tie.Need-all_distinct-requires-3
all-distinct-requires-3 c κs = search rules

third_is : (c : tie.After-all_distinct-3) → let a = c.args in
    c.all_distinct-3.result ≡ distinct (slice (a.first + a.second) (a.first + a.second + a.grand) a.column)
third_is c =
    let a = c.args in
    c.all_distinct-3.ensures ∙ ap distinct (lent_slice (a.first + a.second) (a.first + a.second + a.grand) a.column (omega arith))

returns_3 : tie.Need-returns
unfolding distinct_runs
returns_3 c =
    let f = c in
    let e = f in
    let t = sym (first_is e.before.before.before.before.before.before) ∙ e.if-not-all_distinct.false in
    let u = sym (second_is f.before.before.before) ∙ f.if-not-all_distinct-2.false in
    sym (rw (t, u, ← third_is c))

pub are_distinct_spec : {M : Type 1} → statement M
are_distinct_spec = tie.close (tie.spec add-inputs add-all sub-all-distinct part-all-distinct-start part-all-distinct-end all-distinct-requires returns mul-all-distinct sub-all-distinct-2 part-all-distinct-start-2 part-all-distinct-end-2 all-distinct-requires-2 returns_2 mul-all-distinct-2 sub-all-distinct-3 part-all-distinct-start-3 part-all-distinct-end-3 all-distinct-requires-3 returns_3)
