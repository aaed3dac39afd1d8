-- `pick_search::asked` meets its contract. Assumes nothing.
use Prim.Native.Nat.{ℕ, ◌+◌}
use mathlib.Core.Path.{◌≡◌, sym, ap, ◌∙◌}
use mathlib.Core.Logic.{⊎_elim}
use mathlib.Core.Bool.{Bool, cond}
use mathlib.Core.List.{List}
use native.Mathlib.Omega.{arith}
use lib.Dec.{eqb, ltb}
use lib.ListN.{length, get_or, take, get_or-eq_default}
use borrow.Author.Tests.{lt-ltb, le-ltb}
use borrow.Author.Rules.{rules}
use Rattle.lemmas.specs.Lists.{sum}
use Rattle.lemmas.specs.Slices.{sum_upto}
use Rattle.model.specs.File.{level_count}
use Rattle.pick_range.specs.declared.Span.{Span}
use Rattle.pick_search.specs.declared.Choice.{Choice}
use Rattle.pick_search.specs.Choice.{asked_level, asked_span, asked_most, asked_edges, question_of}
use Rattle.pick_search.proofs.asked.Statement.{statement}
use Rattle.pick_search.proofs.asked.Tie as tie

asked-level-requires : tie.Need-asked_level-level-requires
asked-level-requires c κs = search rules

start-of-requires : tie.Need-start_of-from-requires
start-of-requires c κs = search rules

mul-to : tie.Need-offset_bounds-counts-level
mul-to c = search rules

array-read-to : tie.Need-bounds-counts-level
array-read-to c = search rules

add-to : tie.Need-overflow_add-to
add-to c =
    let l = c in
    omega (arith, c.start_of-from.ensures, sum_upto l.asked_level-level.result l.args.counts, l.requires.2)

asked-span-requires : tie.Need-asked_span-span-requires
asked-span-requires c κs = search rules

asked-most-requires : tie.Need-asked_most-requires
asked-most-requires c κs = search rules

asked-edges-requires : tie.Need-asked_edges-requires
asked-edges-requires c κs = search rules

-- a question, part by part
question_is : (c : Choice) (k : ℕ) (counts : List ℕ) (n from to most : ℕ) (span : Span) (edges : Bool)
    → n ≡ asked_level c.level k → from ≡ cond (ltb n level_count) (sum (take n counts)) 0 → to ≡ from + get_or counts n 0 → span ≡ asked_span c k → most ≡ asked_most c k → edges ≡ asked_edges n k
    → record { from = from; to = to; widens = eqb n 0; span = span; most = most; edges = edges } ≡ question_of c k counts
unfolding question_of
question_is c k counts n from to most span edges e f t s m d = rw (t, f, s, m, d, e)

returns : tie.Need-returns
returns c =
    let b = c in
    let i = b in
    let l = i in
    let a = l.args in
    let n = l.asked_level-level.result in
    let size : length a.counts ≡ level_count = search (rules, l.well_formed.1.1.0) in
    let from : i.if-level-lt-COUNT.from ≡ cond (ltb n level_count) (sum (take n a.counts)) 0 = ⊎_elim (λ w. w.from-is ∙ w.start_of-from.ensures ∙ rw (lt-ltb n level_count w.if-level-lt-COUNT.true)) (λ w. w.from-is ∙ rw (le-ltb n level_count w.if-level-lt-COUNT.false)) i.if-level-lt-COUNT.branch-raw in
    let to : i.if-level-lt-COUNT.to ≡ i.if-level-lt-COUNT.from + get_or a.counts n 0 =
    ⊎_elim (λ w. w.to-is ∙ ap (λ (m : ℕ). m + get_or a.counts n 0) (sym w.from-is))
    (λ w. let none : get_or a.counts n 0 ≡ 0 = get_or-eq_default a.counts 0 (omega (arith, w.if-level-lt-COUNT.false)) in omega (arith, w.from-is, w.to-is)) i.if-level-lt-COUNT.branch-raw in
    question_is a.c a.k a.counts n i.if-level-lt-COUNT.from i.if-level-lt-COUNT.to b.asked_most.result b.asked_span-span.result c.asked_edges.result l.asked_level-level.ensures from to b.asked_span-span.ensures b.asked_most.ensures c.asked_edges.ensures

pub asked_spec : {M : Type 1} → statement M
asked_spec = tie.close (tie.spec asked-level-requires start-of-requires mul-to array-read-to add-to asked-span-requires asked-most-requires asked-edges-requires returns)
