-- `pick_score::finalize` meets its contract. Assumes nothing.
use Prim.Native.Nat.{ℕ, ◌<◌}
use mathlib.Core.Path.{ap, ◌∙◌}
use native.Mathlib.Omega.{arith}
use borrow.Author.Rules.{rules}
use Rattle.model.specs.File.{last_level}
use Rattle.pick_score.specs.Scores.{scores_by, scored_as, scored_by, amounts_by}
use Rattle.pick_score.specs.ScoresLaws.{amounts_lossless, best_below}
use Rattle.pick_score.proofs.finalize.Statement.{statement}
use Rattle.pick_score.proofs.finalize.Tie as tie

-- the level's number is below 6
below : (c : tie.After-best_level-level) → c.best_level-level.result < last_level
unfolding amounts_by
below c =
    let a = c.args in
    rw c.best_level-level.ensures (best_below (scores_by (amounts_by a.bytes a.counts)) 5 0 1 (omega arith))

array-read-amounts : tie.Need-bounds-counts-0
array-read-amounts c = search rules

array-write-amounts : tie.Need-bounds-amounts-0
array-write-amounts c = search rules

best-level-requires : tie.Need-best_level-level-requires
unfolding amounts_by
best-level-requires c κs = c.requires

mul-scored-at : tie.Need-offset_bounds-amounts-level
mul-scored-at c = omega (arith, below c)

array-read-scored-at : tie.Need-bounds-amounts-level
array-read-scored-at c = omega (arith, below c)

scored-at-requires : tie.Need-scored_at-requires
unfolding amounts_by
scored-at-requires c κs =
    let s = c in
    (below c, amounts_lossless (amounts_by s.args.bytes s.args.counts) c.best_level-level.result s.requires (below c))

returns : tie.Need-returns
unfolding amounts_by scored_by scores_by
returns c =
    let l = c in
    let a = l.args in
    c.scored_at.ensures ∙ ap (λ (k : ℕ). scored_as k (scores_by (amounts_by a.bytes a.counts) k)) l.best_level-level.ensures

pub finalize_spec : {M : Type 1} → statement M
finalize_spec = tie.close (tie.spec array-read-amounts array-write-amounts best-level-requires mul-scored-at array-read-scored-at scored-at-requires returns)
