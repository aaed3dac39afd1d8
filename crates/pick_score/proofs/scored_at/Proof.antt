-- `pick_score::scored_at` meets its contract: both numbers are below 2^53, so each is converted without loss. Assumes nothing.
use Prim.Native.Nat.{ℕ, ◌^◌}
use mathlib.Core.Path.{ap}
use native.Mathlib.Omega.{arith}
use borrow.Author.Rules.{rules}
use lib.Dec.{le→leb}
use lib.Ieee.{in_float}
use Rattle.model.specs.Score.{due, reported}
use Rattle.pick_score.specs.Scores.{score_at, scored_as}
use Rattle.pick_score.proofs.scored_at.Statement.{statement}
use Rattle.pick_score.proofs.scored_at.Tie as tie

limit-of-requires : tie.Need-limit_of-limit-requires
limit-of-requires c κs = search rules

int-to-float-part : tie.Need-int_to_float-part
unfolding in_float score_at
int-to-float-part c = le→leb c.args.amount (2 ^ 53) (omega (arith, c.requires.1.part))

int-to-float-whole : tie.Need-int_to_float-whole
unfolding in_float score_at
int-to-float-whole c =
    let w = c in
    le→leb w.limit_of-limit.result (2 ^ 53) (omega (arith, w.limit_of-limit.ensures, w.requires.1.whole))

returns : tie.Need-returns
unfolding scored_as score_at due reported
returns c =
    let w = c in
    ap (λ (n : ℕ). scored_as w.args.level (record { part = w.args.amount; whole = n })) w.limit_of-limit.ensures

pub scored_at_spec : {M : Type 1} → statement M
scored_at_spec = tie.close (tie.spec limit-of-requires int-to-float-part int-to-float-whole returns)
