-- `pick_found::joint_range` meets its contract. Assumes nothing.
use mathlib.Core.Path.{◌∙◌}
use borrow.Author.Rules.{rules}
use Rattle.pick_found.specs.FoundLaws.{joint_is}
use Rattle.pick_found.proofs.joint_range.Statement.{statement}
use Rattle.pick_found.proofs.joint_range.Tie as tie

joined-ends-requires : tie.Need-joined_ends-ends-requires
joined-ends-requires c κs = search rules

between-requires : tie.Need-between-requires
between-requires c κs = search rules

returns : tie.Need-returns
returns c =
    let j = c in
    let a = j.args in
    c.between.ensures ∙ joint_is a.a a.b j.joined_ends-ends.result j.joined_ends-ends.ensures.0 j.joined_ends-ends.ensures.1

pub joint_range_spec : {M : Type 1} → statement M
joint_range_spec = tie.close (tie.spec joined-ends-requires between-requires returns)
