-- `pick_plan::limit_of` meets its contract. Assumes nothing.
use mathlib.Core.Path.{sym}
use Rattle.pick_plan.specs.ChoiceLaws.{limit_first, limit_deeper}
use Rattle.pick_plan.proofs.limit_of.Statement.{statement}
use Rattle.pick_plan.proofs.limit_of.Tie as tie

returns : tie.Need-returns-then-level-eq0
returns c =
    let a = c.args in
    sym (limit_first a.maximum a.level c.if-level-eq0.true)

returns_2 : tie.Need-returns
returns_2 c =
    let a = c.args in
    sym (limit_deeper a.maximum a.level c.if-level-eq0.false)

pub limit_of_spec : {M : Type 1} → statement M
limit_of_spec = tie.close (tie.spec returns returns_2)
