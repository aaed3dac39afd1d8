-- `pick_lent::compact_range` meets its contract: by its plan. Assumes nothing.
use Rattle.std.proofs.Common.{rules}
use Rattle.pick_lent.proofs.Planned.{leaves_refused, leaves_followed}
use Rattle.pick_lent.proofs.compact_range.Goals as goal

pub returns-in_err-plan : goal.returns-in_err-plan
returns-in_err-plan c =
    leaves_refused c.args.s.now _ c.range_plan.result c.range_plan.ensures c.in_err-plan.field-0.0 c.in_err-plan.was c.from_residual.result (search rules)

pub returns : goal.returns
returns c =
    leaves_followed c.args.s.now _ c.range_plan.result c.range_plan.ensures c.in_ok-plan.plan c.in_ok-plan.was c.follow.result c.follow.new.s c.follow.ensures
