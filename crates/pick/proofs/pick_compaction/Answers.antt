-- `pick_compaction` meets its contract: by what the pick on the lent store leaves. Assumes nothing.
use Rattle.std.proofs.Common.{rules}
use Rattle.pick.proofs.Leaving.{left_refused, left_pick}
use Rattle.pick.proofs.pick_compaction.Goals as goal

pub returns-in_err-picked : goal.returns-in_err-picked
returns-in_err-picked c =
    left_refused c.args.s _ c.pick_compaction.result c.pick_compaction.new.s c.pick_compaction.ensures c.in_err-picked.field-0.0 c.in_err-picked.was c.from_residual.result (search rules)

pub returns : goal.returns
returns c = left_pick c.args.s _ c.pick_compaction.result c.pick_compaction.new.s c.pick_compaction.ensures c.in_ok-picked.picked c.in_ok-picked.was
