-- `compact_range` meets its contract: by what the pick on the lent store leaves. Assumes nothing.
use Rattle.std.proofs.Common.{rules}
use Rattle.pick.proofs.Leaving.{left_refused, left_pick}
use Rattle.pick.proofs.compact_range.Goals as goal

pub returns-in_err-picked : goal.returns-in_err-picked
returns-in_err-picked c =
    left_refused c.args.s _ c.compact_range.result c.compact_range.new.s c.compact_range.ensures c.in_err-picked.field-0.0 c.in_err-picked.was c.from_residual.result (search rules)

pub returns : goal.returns
returns c = left_pick c.args.s _ c.compact_range.result c.compact_range.new.s c.compact_range.ensures c.in_ok-picked.picked c.in_ok-picked.was
