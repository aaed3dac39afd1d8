-- `edit::Edit::point` meets its contract. Assumes nothing.
use Rattle.std.proofs.Common.{arith, ◌∙◌}
use lib.Seq.{set_out}
use Rattle.edit.specs.Edit.{with_pointing}
use Rattle.edit.specs.EditLaws.{one_more_least}
use Rattle.edit.proofs.Shape.{has_room}
use Rattle.edit.proofs.Edit.point.Goals as goal

pub returns : goal.returns
unfolding with_pointing
returns c =
    let e = c.args.self in
    let more = c.saturating_add.ensures ∙ one_more_least e.pointing_count (omega arith) in
    let room = (has_room e _ c.well_formed.0).pointings in
    let out = set_out e.pointings e.pointing_count c.args.p in
    grind (arith, more, room, out)
