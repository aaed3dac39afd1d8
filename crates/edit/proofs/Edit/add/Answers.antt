-- `edit::Edit::add` meets its contract. Assumes nothing.
use Rattle.std.proofs.Common.{arith, ◌∙◌}
use lib.Seq.{set_out}
use Rattle.edit.specs.Edit.{with_addition}
use Rattle.edit.specs.EditLaws.{one_more_least}
use Rattle.edit.proofs.Shape.{has_room}
use Rattle.edit.proofs.Edit.add.Goals as goal

pub returns : goal.returns
unfolding with_addition
returns c =
    let e = c.args.self in
    let more = c.saturating_add.ensures ∙ one_more_least e.addition_count (omega arith) in
    let room = (has_room e _ c.well_formed.0).additions in
    let out = set_out e.additions e.addition_count c.args.a in
    grind (arith, more, room, out)
