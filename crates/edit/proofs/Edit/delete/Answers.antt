-- `edit::Edit::delete` meets its contract. Assumes nothing.
use Rattle.std.proofs.Common.{arith, ◌∙◌}
use lib.Seq.{set_out}
use Rattle.edit.specs.Edit.{with_deletion}
use Rattle.edit.specs.EditLaws.{one_more_least}
use Rattle.edit.proofs.Shape.{has_room}
use Rattle.edit.proofs.Edit.delete.Goals as goal

pub returns : goal.returns
unfolding with_deletion
returns c =
    let e = c.args.self in
    let more = c.saturating_add.ensures ∙ one_more_least e.deletion_count (omega arith) in
    let room = (has_room e _ c.well_formed.0).deletions in
    let out = set_out e.deletions e.deletion_count c.args.d in
    grind (arith, more, room, out)
