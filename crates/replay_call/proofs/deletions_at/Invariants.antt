-- The loop of `deletions_at`: putting the deletions that are left fills the front of the array.
use Rattle.model.specs.Snapshot.{keys_at}
use Rattle.model_replay.specs.Recording.{deletion_form}
use Rattle.model_replay.specs.Takes.{part_takes}
use Rattle.edit.specs.Edit.{blank_deletion}
use Rattle.replay_call.specs.Call.{deletion_record}
use Rattle.replay_call.specs.ReadLaws.{FilledTo}
use Rattle.replay_call.proofs.deletions_at.Given as goal

abbrev pub invariant-loop-d : goal.invariant-loop-d
invariant-loop-d l = FilledTo (part_takes keys_at 0) deletion_form.read deletion_record blank_deletion l.src l.at l.n l.n l.d-items l.next l.d-index
