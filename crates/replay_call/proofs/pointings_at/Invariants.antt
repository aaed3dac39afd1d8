-- The loop of `pointings_at`: putting the pointers that are left fills the front of the array.
use Rattle.model.specs.Snapshot.{number_long}
use Rattle.model_replay.specs.Recording.{pointer_form}
use Rattle.model_replay.specs.Takes.{part_takes}
use Rattle.edit.specs.Edit.{blank_pointing}
use Rattle.replay_call.specs.Call.{pointing_record}
use Rattle.replay_call.specs.ReadLaws.{FilledTo}
use Rattle.replay_call.proofs.pointings_at.Given as goal

abbrev pub invariant-loop-p : goal.invariant-loop-p
invariant-loop-p l = FilledTo (part_takes number_long 1) pointer_form.read pointing_record blank_pointing l.src l.at l.n l.n l.p-items l.next l.p-index
