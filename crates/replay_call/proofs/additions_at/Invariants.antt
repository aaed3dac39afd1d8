-- The loop of `additions_at`: putting the additions that are left fills the front of the array.
use Rattle.std.proofs.Common.{◌+◌}
use Rattle.model.specs.Snapshot.{number_long, keys_at}
use Rattle.model_replay.specs.Recording.{addition_form}
use Rattle.model_replay.specs.Takes.{part_takes}
use Rattle.edit.specs.Edit.{blank_addition}
use Rattle.replay_call.specs.Call.{addition_record}
use Rattle.replay_call.specs.ReadLaws.{FilledTo}
use Rattle.replay_call.proofs.additions_at.Given as goal

abbrev pub invariant-loop-a : goal.invariant-loop-a
invariant-loop-a l = FilledTo (part_takes (number_long + keys_at) 2) addition_form.read addition_record blank_addition l.src l.at l.n l.n l.a-items l.next l.a-index
