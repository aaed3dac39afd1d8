-- The loop of `put_deletions`: writing the deletions from this one on gives the whole section.
use Rattle.model.specs.File.{max_deletions}
use Rattle.model_replay.specs.Recording.{deletion_form}
use Rattle.edit.specs.Edit.{blank_deletion, deletion_of}
use Rattle.recorder.specs.RecorderLaws.{Lays}
use Rattle.recorder.proofs.put_deletions.Given as goal

abbrev pub invariant-loop-d : goal.invariant-loop-d
invariant-loop-d l = Lays deletion_form deletion_of max_deletions blank_deletion l.fn.e.deletion_count l.fn.e.deletions l.initial.out l.initial.next l.out l.next l.d-index
