-- The loop of `put_pointings`: writing the pointers from this one on gives the whole section.
use Rattle.model.specs.File.{max_pointers}
use Rattle.model_replay.specs.Recording.{pointer_form}
use Rattle.edit.specs.Edit.{blank_pointing, pointing_of}
use Rattle.recorder.specs.RecorderLaws.{Lays}
use Rattle.recorder.proofs.put_pointings.Given as goal

abbrev pub invariant-loop-p : goal.invariant-loop-p
invariant-loop-p l = Lays pointer_form pointing_of max_pointers blank_pointing l.fn.e.pointing_count l.fn.e.pointings l.initial.out l.initial.next l.out l.next l.p-index
