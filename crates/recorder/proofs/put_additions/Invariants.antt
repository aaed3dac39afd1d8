-- The loop of `put_additions`: writing the additions from this one on gives the whole section.
use Rattle.model.specs.File.{max_additions}
use Rattle.model_replay.specs.Recording.{addition_form}
use Rattle.edit.specs.Edit.{blank_addition, addition_of}
use Rattle.recorder.specs.RecorderLaws.{Lays}
use Rattle.recorder.proofs.put_additions.Given as goal

abbrev pub invariant-loop-a : goal.invariant-loop-a
invariant-loop-a l = Lays addition_form addition_of max_additions blank_addition l.fn.e.addition_count l.fn.e.additions l.initial.out l.initial.next l.out l.next l.a-index
