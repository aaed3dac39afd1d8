-- A fresh memory is the model's. Assumes nothing.
use Rattle.std.proofs.Common.{refl}
use Rattle.model.specs.Question.{fresh_cutter}
use Rattle.compact_cutter.specs.Cutter.{cutter_record}
use Rattle.compact_cutter.proofs.fresh_cutter.Goals as goal

pub returns : goal.returns
unfolding cutter_record fresh_cutter
returns c = refl
