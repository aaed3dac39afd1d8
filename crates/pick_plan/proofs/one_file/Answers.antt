-- `pick_plan::one_file` meets its contract. Assumes nothing.
use Rattle.std.proofs.Common.{refl}
use Rattle.pick_plan.specs.Starts.{one_found}
use Rattle.pick_plan.proofs.one_file.Goals as goal

pub returns : goal.returns
unfolding one_found
returns c = refl
