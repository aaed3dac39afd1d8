-- `read` meets its contract: no word is of the kind X. Assumes nothing.
use Rattle.std.proofs.Common.{inr}
use Rattle.script_table.specs.FaultLaws.{none_is}
use Rattle.script_table.proofs.read.Goals as goal

pub returns-in_default : goal.returns-in_default
returns-in_default c = inr (none_is _ _ _).1
