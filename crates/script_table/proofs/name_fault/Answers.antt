-- `name_fault` meets its contract: no word is of the kind W. Assumes nothing.
use Rattle.std.proofs.Common.{inr}
use Rattle.script_table.specs.FaultLaws.{none_is}
use Rattle.script_table.proofs.name_fault.Goals as goal

pub returns : goal.returns
returns c = inr (none_is _ _ _).0
