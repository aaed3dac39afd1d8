-- `item_fault` meets its contract: no word is of the kind Y, and the fault of a part names the same run. Assumes nothing.
use Rattle.std.proofs.Common.{inr}
use Rattle.script_table.specs.FaultLaws.{none_is, named_as}
use Rattle.script_table.proofs.item_fault.Goals as goal

pub returns : goal.returns
returns c = named_as _ c.fault_of.result c.of_item.result c.of_item.ensures c.fault_of.ensures

pub returns-in_default : goal.returns-in_default
returns-in_default c = inr (none_is _ _ _).2
