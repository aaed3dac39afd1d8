-- `items_fault` ends: the place moves on. Assumes nothing.
use Rattle.std.proofs.Common.{◌-◌}
use Rattle.script_table.proofs.items_fault.Given as goal

abbrev pub decreases-loop-at : goal.decreases-loop-at
decreases-loop-at l = l.n - l.at
