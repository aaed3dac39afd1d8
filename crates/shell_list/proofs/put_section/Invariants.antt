-- The loop of `put_section`: what is told so far ends within the list.
use Rattle.std.proofs.Common.{◌≤◌, length}
use Rattle.shell_list.proofs.put_section.Given as goal

abbrev pub invariant-loop : goal.invariant-loop
invariant-loop l = l.told.from ≤ length l.list
