-- The loop of `put`: the bytes before this one are laid.
use Rattle.std.proofs.Common.{take}
use Rattle.script_lines.specs.Lines.{Laid}
use Rattle.script_lines.proofs.put.Given as goal

abbrev pub invariant-loop-b : goal.invariant-loop-b
invariant-loop-b l = Laid l.fn.out l.at (take l.b-index l.text) l.out l.to
