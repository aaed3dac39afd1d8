-- The loop of `put_hex`: the bytes before this one are laid in hex.
use Rattle.std.proofs.Common.{take}
use Rattle.script_lines.specs.Lines.{Laid, hex_of}
use Rattle.script_lines.proofs.put_hex.Given as goal

abbrev pub invariant-loop-b : goal.invariant-loop-b
invariant-loop-b l = Laid l.fn.out l.at (hex_of (take l.b-index l.bytes)) l.out l.to
