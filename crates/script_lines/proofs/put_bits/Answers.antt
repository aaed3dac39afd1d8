-- `script_lines::put_bits` meets its contract. The digits are the kit's. Assumes nothing.
use Rattle.std.proofs.Common.{arith}
use Rattle.script_lines.specs.LineLaws.{bits_are}
use Rattle.script_lines.proofs.put_bits.Goals as goal

pub returns : goal.returns
returns c =
    let d = c.hex-length in
    rw (← bits_are d.result c.args.n d.ensures.len (omega arith), ← d.ensures.digits) c.put.ensures
