-- `script_lines::put_number` meets its contract. The digits are the kit's. Assumes nothing.
use Rattle.std.proofs.Common.{arith}
use Rattle.script_lines.specs.LineLaws.{decimal_is}
use Rattle.script_lines.proofs.put_number.Goals as goal

pub returns : goal.returns
returns c =
    let d = c.decimal-length in
    rw (← decimal_is d.result c.args.n d.ensures.len (omega arith), ← d.ensures.digits) c.put.ensures
