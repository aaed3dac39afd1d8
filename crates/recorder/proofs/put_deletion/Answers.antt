-- `put_deletion` meets its contract: its level, then its number. Assumes nothing.
use Rattle.std.proofs.Common.{arith}
use Rattle.recorder.specs.RecorderLaws.{deletion_long, deletion_laid}
use Rattle.recorder.proofs.put_deletion.Goals as goal

pub put_number-requires : goal.put_number-requires
put_number-requires c =
    let n = deletion_long c.args.d in
    omega arith

pub put_number-requires-2 : goal.put_number-requires-2
put_number-requires-2 c =
    let n = deletion_long c.args.d in
    omega arith

pub returns : goal.returns
returns c =
    let a = c.args in
    let n = deletion_long a.d in
    (omega arith, deletion_laid a.d a.out.now c.put_number.new.out c.put_number-2.new.out a.at c.requires c.put_number.ensures c.put_number-2.ensures)
