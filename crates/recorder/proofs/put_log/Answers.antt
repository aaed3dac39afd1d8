-- `put_log` meets its contract: a count of 0, or a count of 1 and the number. Assumes nothing.
use Rattle.std.proofs.Common.{arith}
use Rattle.recorder.specs.RecorderLaws.{keeps_long, keeps_laid, becomes_long, becomes_laid}
use Rattle.recorder.proofs.put_log.Goals as goal

pub put_number-requires : goal.put_number-requires
put_number-requires c =
    let n = keeps_long c.args.log c.in-None.is in
    omega arith

pub put_number-requires-in-Some : goal.put_number-requires-in-Some
put_number-requires-in-Some c =
    let n = becomes_long c.args.log c.in-Some.n c.in-Some.is in
    omega arith

pub put_number-requires-in-Some-2 : goal.put_number-requires-in-Some-2
put_number-requires-in-Some-2 c =
    let n = becomes_long c.args.log c.in-Some.n c.in-Some.is in
    omega arith

pub returns-in-None : goal.returns-in-None
returns-in-None c =
    let a = c.args in
    let n = keeps_long a.log c.in-None.is in
    (omega arith, keeps_laid a.log c.in-None.is a.out.now c.put_number.new.out a.at c.put_number.ensures)

pub returns-in-Some : goal.returns-in-Some
returns-in-Some c =
    let a = c.args in
    let n = becomes_long a.log c.in-Some.n c.in-Some.is in
    let p = c.put_number-in-Some in
    let q = c.put_number-in-Some-2 in
    (omega arith, becomes_laid a.log c.in-Some.n c.in-Some.is a.out.now p.new.out q.new.out a.at (omega arith) p.ensures q.ensures)
