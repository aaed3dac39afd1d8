-- `put_edit` meets its contract: a tag, then four sections. Assumes nothing.
use Rattle.std.proofs.Common.{arith}
use Rattle.recorder.specs.RecorderLaws.{edit_long, edit_laid}
use Rattle.recorder.proofs.put_edit.Goals as goal

pub put_number-requires : goal.put_number-requires
put_number-requires c = omega (arith, c.requires, edit_long c.args.e)

pub put_pointings-a-requires : goal.put_pointings-a-requires
put_pointings-a-requires c = omega (arith, c.requires, edit_long c.args.e, c.put_number.auto.out)

pub put_deletions-b-requires : goal.put_deletions-b-requires
put_deletions-b-requires c =
    let p = c.put_pointings-a in
    omega (arith, c.requires, edit_long c.args.e, c.put_number.auto.out, p.auto.out, p.ensures.0)

pub put_additions-c-requires : goal.put_additions-c-requires
put_additions-c-requires c =
    let p = c.put_pointings-a in
    let d = c.put_deletions-b in
    omega (arith, c.requires, edit_long c.args.e, c.put_number.auto.out, p.auto.out, p.ensures.0, d.auto.out, d.ensures.0)

pub put_log-requires : goal.put_log-requires
put_log-requires c =
    let p = c.put_pointings-a in
    let d = c.put_deletions-b in
    let a = c.put_additions-c in
    omega (arith, c.requires, edit_long c.args.e, c.put_number.auto.out, p.auto.out, p.ensures.0, d.auto.out, d.ensures.0, a.auto.out, a.ensures.0)

pub returns : goal.returns
returns c =
    let p = c.put_pointings-a in
    let d = c.put_deletions-b in
    let a = c.put_additions-c in
    let l = c.put_log in
    edit_laid c.args.e c.args.out.now c.put_number.new.out p.new.out d.new.out a.new.out l.new.out
    c.args.at p.result d.result a.result l.result
    c.requires c.put_number.ensures p.ensures.1 p.ensures.0 d.ensures.1 d.ensures.0 a.ensures.1 a.ensures.0 l.ensures.1 l.ensures.0
