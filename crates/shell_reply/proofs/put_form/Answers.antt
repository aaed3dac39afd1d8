-- `put_form` meets its contract: each turn lays what one byte of the form stands for. Assumes nothing.
use Rattle.std.proofs.Common.{arith}
use Rattle.shell_reply.specs.ReplyLaws.{ends, form_turn, form_end}
use Rattle.shell_reply.proofs.put_form.Goals as goal

pub loop-mark-init : goal.loop-mark-init
loop-mark-init c = λ o r l. l

pub loop-mark-preserved : goal.loop-mark-preserved
loop-mark-preserved c =
    let l = c.loop-mark in
    form_turn c.args.numbers c.args.form.now l.mark-index l.k _ _ (omega arith) c.nth.ensures c.next_place-k.ensures l.invariant c.put_mark-at.ensures

pub returns : goal.returns
returns c = let l = c.loop-mark in ends l.invariant (form_end c.args.numbers c.args.form.now l.mark-index l.k (omega arith))
