-- `put_column` meets its contract: the first number, then each turn one more. Assumes nothing.
use Rattle.std.proofs.Common.{◌∷◌, refl, arith}
use Rattle.shell_reply.specs.ReplyLaws.{ends, more_turn, more_end, numbers_none, first_laid}
use Rattle.shell_reply.proofs.put_column.Goals as goal

pub returns-in_default : goal.returns-in_default
returns-in_default c = rw (numbers_none c.args.column.now c.in_default.ensures.cases) c.put_byte.ensures

pub loop-n-init : goal.loop-n-init
loop-n-init c =
    let first = c.in-Some.first.now in
    let others = c.in-Some.others.now in
    λ o r l. rw c.in-Some.ensures.cases.0 (first_laid (first ∷ others) first (omega arith) refl c.put_number-at.ensures l)

pub loop-n-preserved : goal.loop-n-preserved
loop-n-preserved c = more_turn c.in-Some.others.now c.loop-n.n-index _ (omega arith) refl c.loop-n.invariant c.put_more-at.ensures

pub returns : goal.returns
returns c = ends c.loop-n.invariant (more_end c.in-Some.others.now c.loop-n.n-index (omega arith))
