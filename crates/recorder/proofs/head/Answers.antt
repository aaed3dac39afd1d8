-- `head` meets its contract: 9, then 13, then the settings and the count of calls one after another. Assumes nothing.
use Rattle.std.proofs.Common.{sym, ◌∙◌, length, arith}
use Rattle.answers.specs.declared.Refusal.TheVariants.{Counter, Output}
use Rattle.snapshot_write.specs.WritingLaws.{said_refused, said_gives}
use Rattle.recorder.specs.Recorder as recorder
use Rattle.recorder.specs.Recorder.{head_bytes}
use Rattle.recorder.specs.RecorderLaws.{roomed_short, roomed_gives, head_long_lem, head_laid, head_many, head_far, head_roomed}
use Rattle.recorder.proofs.head.Goals as goal

pub returns-then-calls-gt-MOST : goal.returns-then-calls-gt-MOST
returns-then-calls-gt-MOST c =
    let a = c.args in
    let n = length a.out.now in
    said_refused (recorder.head a.maximum a.place a.calls n) Counter a.out.now (head_many a.maximum a.place a.calls n c.if-calls-gt-MOST.true)

pub returns-then-place-calls : goal.returns-then-place-calls
returns-then-place-calls c =
    let a = c.args in
    let n = length a.out.now in
    said_refused (recorder.head a.maximum a.place a.calls n) Counter a.out.now (head_far a.maximum a.place a.calls n c.if-calls-gt-MOST.false (omega (arith, c.if-place-calls.true)))

pub returns-then-out-lt-FIRST : goal.returns-then-out-lt-FIRST
returns-then-out-lt-FIRST c =
    let a = c.args in
    let n = length a.out.now in
    let bs = head_bytes a.maximum a.place a.calls in
    let fits = head_roomed a.maximum a.place a.calls n c.if-calls-gt-MOST.false (omega (arith, c.if-place-calls.false)) in
    let short = roomed_short bs n (omega (arith, c.if-out-lt-FIRST.true, head_long_lem a.maximum a.place a.calls)) in
    said_refused (recorder.head a.maximum a.place a.calls n) Output a.out.now (fits ∙ short)

pub returns : goal.returns
returns c =
    let a = c.args in
    let out = a.out.now in
    let n = length out in
    let bs = head_bytes a.maximum a.place a.calls in
    let fits = head_roomed a.maximum a.place a.calls n c.if-calls-gt-MOST.false (omega (arith, c.if-place-calls.false)) in
    let long = head_long_lem a.maximum a.place a.calls in
    let laid = head_laid a.maximum a.place a.calls out c.put_number.new.out c.put_number-2.new.out c.put_number-3.new.out c.put_number-4.new.out (omega (arith, c.if-out-lt-FIRST.false))
    c.put_number.ensures c.put_number-2.ensures c.put_number-3.ensures c.put_number-4.ensures in
    said_gives (recorder.head a.maximum a.place a.calls n) bs out c.put_number-4.new.out 22 (fits ∙ roomed_gives bs n (omega (arith, long, c.if-out-lt-FIRST.false))) (sym long) laid
