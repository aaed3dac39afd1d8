-- `run_long` meets its contract: each turn counts one entry more, or ends. Assumes nothing.
use Rattle.std.proofs.Common.{◌∙◌, sym, arith, drop}
use Rattle.patch_scan.specs.ListedLaws.{run_begins, level_read, run_on, run_stops, run_over}
use Rattle.patch_scan.proofs.run_long.Goals as goal

pub loop-i-init : goal.loop-i-init
loop-i-init c = record { within = c.requires; counted = run_begins c.args.level c.args.n (drop c.args.at c.args.list.now) }

pub returns-then-here-level : goal.returns-then-here-level
returns-then-here-level c =
    let a = c.args in
    let l = c.loop-i in
    let e = level_read a.list.now l.next c.after-level_at.result c.get_number-here.result c.after-level_at.ensures.1 c.get_number-here.ensures in
    run_stops a.list.now a.level a.n l.i l.next (omega arith) (λ q. c.if-here-level.true (e ∙ q)) ∙ l.invariant.counted

pub loop-i-preserved : goal.loop-i-preserved
loop-i-preserved c =
    let a = c.args in
    let l = c.loop-i in
    let t = c.listed_end-next.ensures.1 in
    let e = level_read a.list.now l.next c.after-level_at.result c.get_number-here.result c.after-level_at.ensures.1 c.get_number-here.ensures in
    record { within = t.within; counted = run_on a.list.now a.level a.n l.i l.next c.listed_end-next.result (omega arith) (sym e ∙ c.if-here-level.false) t ∙ l.invariant.counted }

pub returns : goal.returns
returns c =
    let a = c.args in
    let l = c.loop-i in
    run_over a.list.now a.level a.n l.i l.next (omega arith) (omega arith) ∙ l.invariant.counted
