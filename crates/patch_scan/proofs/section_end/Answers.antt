-- `section_end` meets its contract: each turn passes one entry more. Assumes nothing.
use Rattle.std.proofs.Common.{◌≡◌, ◌+◌, ◌-◌, ◌∙◌, arith, drop}
use native.Mathlib.Nat.{sub-zero}
use Rattle.patch_scan.specs.ListedLaws.{each_begins, each_passed, each_over}
use Rattle.patch_scan.proofs.section_end.Goals as goal

pub loop-init : goal.loop-init
loop-init c =
    let a = c.args in
    let e = c.after-next.ensures.1 in
    record { within = e.within; rest = rw sub-zero (each_begins a.pointer a.list.now a.at c.get_number-n.result c.after-next.result c.get_number-n.ensures e) }

pub loop-preserved : goal.loop-preserved
loop-preserved c =
    let a = c.args in
    let l = c.loop in
    let n = c.get_number-n.result in
    let e = c.listed_end-next.ensures.1 in
    let one : n - (l.counter + 1) ≡ n - l.counter - 1 = omega arith in
    record { within = e.within; rest = rw one (each_passed a.pointer a.list.now (n - l.counter) l.next c.listed_end-next.result (omega arith) e ∙ l.invariant.rest) }

pub returns : goal.returns
returns c =
    let l = c.loop in
    record { within = l.invariant.within; rest = each_over c.args.pointer (c.get_number-n.result - l.counter) (drop l.next c.args.list.now) (omega arith) ∙ l.invariant.rest }
