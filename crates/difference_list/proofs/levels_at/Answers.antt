-- `levels_at` meets its contract: each turn passes one pointer more. Assumes nothing.
use Rattle.std.proofs.Common.{◌≡◌, ◌+◌, ◌-◌, ◌∙◌, arith, drop}
use native.Mathlib.Nat.{sub-zero}
use Rattle.difference_list.specs.SectionLaws.{levels_begin, pointer_passed, pointers_passed}
use Rattle.difference_list.proofs.levels_at.Goals as goal

pub loop-init : goal.loop-init
loop-init c =
    let e = c.after-next.ensures.1 in
    record { within = e.within; rest = rw sub-zero (levels_begin c.args.src.now c.after-at.result c.get_number-n.result c.after-next.result c.after-at.ensures.1 c.get_number-n.ensures e) }

pub loop-preserved : goal.loop-preserved
loop-preserved c =
    let l = c.loop in
    let n = c.get_number-n.result in
    let e = c.part_end-next.ensures.1 in
    let one : n - (l.counter + 1) ≡ n - l.counter - 1 = omega arith in
    record { within = e.within; rest = rw one (pointer_passed c.args.src.now (n - l.counter) l.next c.part_end-next.result (omega arith) e ∙ l.invariant.rest) }

pub returns : goal.returns
returns c =
    let l = c.loop in
    record { within = l.invariant.within; rest = pointers_passed (c.get_number-n.result - l.counter) (drop l.next c.args.src.now) (omega arith) ∙ l.invariant.rest }
