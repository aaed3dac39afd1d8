-- `lay_counters` meets its contract: each turn writes one entry more, where the counters differ. Assumes nothing.
use Rattle.std.proofs.Common.{◌≡◌, ◌+◌, ◌-◌, ◌≤◌, ◌∙◌, sym, ap, arith, length, take, drop}
use Rattle.lemmas.specs.Lists.{join}
use Rattle.lemmas.specs.Laying.{none_laid, none_length}
use Rattle.difference_scan.specs.Listing.{counter_entry}
use Rattle.difference_list.specs.SectionLaws.{section_long, front_laid, turn_laid, turn_length, turn_count, counter_none, counter_one, counter_lent, counters_from, counters_turn, counters_over_lem}
use Rattle.difference_list.proofs.lay_counters.Goals as goal
use Rattle.difference_list.proofs.lay_counters.Goals.{then-not-same, else-not-same}

pub overflow_add-next : goal.overflow_add-next
overflow_add-next c = omega (arith, section_long (counters_from 0 c.args.left.now c.args.right.now))

pub put_counter-next-requires : goal.put_counter-next-requires
put_counter-next-requires c =
    let a = c.args in
    let l = c.loop-i in
    let same = c.same-same.result in
    let bytes = take (c.after-b_end.result - c.after-b.result) (drop c.after-b.result a.right.now) in
    let rest = counters_from (l.i + 1) a.left.now a.right.now in
    let all = counters_from l.i a.left.now a.right.now in
    let x = counter_lent a.left.now l.i c.after-a.result c.after-a_end.result c.after-a.ensures.1 c.after-a_end.ensures.0 c.after-a_end.ensures.1 in
    let y = counter_lent a.right.now l.i c.after-b.result c.after-b_end.result c.after-b.ensures.1 c.after-b_end.ensures.0 c.after-b_end.ensures.1 in
    let turn = counters_turn a.left.now a.right.now (take (c.after-a_end.result - c.after-a.result) (drop c.after-a.result a.left.now)) bytes l.i same (omega arith) x y c.same-same.ensures in
    let entry = counter_entry l.i same bytes in
    let room = section_long (counters_from 0 a.left.now a.right.now) in
    let long = turn_length entry rest all turn in
    omega arith

pub loop-i-preserved : goal.loop-i-preserved
loop-i-preserved c =
    let a = c.args in
    let l = c.loop-i in
    let same = c.same-same.result in
    let bytes = take (c.after-b_end.result - c.after-b.result) (drop c.after-b.result a.right.now) in
    let rest = counters_from (l.i + 1) a.left.now a.right.now in
    let all = counters_from l.i a.left.now a.right.now in
    let x = counter_lent a.left.now l.i c.after-a.result c.after-a_end.result c.after-a.ensures.1 c.after-a_end.ensures.0 c.after-a_end.ensures.1 in
    let y = counter_lent a.right.now l.i c.after-b.result c.after-b_end.result c.after-b.ensures.1 c.after-b_end.ensures.0 c.after-b_end.ensures.1 in
    let turn = counters_turn a.left.now a.right.now (take (c.after-a_end.result - c.after-a.result) (drop c.after-a.result a.left.now)) bytes l.i same (omega arith) x y c.same-same.ensures in
    let entry = counter_entry l.i same bytes in
    let room = section_long (counters_from 0 a.left.now a.right.now) in
    let long = turn_length entry rest all turn in
    let count = turn_count entry rest all turn in
    let fits : l.next + length (join entry) ≤ length l.out = omega arith in
    let k = c.put_counter-next.ensures in
    let ends : c.put_counter-next.result + length (join rest) ≡ a.at + 2 + length (join (counters_from 0 a.left.now a.right.now)) = omega arith in
    let laid = turn_laid entry rest all turn l.out c.put_counter-next.new.out l.next c.put_counter-next.result fits k.1 k.0 ∙ l.invariant.written in
    elim c.if-not-same.branch [
      | then-not-same w ↦ record { few = omega arith; to_come = ends; written = laid; counted = omega (arith, counter_one l.i same bytes w.if-not-same.true) }
      | else-not-same w ↦ record { few = omega arith; to_come = ends; written = laid; counted = omega (arith, counter_none l.i same bytes w.if-not-same.false) }
    ]

pub put_number-requires : goal.put_number-requires
put_number-requires c = omega (arith, section_long (counters_from 0 c.args.left.now c.args.right.now))

pub returns : goal.returns
returns c =
    let a = c.args in
    let l = c.loop-i in
    let left = counters_from l.i a.left.now a.right.now in
    let all = counters_from 0 a.left.now a.right.now in
    let over = counters_over_lem a.left.now a.right.now l.i (omega arith) in
    let none = none_length left over in
    let laid = sym (none_laid left over l.out l.next) ∙ l.invariant.written in
    (omega (arith, section_long all), front_laid all a.out.now l.out c.put_number.new.out a.at l.listed c.requires laid (omega (arith, ap length over)) c.put_number.ensures)
