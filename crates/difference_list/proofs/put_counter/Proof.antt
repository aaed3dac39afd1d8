-- `put_counter` meets its contract. Assumes nothing.
use native.Mathlib.Omega.{arith}
use borrow.Author.Rules.{rules}
use Rattle.difference_list.specs.SectionLaws.{counter_passed, counter_long, counter_laid}
use Rattle.difference_list.proofs.put_counter.Statement.{statement}
use Rattle.difference_list.proofs.put_counter.Tie as tie

returns : tie.Need-returns-then-same
returns c =
    let a = c.args in
    counter_passed a.i a.same a.y.now c.if-same.true a.at a.out.now

put-number-requires : tie.Need-put_number-requires
put-number-requires c κs =
    let i = c in
    let s = i in
    let a = s.args in
    let h = s.requires in
    omega (arith, counter_long a.i a.same a.y.now i.if-same.false)

add-put-bytes : tie.Need-overflow_add-at
add-put-bytes c = search rules

put-bytes-requires : tie.Need-put_bytes-requires
put-bytes-requires c κs =
    let i = c in
    let s = i in
    let a = s.args in
    let h = s.requires in
    omega (arith, counter_long a.i a.same a.y.now i.if-same.false)

same_length : tie.Need-shape_of-out
same_length c = search rules

returns_2 : tie.Need-returns
returns_2 c =
    let d = c in
    let n = d in
    let i = n in
    let s = i in
    let a = s.args in
    let f = d.put_bytes.ensures in
    let long = counter_long a.i a.same a.y.now i.if-same.false in
    (omega arith, counter_laid a.i a.same a.y.now i.if-same.false a.out.now n.put_number.new.out d.put_bytes.new.out a.at s.requires n.put_number.ensures f.1)

pub put_counter_spec : {M : Type 1} → statement M
put_counter_spec = tie.close (tie.spec returns put-number-requires add-put-bytes put-bytes-requires same_length returns_2)
