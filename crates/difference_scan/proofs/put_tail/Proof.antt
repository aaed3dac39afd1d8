-- `put_tail` meets its contract. Assumes nothing.
use native.Mathlib.Omega.{arith}
use borrow.Author.Rules.{rules}
use Rattle.difference_scan.specs.ScanLaws.{tail_one, tail_laid, tail_none}
use Rattle.difference_scan.proofs.put_tail.Statement.{statement}
use Rattle.difference_scan.proofs.put_tail.Tie as tie

returns : tie.Need-returns-then-not-pointer
returns c =
    let a = c.args in
    tail_none a.pointer c.if-not-pointer.true a.at a.out.now

put-number-requires : tie.Need-put_number-requires
put-number-requires c κs =
    let i = c in
    let s = i in
    let a = s.args in
    let h = s.requires in
    omega (arith, tail_one a.pointer i.if-not-pointer.false)

add-result : tie.Need-overflow_add-result
add-result c = search rules

same_length : tie.Need-shape_of-out
same_length c = search rules

returns_2 : tie.Need-returns
returns_2 c =
    let b = c in
    let i = b in
    let a = i.args in
    let e = i.if-not-pointer.false in
    (omega (arith, tail_one a.pointer e), tail_laid a.pointer e a.out.now b.put_number.new.out a.at b.put_number.ensures)

pub put_tail_spec : {M : Type 1} → statement M
put_tail_spec = tie.close (tie.spec returns put-number-requires add-result same_length returns_2)
