-- `part_end_lem` meets its contract. Assumes nothing.
use native.Mathlib.Omega.{arith}
use borrow.Author.Rules.{rules}
use Rattle.difference_scan.specs.ScanLaws.{pointer_after_lem, file_after}
use Rattle.difference_scan.proofs.part_end.Statement.{statement}
use Rattle.difference_scan.proofs.part_end.Tie as tie

after-requires : tie.Need-after-key_at-requires
after-requires c κs = search rules

key-end-requires : tie.Need-key_end-requires
key-end-requires c κs = search rules

returns : tie.Need-returns-then-pointer
returns c =
    let b = c in
    let i = b in
    let a = i.args in
    let h = b.after-key_at.ensures.0 in
    let k = c.key_end.ensures.0 in
    (omega arith, pointer_after_lem a.pointer a.src.now a.at b.after-key_at.result c.key_end.result i.if-pointer.true b.after-key_at.ensures.1 c.key_end.ensures.1)

after-requires-2 : tie.Need-after-keys_at-requires
after-requires-2 c κs = search rules

key-end-requires-2 : tie.Need-key_end-next-requires
key-end-requires-2 c κs = search rules

key-end-requires-3 : tie.Need-key_end-requires-2
key-end-requires-3 c κs = search rules

returns_2 : tie.Need-returns
returns_2 c =
    let d = c in
    let b = d in
    let i = b in
    let a = i.args in
    let g = b.after-keys_at.ensures.0 in
    let h = d.key_end-next.ensures.0 in
    let k = c.key_end-2.ensures.0 in
    (omega arith, file_after a.pointer a.src.now a.at b.after-keys_at.result d.key_end-next.result c.key_end-2.result i.if-pointer.false b.after-keys_at.ensures.1 d.key_end-next.ensures.1 c.key_end-2.ensures.1)

pub part_end_spec : {M : Type 1} → statement M
part_end_spec = tie.close (tie.spec after-requires key-end-requires returns after-requires-2 key-end-requires-2 key-end-requires-3 returns_2)
