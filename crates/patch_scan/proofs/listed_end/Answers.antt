-- `listed_end` meets its contract. Assumes nothing.
use Rattle.std.proofs.Common.{arith, sym, ◌∙◌}
use Rattle.patch_scan.specs.ListedLaws.{pointer_ends, left_ends, file_ends}
use Rattle.patch_scan.proofs.listed_end.Goals as goal

pub returns-then-pointer : goal.returns-then-pointer
returns-then-pointer c =
    let a = c.args in
    let e = c.part_end.ensures in
    (e.0, pointer_ends a.pointer a.src.now a.at c.part_end.result c.if-pointer.true e.1)

pub returns-then-kind-byte : goal.returns-then-kind-byte
returns-then-kind-byte c =
    let a = c.args in
    let s = c.after-start in
    let k = c.get_number-kind in (
      omega (arith, s.ensures.0, c.after.ensures.0),
      left_ends a.pointer a.src.now a.at c.if-pointer.false s.result k.result s.ensures.1 k.ensures c.after.result (c.if-kind-byte.true ∙ c.byte.ensures) c.after.ensures.1,
    )

pub returns : goal.returns
returns c =
    let a = c.args in
    let s = c.after-start in
    let k = c.get_number-kind in
    let e = c.part_end-2 in (
      omega (arith, s.ensures.0, e.ensures.0),
      file_ends a.pointer a.src.now a.at c.if-pointer.false s.result k.result s.ensures.1 k.ensures e.result (λ h. c.if-kind-byte.false (h ∙ sym c.byte.ensures)) e.ensures.1,
    )
