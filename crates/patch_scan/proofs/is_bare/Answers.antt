-- `is_bare` meets its contract. Assumes nothing.
use Rattle.std.proofs.Common.{ℕ, ap, ◌∙◌, eqb}
use Rattle.patch_scan.specs.ListedLaws.{pointer_bare, file_bare}
use Rattle.patch_scan.proofs.is_bare.Goals as goal

pub returns-then-pointer : goal.returns-then-pointer
returns-then-pointer c =
    let a = c.args in
    pointer_bare a.pointer a.y.now c.after-key_at.result c.get_number.result c.if-pointer.true c.after-key_at.ensures.1 c.get_number.ensures

pub returns : goal.returns
returns c =
    let a = c.args in
    ap (λ (k : ℕ). eqb c.get_number-2.result k) c.byte.ensures ∙ file_bare a.pointer a.y.now c.get_number-2.result c.if-pointer.false c.get_number-2.ensures
