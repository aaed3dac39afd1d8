-- `put_addition` meets its contract: its level, then number, size and keys of its file. Assumes nothing.
use Rattle.std.proofs.Common.{◌+◌, length, arith}
use Rattle.recorder.specs.RecorderLaws.{kept_fits, kept_laid, addition_long, addition_laid}
use Rattle.recorder.proofs.put_addition.Goals as goal

pub put_number-requires : goal.put_number-requires
put_number-requires c =
    let n = addition_long c.args.a in
    omega arith

pub put_number-requires-2 : goal.put_number-requires-2
put_number-requires-2 c =
    let n = addition_long c.args.a in
    omega arith

pub put_number-requires-3 : goal.put_number-requires-3
put_number-requires-3 c =
    let n = addition_long c.args.a in
    omega arith

pub put_key-next-requires : goal.put_key-next-requires
put_key-next-requires c =
    let a = c.args in
    let n = addition_long a.a in
    kept_fits a.a.smallest c.kept.result c.kept.ensures (a.at + 8 + 16) (length c.put_number-3.new.out) (omega arith)

pub put_key-requires : goal.put_key-requires
put_key-requires c =
    let a = c.args in
    let k = c.put_key-next in
    let e = kept_laid a.a.smallest c.kept.result c.kept.ensures c.put_number-3.new.out k.new.out (a.at + 8 + 16) k.result k.ensures in
    kept_fits a.a.largest c.kept-2.result c.kept-2.ensures k.result (length k.new.out)
    (omega (arith, e.0, addition_long a.a, c.requires, c.put_number.auto.out, c.put_number-2.auto.out, c.put_number-3.auto.out, k.auto.out))

pub returns : goal.returns
returns c =
    let a = c.args in
    let n = addition_long a.a in
    let k = c.put_key-next in
    let e₁ = kept_laid a.a.smallest c.kept.result c.kept.ensures c.put_number-3.new.out k.new.out (a.at + 8 + 16) k.result k.ensures in
    let e₂ = kept_laid a.a.largest c.kept-2.result c.kept-2.ensures k.new.out c.put_key.new.out k.result c.put_key.result c.put_key.ensures in (
      omega (arith, e₁.0, e₂.0),
      addition_laid a.a a.out.now c.put_number.new.out c.put_number-2.new.out c.put_number-3.new.out k.new.out c.put_key.new.out a.at k.result c.requires
          c.put_number.ensures c.put_number-2.ensures c.put_number-3.ensures e₁.1 e₁.0 e₂.1,
    )
