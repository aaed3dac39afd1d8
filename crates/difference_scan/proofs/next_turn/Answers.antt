-- `next_turn` meets its contract. Assumes nothing.
use Rattle.difference_scan.specs.Scan.{byte_of}
use Rattle.difference_scan.specs.ScanLaws.{kind_read}
use Rattle.difference_scan.proofs.next_turn.Goals as goal

pub returns : goal.returns
returns c =
    let a = c.args in
    let l = c.part_end-left_end in
    let r = c.part_end-right_end in
    let s = l.ensures in
    let t = r.ensures in (
      kind_read a.pointer a.left.now a.right.now a.p.lefts a.p.left l.result a.p.rights a.p.right r.result c.rise_of-x.result c.rise_of-y.result
          (byte_of c.kind_by-kind.result) c.same-same.result s.0 s.1 t.0 t.1 c.rise_of-x.ensures c.rise_of-y.ensures c.same-same.ensures c.kind_by-kind.ensures,
      s.0,
      s.1,
      t.0,
      t.1,
    )
