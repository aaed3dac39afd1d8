-- `next_over` meets its contract. Assumes nothing.
use Rattle.std.proofs.Common.{drop}
use Rattle.difference_scan.specs.Scan.{byte_of}
use Rattle.patch_scan.specs.ListedLaws.{over_read}
use Rattle.patch_scan.proofs.next_over.Goals as goal

pub returns : goal.returns
returns c =
    let a = c.args in
    let l = c.part_end-left_end.ensures in
    let r = c.listed_end-right_end.ensures in (
      over_read a.pointer a.p.lefts c.rise_of-x.result a.p.rights c.named_of-y.result (byte_of c.kind_by-kind.result) (drop a.p.left a.left.now) (drop a.p.right a.list.now) c.rise_of-x.ensures
          c.named_of-y.ensures c.kind_by-kind.ensures,
      l.0,
      l.1,
      r.0,
      r.1,
    )
