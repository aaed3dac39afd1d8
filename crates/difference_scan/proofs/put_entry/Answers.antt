-- `put_entry` meets its contract. Assumes nothing.
use Rattle.std.proofs.Common.{arith, ap}
use Rattle.difference_scan.specs.Scan.{byte_of}
use Rattle.difference_scan.specs.ScanLaws.{left_byte, right_byte, same_laid, head_short, right_long, right_laid, left_long, left_laid}
use Rattle.difference_scan.proofs.put_entry.Goals as goal

pub returns-in-Same : goal.returns-in-Same
returns-in-Same c =
    let a = c.args in
    same_laid a.pointer (byte_of a.kind) a.level a.x.now a.y.now (ap byte_of c.in-Same.is) a.at a.out.now

pub put_head-start-requires : goal.put_head-start-requires
put_head-start-requires c =
    let a = c.args in
    omega (arith, c.requires, head_short a.pointer (byte_of a.kind) a.level a.x.now a.y.now (left_byte a.kind c.in-Left.is))

pub put_bytes-end-requires : goal.put_bytes-end-requires
put_bytes-end-requires c =
    let a = c.args in
    let long = left_long a.pointer (byte_of a.kind) a.level a.x.now a.y.now (ap byte_of c.in-Left.is) c.rise_long.result c.lesser-n.result c.rise_long.ensures c.lesser-n.ensures in
    omega (arith, c.requires, c.put_head-start.ensures.0, long)

pub put_tail-requires : goal.put_tail-requires
put_tail-requires c =
    let a = c.args in
    let long = left_long a.pointer (byte_of a.kind) a.level a.x.now a.y.now (ap byte_of c.in-Left.is) c.rise_long.result c.lesser-n.result c.rise_long.ensures c.lesser-n.ensures in
    omega (arith, c.requires, c.put_head-start.ensures.0, c.put_bytes-end.ensures.0, long)

pub returns-in-Left : goal.returns-in-Left
returns-in-Left c =
    let a = c.args in
    let b = c.put_head-start in
    let d = c.put_bytes-end in
    let t = c.put_tail in
    let is = ap byte_of c.in-Left.is in
    let long = left_long a.pointer (byte_of a.kind) a.level a.x.now a.y.now is c.rise_long.result c.lesser-n.result c.rise_long.ensures c.lesser-n.ensures in (
      omega (arith, b.ensures.0, d.ensures.0, t.ensures.0, long),
      left_laid a.pointer (byte_of a.kind) a.level a.x.now a.y.now is c.rise_long.result c.lesser-n.result c.rise_long.ensures c.lesser-n.ensures a.out.now b.new.out d.new.out t.new.out a.at b.result
          d.result c.requires b.ensures.1 b.ensures.0 d.ensures.1 d.ensures.0 t.ensures.1,
    )

pub put_head-start-requires-in-Right : goal.put_head-start-requires-in-Right
put_head-start-requires-in-Right c =
    let a = c.args in
    omega (arith, c.requires, head_short a.pointer (byte_of a.kind) a.level a.x.now a.y.now (right_byte a.kind c.in-Right.is).0)

pub put_bytes-requires : goal.put_bytes-requires
put_bytes-requires c =
    let a = c.args in
    let n = right_byte a.kind c.in-Right.is in
    omega (arith, c.requires, c.put_head-start-in-Right.ensures.0, right_long a.pointer (byte_of a.kind) a.level a.x.now a.y.now n.0 n.1)

pub returns-in-Right : goal.returns-in-Right
returns-in-Right c =
    let a = c.args in
    let b = c.put_head-start-in-Right in
    let d = c.put_bytes in
    let n = right_byte a.kind c.in-Right.is in
    let long = right_long a.pointer (byte_of a.kind) a.level a.x.now a.y.now n.0 n.1 in (
      omega (arith, b.ensures.0, d.ensures.0, long),
      right_laid a.pointer (byte_of a.kind) a.level a.x.now a.y.now n.0 n.1 a.out.now b.new.out d.new.out a.at b.result c.requires b.ensures.1 b.ensures.0 d.ensures.1,
    )
