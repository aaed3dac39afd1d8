-- `put_head` meets its contract. Assumes nothing.
use Rattle.std.proofs.Common.{ℕ, arith, ap, ◌∙◌}
use Rattle.lemmas.specs.Little.{bytes}
use Rattle.lemmas.specs.Slices.{put}
use Rattle.model.specs.Snapshot.{byte_long}
use Rattle.difference_scan.specs.Scan.{byte_of}
use Rattle.difference_scan.specs.ScanLaws.{head_file, head_laid, head_none}
use Rattle.difference_scan.proofs.put_head.Goals as goal

pub returns-then-pointer : goal.returns-then-pointer
returns-then-pointer c =
    let a = c.args in
    head_none a.pointer (byte_of a.kind) a.level c.if-pointer.true a.at a.out.now

pub put_number-requires : goal.put_number-requires
put_number-requires c =
    let a = c.args in
    omega (arith, c.requires, head_file a.pointer (byte_of a.kind) a.level c.if-pointer.false)

pub put_number-requires-2 : goal.put_number-requires-2
put_number-requires-2 c =
    let a = c.args in
    omega (arith, c.requires, head_file a.pointer (byte_of a.kind) a.level c.if-pointer.false)

pub returns : goal.returns
returns c =
    let a = c.args in
    let long = head_file a.pointer (byte_of a.kind) a.level c.if-pointer.false in
    let first = c.put_number.ensures ∙ ap (λ (k : ℕ). put a.out.now a.at (bytes byte_long k)) c.byte.ensures in (
      omega arith,
      head_laid a.pointer (byte_of a.kind) a.level c.if-pointer.false a.out.now c.put_number.new.out c.put_number-2.new.out a.at (omega (arith, c.requires)) first c.put_number-2.ensures,
    )
