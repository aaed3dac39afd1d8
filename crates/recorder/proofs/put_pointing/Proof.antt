-- `put_pointing` meets its contract: its level, then its key. Assumes nothing.
use Prim.Native.Nat.{◌+◌}
use native.Mathlib.Omega.{arith}
use borrow.Author.Rules.{rules}
use lib.ListN.{length}
use Rattle.recorder.specs.RecorderLaws.{kept_fits, kept_laid, pointing_long, pointing_laid}
use Rattle.recorder.proofs.put_pointing.Statement.{statement}
use Rattle.recorder.proofs.put_pointing.Tie as tie

put-number-requires : tie.Need-put_number-requires
put-number-requires c κs =
    let n = pointing_long c.args.p in
    omega arith

add-put-key : tie.Need-overflow_add-at
add-put-key c = search rules

kept-requires : tie.Need-kept-requires
kept-requires c κs = search rules

put-key-requires : tie.Need-put_key-requires
put-key-requires c κs =
    let q = c in
    let s = q in
    let a = s.args in
    let n = pointing_long a.p in
    kept_fits a.p.key c.kept.result c.kept.ensures (a.at + 8) (length q.put_number.new.out) (omega arith)

same_length : tie.Need-shape_of-out
same_length c = search rules

returns : tie.Need-returns
returns c =
    let k = c in
    let r = k in
    let q = r in
    let s = q in
    let a = s.args in
    let n = pointing_long a.p in
    let e = kept_laid a.p.key r.kept.result r.kept.ensures q.put_number.new.out k.put_key.new.out (a.at + 8) k.put_key.result k.put_key.ensures in
    (omega (arith, e.0), pointing_laid a.p a.out.now q.put_number.new.out k.put_key.new.out a.at s.requires q.put_number.ensures e.1)

pub put_pointing_spec : {M : Type 1} → statement M
put_pointing_spec = tie.close (tie.spec put-number-requires add-put-key kept-requires put-key-requires same_length returns)
