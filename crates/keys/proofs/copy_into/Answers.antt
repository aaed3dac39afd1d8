-- `keys::copy_into` meets its contract: the front that fits is copied, and what lies past it stays. Assumes nothing.
use Rattle.std.proofs.Common.{◌≡◌, length, take, drop, min, arith}
use Rattle.std.proofs.lemmas.List.{take_min, drop_min}
use Rattle.keys.specs.Key.{laid}
use Rattle.keys.proofs.copy_into.Goals as goal

pub returns : goal.returns
unfolding laid
returns c =
    let src = c.args.src.now in
    let out = c.args.out.now in
    let n = c.lesser-n.result in
    let p : n ≡ min (length out) (length src) = omega (arith, c.lesser-n.ensures) in
    let q : n ≡ min (length src) (length out) = c.lesser-n.ensures in
    let front : take n src ≡ take (length out) src = rw p (take_min (length out) src) in
    let rest : drop n out ≡ drop (length src) out = rw q (drop_min (length src) out) in
    rw (c.copy_from_slice.ensures.after, front, rest)
