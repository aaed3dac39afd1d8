-- `put_number` meets its contract: each turn writes one byte more. Assumes nothing.
use Rattle.std.proofs.Common.{ℕ, ◌≡◌, ◌+◌, ◌-◌, ◌∙◌, ap, arith, length, take, drop, length-take, length-drop}
use native.Mathlib.Nat.{sub-zero}
use Rattle.lemmas.specs.Slices.{put}
use Rattle.snapshot_parts.specs.LayingLaws.{part_put, number_turn, number_laid}
use Rattle.snapshot_parts.proofs.put_number.Goals as goal

pub loop-b-init : goal.loop-b-init
loop-b-init c = rw sub-zero

pub loop-b-preserved : goal.loop-b-preserved
loop-b-preserved c =
    let l = c.loop-b in
    number_turn l.b-items c.args.width l.b-index l.y (omega (arith, length-take {A = ℕ}, length-drop {A = ℕ})) (omega arith) ∙ l.invariant

pub returns : goal.returns
returns c =
    let a = c.args in
    let l = c.loop-b in
    let part : length (take (a.at + a.width - a.at) (drop a.at a.out.now)) ≡ a.width = omega (arith, length-take {A = ℕ}, length-drop {A = ℕ}) in
    let written = number_laid _ l.b-items a.width l.b-index a.x l.y part (omega arith) l.invariant in
    part_put a.at _ a.out.now l.b-items (omega arith) ∙ ap (put a.out.now a.at) written
