-- `lay_hex` meets its contract: each turn writes one byte more. Assumes nothing.
use Rattle.std.proofs.Common.{◌≡◌, ◌+◌, ◌*◌, ◌++◌, ◌∙◌, refl, sym, arith, length, take, take_at, take_all, drop, length-take, length-append, length-drop}
use Rattle.script_words.specs.Words.{hex_bytes}
use Rattle.script_words.specs.HexLaws.{hex_turn, hex_done}
use Rattle.script_words.proofs.lay_hex.Goals as goal

pub loop-i-preserved : goal.loop-i-preserved
loop-i-preserved c =
    let a = c.args in
    let l = c.loop-i in
    let few = length-take c.min-n.result a.out.now in
    hex_turn a.line.now a.from a.to l.b-items l.i (a.from + 2 * l.i) _ refl (omega arith) (omega arith) c.hex_byte.ensures l.invariant

pub returns : goal.returns
returns c =
    let a = c.args in
    let l = c.loop-i in
    let n = c.min-n.result in
    let few = length-take n a.out.now in
    let rest = length-drop n a.out.now in
    let out = l.b-items ++ drop n a.out.now in
    let long = length-append l.b-items (drop n a.out.now) in
    let size : length l.b-items ≡ n = omega arith in
    let end : l.i ≡ n = omega arith in
    let front : take n out ≡ take n (hex_bytes a.line.now a.from a.to) =
    take_at l.b-items (drop n a.out.now) n size ∙ sym (take_all n l.b-items (omega arith)) ∙ (rw end at l.invariant) in
    (omega arith, hex_done a.line.now a.from a.to out n (omega arith) front)
