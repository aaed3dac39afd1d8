-- `low_byte` meets its contract: each turn passes one byte more. Assumes nothing.
use Rattle.std.proofs.Common.{◌≡◌, ◌+◌, ◌-◌, ◌∙◌, sym, arith}
use Rattle.script_words.specs.WordLaws.{bytes_first, bytes_later, bytes_past}
use Rattle.script_words.proofs.low_byte.Goals as goal

pub returns-then-width-i : goal.returns-then-width-i
returns-then-width-i c = sym (bytes_past c.args.width c.args.x c.args.i c.if-width-i.true)

pub loop-init : goal.loop-init
loop-init c =
    let a = c.args in
    let w : a.width - 0 ≡ a.width = omega arith in
    let k : a.i - 0 ≡ a.i = omega arith in
    rw (w, k)

pub loop-preserved : goal.loop-preserved
loop-preserved c =
    let a = c.args in
    let l = c.loop in
    let w : a.width - (l.counter + 1) ≡ a.width - l.counter - 1 = omega arith in
    let k : a.i - (l.counter + 1) ≡ a.i - l.counter - 1 = omega arith in
    rw (w, k) (sym (bytes_later (a.width - l.counter) l.y (a.i - l.counter) (omega arith) (omega arith)) ∙ l.invariant)

pub returns : goal.returns
returns c =
    let a = c.args in
    let l = c.loop in
    let z : a.i - l.counter ≡ 0 = omega arith in
    sym (bytes_first (a.width - l.counter) l.y (omega arith)) ∙ (rw z at l.invariant)
