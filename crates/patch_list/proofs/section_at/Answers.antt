-- `section_at` meets its contract: each turn reads one entry more, or finds that it is wrong. Assumes nothing.
use Rattle.std.proofs.Common.{◌≡◌, ◌+◌, ◌-◌, arith}
use native.Mathlib.Nat.{sub-zero}
use Rattle.patch_list.specs.Entries.{place_of}
use Rattle.patch_list.specs.TurnLaws.{section_short, section_begun, entry_wrong, turn_wrong, turn_right, section_done}
use Rattle.patch_list.proofs.section_at.Goals as goal

pub returns-then-src-at-lt-COUNT : goal.returns-then-src-at-lt-COUNT
returns-then-src-at-lt-COUNT c = section_short (place_of c.args.section) c.args.src.now c.args.at c.if-src-at-lt-COUNT.true

pub loop-init : goal.loop-init
loop-init c =
    let a = c.args in
    rw sub-zero (section_begun (place_of a.section) a.src.now a.at c.requires c.if-src-at-lt-COUNT.false c.get_number-n.result c.get_number-n.ensures)

pub returns-in_err-e : goal.returns-in_err-e
returns-in_err-e c =
    let a = c.args in
    let l = c.loop in
    rw c.from_residual.ensures (entry_wrong (place_of a.section) a.src.now a.at (c.get_number-n.result - l.counter) l.next l.last (omega arith) l.invariant c.in_err-e.ensures)

pub returns-then-not-follows : goal.returns-then-not-follows
returns-then-not-follows c =
    let a = c.args in
    let l = c.loop in
    let e = c.in_ok-e in
    turn_wrong (place_of a.section) a.src.now a.at (c.get_number-n.result - l.counter) l.next l.last (omega arith) l.invariant e.e e.ensures c.follows.result c.follows.ensures c.if-not-follows.true

pub loop-preserved : goal.loop-preserved
loop-preserved c =
    let a = c.args in
    let l = c.loop in
    let n = c.get_number-n.result in
    let e = c.in_ok-e in
    let one : n - (l.counter + 1) ≡ n - l.counter - 1 = omega arith in
    rw one (turn_right (place_of a.section) a.src.now a.at (n - l.counter) l.next l.last (omega arith) l.invariant e.e e.ensures c.follows.result c.follows.ensures c.if-not-follows.false)

pub returns : goal.returns
returns c =
    let a = c.args in
    let l = c.loop in
    section_done (place_of a.section) a.src.now a.at (c.get_number-n.result - l.counter) l.next l.last l.invariant (omega arith)
