-- `lay_over` meets its contract. Assumes nothing.
use Rattle.std.proofs.Common.{◌≡◌, ◌+◌, ◌<◌, ◌≤◌, ℕ, Bool, List, drop, sym, subst, arith}
use Rattle.snapshot_parse.specs.Parsing.{At}
use Rattle.difference_scan.specs.Scan.{after_part, byte_of}
use Rattle.difference_scan.specs.declared.Places.{Places}
use Rattle.difference_scan.specs.declared.Turn.{Turn}
use Rattle.patch_scan.specs.Listed.{after_listed}
use Rattle.patch_scan.specs.Over.{over_kind}
use Rattle.patch_scan.specs.OverRunLaws.{OverWritten, OverFound, over_finds, over_fewer, over_on, over_full, over_done}
use Rattle.patch_over.proofs.lay_over.Goals as goal

-- what a turn of the loop found
found : {p : Bool} {left list out₀ : List ℕ} {at : ℕ} {q₀ : Places} {out : List ℕ} {q : Places} {next count : ℕ} {t : Turn} → OverWritten p left list out₀ at q₀ out q next count → 0 < q.lefts + q.rights
    → (byte_of t.kind ≡ over_kind p q.lefts (drop q.left left) q.rights (drop q.right list)) × (q.left ≤ t.left) × At left t.left (after_part p (drop q.left left)) × (q.right ≤ t.right) × At list t.right (after_listed p (drop q.right list))
    → OverFound p left list q t
found w some e = record { some = some; in_left = w.in_left; in_list = w.in_list; kind = e.0; up_left = e.1; end_left = e.2; up_list = e.3; end_list = e.4 }

pub returns-in_err-r : goal.returns-in_err-r
returns-in_err-r c =
    let a = c.args in
    let w = c.loop-p.invariant in
    let f = found w c.loop-p-test.true c.next_over-t.ensures in
    rw c.from_residual.ensures (over_full a.pointer a.left.now a.list.now c.loop-p.p c.next_over-t.result f w c.put_over.new.out c.in_err-r.ensures)

pub overflow_add-count : goal.overflow_add-count
overflow_add-count c =
    let a = c.args in
    let w = c.loop-p.invariant in
    let f = found w c.loop-p-test.true c.next_over-t.ensures in
    let r = c.in_ok-r in
    let on = over_on a.pointer a.left.now a.list.now c.loop-p.p c.next_over-t.result f w c.put_over.new.out r.r.next r.r.count r.ensures.0 r.ensures.1 in
    omega (arith, on.small, c.requires.2, c.requires.3)

pub advanced-p-requires : goal.advanced-p-requires
advanced-p-requires c =
    let a = c.args in
    let f = found c.loop-p.invariant c.loop-p-test.true c.next_over-t.ensures in
    let says = over_finds a.pointer a.left.now a.list.now c.loop-p.p c.next_over-t.result f in
    (says.lefts, says.rights)

pub loop-p-smaller : goal.loop-p-smaller
loop-p-smaller c =
    let a = c.args in
    let q = c.loop-p.p in
    let f = found c.loop-p.invariant c.loop-p-test.true c.next_over-t.ensures in
    subst (λ (p : Places). p.lefts + p.rights < q.lefts + q.rights) (sym c.advanced-p.ensures) (over_fewer a.pointer a.left.now a.list.now q c.next_over-t.result f)

pub loop-p-preserved : goal.loop-p-preserved
loop-p-preserved c =
    let a = c.args in
    let w = c.loop-p.invariant in
    let f = found w c.loop-p-test.true c.next_over-t.ensures in
    let r = c.in_ok-r in
    rw c.advanced-p.ensures (over_on a.pointer a.left.now a.list.now c.loop-p.p c.next_over-t.result f w c.put_over.new.out r.r.next r.r.count r.ensures.0 r.ensures.1)

pub returns : goal.returns
returns c =
    let a = c.args in
    let l = c.loop-p in
    over_done a.pointer a.left.now a.list.now a.out.now a.at a.from l.out l.p l.next l.count l.invariant (omega arith)
