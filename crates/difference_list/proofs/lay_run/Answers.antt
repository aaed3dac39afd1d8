-- `lay_run` meets its contract. Assumes nothing.
use Rattle.std.proofs.Common.{◌≡◌, ◌+◌, ◌<◌, ◌≤◌, ℕ, Bool, List, drop, refl, sym, subst, arith}
use Rattle.snapshot_parse.specs.Parsing.{At}
use Rattle.difference_scan.specs.Scan.{after_part, byte_of, kind_at}
use Rattle.difference_scan.specs.declared.Places.{Places}
use Rattle.difference_scan.specs.declared.Turn.{Turn}
use Rattle.difference_list.specs.RunLaws.{Written, FoundAt, finds, entry_fits, turn_on, fewer, entries_few, run_done}
use Rattle.difference_list.proofs.lay_run.Goals as goal

-- what a turn of the loop found
found : {p : Bool} {l : ℕ} {left right out₀ : List ℕ} {at : ℕ} {q₀ : Places} {out : List ℕ} {q : Places} {next listed : ℕ} {t : Turn} → Written p l left right out₀ at q₀ out q next listed → 0 < q.lefts + q.rights
    → (byte_of t.kind ≡ kind_at p q.lefts (drop q.left left) q.rights (drop q.right right)) × (q.left ≤ t.left) × At left t.left (after_part p (drop q.left left)) × (q.right ≤ t.right) × At right t.right (after_part p (drop q.right right))
    → FoundAt p l left right q t
found w some e = record { some = some; in_left = w.in_left; in_right = w.in_right; kind = e.0; up_left = e.1; end_left = e.2; up_right = e.3; end_right = e.4 }

pub loop-p-init : goal.loop-p-init
loop-p-init c =
    let h = c.requires in
    record { in_left = h.0; in_right = h.1; few_lefts = h.2; few_rights = h.3; long = refl; room = refl; count = omega arith; laid = refl; after_left = refl; after_right = refl }

pub put_entry-next-requires : goal.put_entry-next-requires
put_entry-next-requires c =
    let a = c.args in
    let w = c.loop-p.invariant in
    let f = found w c.loop-p-test.true c.next_turn-t.ensures in
    entry_fits a.pointer a.level a.left.now a.right.now c.loop-p.p c.next_turn-t.result f w c.requires.4

pub counted-listed-requires : goal.counted-listed-requires
counted-listed-requires c =
    let a = c.args in
    let h = c.requires in
    let w = c.loop-p.invariant in
    omega (arith, w.count, h.2, h.3, entries_few a.pointer a.level a.from.lefts (drop a.from.left a.left.now) a.from.rights (drop a.from.right a.right.now))

pub advanced-p-requires : goal.advanced-p-requires
advanced-p-requires c =
    let a = c.args in
    let f = found c.loop-p.invariant c.loop-p-test.true c.next_turn-t.ensures in
    let says = finds a.pointer a.level a.left.now a.right.now c.loop-p.p c.next_turn-t.result f in
    (says.lefts, says.rights)

pub loop-p-smaller : goal.loop-p-smaller
loop-p-smaller c =
    let a = c.args in
    let q = c.loop-p.p in
    let f = found c.loop-p.invariant c.loop-p-test.true c.next_turn-t.ensures in
    subst (λ (p : Places). p.lefts + p.rights < q.lefts + q.rights) (sym c.advanced-p.ensures) (fewer a.pointer a.level a.left.now a.right.now q c.next_turn-t.result f)

pub loop-p-preserved : goal.loop-p-preserved
loop-p-preserved c =
    let a = c.args in
    let w = c.loop-p.invariant in
    let e = c.put_entry-next in
    let f = found w c.loop-p-test.true c.next_turn-t.ensures in
    let fits = entry_fits a.pointer a.level a.left.now a.right.now c.loop-p.p c.next_turn-t.result f w c.requires.4 in
    rw (c.advanced-p.ensures, c.counted-listed.ensures, e.ensures.0) (turn_on a.pointer a.level a.left.now a.right.now c.loop-p.p c.next_turn-t.result f w fits e.new.out e.ensures.1)

pub returns : goal.returns
returns c =
    let a = c.args in
    let l = c.loop-p in
    run_done a.pointer a.level a.left.now a.right.now a.out.now a.at a.from l.out l.p l.next l.listed l.invariant (omega arith)
