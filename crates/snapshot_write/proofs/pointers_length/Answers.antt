-- `pointers_length` meets its contract: each pointer that is set adds its bytes. Assumes nothing.
use Rattle.std.proofs.Common.{ap, arith, length, map, List}
use Rattle.lemmas.specs.Each.{each_at}
use Rattle.lemmas.specs.Laying.{none_length}
use Rattle.lemmas.specs.Lists.{join}
use Rattle.lemmas.specs.Merge.{all_at}
use Rattle.model.specs.File.{level_count}
use Rattle.model.specs.Snapshot.{Entry, write_entry}
use Rattle.store.specs.Store.{well_pointer, PointerShaped}
use Rattle.store.specs.StoreLaws.{past}
use Rattle.snapshot_parts.specs.LayingLaws.{pointer_short, set_later, set_over}
use Rattle.snapshot_write.proofs.Shape.{pointers_shaped}
use Rattle.snapshot_write.specs.WritingLaws.{pointer_left}
use Rattle.snapshot_write.proofs.pointers_length.Goals as goal
use Rattle.snapshot_write.proofs.pointers_length.Goals.{then-p, else-p}

pub overflow_add-sum : goal.overflow_add-sum
overflow_add-sum c =
    let short = pointer_short _ (all_at well_pointer c.args.pointers c.loop-p.p-index past c.requires (omega arith)) in
    omega arith

pub overflow_add-sum-then-p : goal.overflow_add-sum-then-p
overflow_add-sum-then-p c =
    let short = pointer_short _ (all_at well_pointer c.args.pointers c.loop-p.p-index past c.requires (omega arith)) in
    omega arith

pub loop-p-preserved : goal.loop-p-preserved
loop-p-preserved c =
    let ps = c.args.pointers in
    let i = c.loop-p.p-index in
    let well = all_at well_pointer ps i past c.requires (omega arith) in
    let short = pointer_short _ well in
    let room = each_at PointerShaped ps i past (pointers_shaped level_count ps _ c.well_formed.0) (omega arith) in
    elim c.if-p.branch [
      | then-p w ↦ record { fits = omega arith; counted = omega (arith, pointer_left ps i (omega arith) room well w.if-p.true) }
      | else-p w ↦ record { fits = omega arith; counted = omega (arith, ap (λ (es : List Entry). length (join (map write_entry es))) (set_later ps i (omega arith) w.if-p.false)) }
    ]

pub returns : goal.returns
returns c =
    let none = ap (map write_entry) (set_over c.args.pointers c.loop-p.p-index (omega arith)) in
    omega (arith, none_length _ none)
