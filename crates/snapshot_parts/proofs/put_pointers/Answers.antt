-- `put_pointers` meets its contract: the count, then each pointer that is set. Assumes nothing.
use Rattle.std.proofs.Common.{ℕ, ◌≡◌, ◌+◌, ◌∙◌, sym, ap, arith, length, get_or, List, map}
use Rattle.lemmas.specs.Lists.{join}
use Rattle.lemmas.specs.Little.{bytes}
use Rattle.lemmas.specs.Merge.{all_at}
use Rattle.lemmas.specs.Slices.{put}
use Rattle.lemmas.specs.Laying.{part_laid, none_laid, none_length}
use Rattle.model.specs.Snapshot.{Entry, write_entry, count_long}
use Rattle.model.proofs.SnapshotLaws.{section_length}
use Rattle.keys.specs.Key.{key_of}
use Rattle.store.specs.Store.{well_pointer}
use Rattle.store.specs.StoreLaws.{past}
use Rattle.snapshot_parts.specs.LayingLaws.{pointer_short, write_entry_parts, entry_laid, section_laid, set_from, set_here, length_here, set_later, set_over}
use Rattle.snapshot_parts.proofs.put_pointers.Goals as goal
use Rattle.snapshot_parts.proofs.put_pointers.Goals.{then-p, else-p}

pub put_number-requires : goal.put_number-requires
put_number-requires c = omega (arith, section_length write_entry (set_from 0 c.args.pointers))

pub overflow_add-next : goal.overflow_add-next
overflow_add-next c = omega (arith, section_length write_entry (set_from 0 c.args.pointers))

pub put_number-requires-then-p : goal.put_number-requires-then-p
put_number-requires-then-p c =
    omega (arith, section_length write_entry (set_from 0 c.args.pointers), length_here c.args.pointers c.loop-level.level (omega arith) c.if-p.true)

pub overflow_add-next-then-p : goal.overflow_add-next-then-p
overflow_add-next-then-p c =
    omega (arith, section_length write_entry (set_from 0 c.args.pointers), length_here c.args.pointers c.loop-level.level (omega arith) c.if-p.true)

pub put_key-next-requires : goal.put_key-next-requires
put_key-next-requires c =
    let ps = c.args.pointers in
    let i = c.loop-level.level in
    let at = all_at well_pointer ps i past c.requires.0 (omega arith) in
    (pointer_short (get_or ps i past) at, omega (arith, section_length write_entry (set_from 0 ps), length_here ps i (omega arith) c.if-p.true))

pub loop-level-preserved : goal.loop-level-preserved
loop-level-preserved c =
    let l = c.loop-level in
    let ps = c.args.pointers in
    let i = l.level in
    let e : Entry = record { level = i; key = key_of (get_or ps i past).key } in
    let rest = map write_entry (set_from (i + 1) ps) in
    let room = section_length write_entry (set_from 0 ps) in
    elim c.if-p.branch [
      | then-p w ↦
          let long = length_here ps i (omega arith) w.if-p.true in
          let here = ap (map write_entry) (set_here ps i (omega arith) w.if-p.true) in
          let parts = write_entry_parts e in
          let next : c.if-p.next ≡ l.next + length (write_entry e) = omega arith in
          let laid : c.if-p.out ≡ put l.out l.next (write_entry e) =
          w.out-is ∙ entry_laid e l.out w.put_number-then-p.new.out w.put_key-next.new.out l.next (omega arith) w.put_number-then-p.ensures w.put_key-next.ensures.1 in
          record {
            to_come = omega arith;
            written = part_laid (write_entry e) rest (map write_entry (set_from i ps)) here l.out c.if-p.out l.next c.if-p.next (omega arith) laid next ∙ l.invariant.written;
          }
      | else-p w ↦
          let same = ap (λ (es : List Entry). join (map write_entry es)) (set_later ps i (omega arith) w.if-p.false) in
          record { to_come = omega (arith, ap length same); written = rw (w.out-is, w.next-is, ← same) l.invariant.written }
    ]

pub returns : goal.returns
returns c =
    let a = c.args in
    let l = c.loop-level in
    let es = set_from 0 a.pointers in
    let over = ap (map write_entry) (set_over a.pointers l.level (omega arith)) in
    let none = none_length (map write_entry (set_from l.level a.pointers)) over in
    let laid = sym (none_laid (map write_entry (set_from l.level a.pointers)) over l.out l.next) ∙ l.invariant.written in
    let count = c.put_number.ensures ∙ ap (λ (m : ℕ). put a.out.now a.at (bytes count_long m)) c.count_pointers-n.ensures in
    (omega (arith, section_length write_entry es), section_laid write_entry es a.out.now c.put_number.new.out l.out a.at c.requires.1 count laid)
