-- `pointer_entry` meets its contract: the key is compared with its bytes if it can be a pointer's. Assumes nothing.
use Rattle.std.proofs.Common.{inl, inr, sym, ◌∙◌}
use Rattle.patch_list.specs.FoundLaws.{key_up, key_short, pointer_failed, pointer_right, pointer_kept}
use Rattle.patch_list.proofs.pointer_entry.Goals as goal
use Rattle.patch_list.proofs.pointer_entry.Goals.{then-level-via-then-level, then-level-via-else-level+then-not-is_pointer}

-- the key is within its room
pub is_pointer-requires : goal.is_pointer-requires
is_pointer-requires c =
    let k = c.get_key-k in
    key_short c.args.src.now c.after-start.result k.result.next c.after-start.ensures.1.within k.ensures.1 k.result.key k.ensures.0

pub returns-then-level : goal.returns-then-level
returns-then-level c =
    let a = c.args in
    let p = c.after-start in
    let k = c.get_key-k in
    let l = c.get_number-level in
    pointer_failed a.src.now p.result k.result.next p.ensures.1.within k.ensures.1 k.result.key k.ensures.0 a.at l.result l.ensures p.ensures.1.rest
    (elim c.then-level.branch [
      | then-level-via-then-level w ↦ inr w.if-level.true
      | then-level-via-else-level+then-not-is_pointer w ↦ inl (sym w.is_pointer.ensures ∙ w.if-not-is_pointer.true)
    ])

-- the place after the key is no earlier
pub slice_bounds-key_writes-count : goal.slice_bounds-key_writes-count
slice_bounds-key_writes-count c = key_up c.args.src.now c.after-start.result c.get_key-k.result.next c.after-start.ensures.1.within c.get_key-k.ensures.1

pub slice_bounds-key_writes-start : goal.slice_bounds-key_writes-start
slice_bounds-key_writes-start c = key_up c.args.src.now c.after-start.result c.get_key-k.result.next c.after-start.ensures.1.within c.get_key-k.ensures.1

pub key_writes-requires : goal.key_writes-requires
key_writes-requires c =
    let k = c.get_key-k in
    key_short c.args.src.now c.after-start.result k.result.next c.after-start.ensures.1.within k.ensures.1 k.result.key k.ensures.0

pub returns-then-not-key_writes : goal.returns-then-not-key_writes
returns-then-not-key_writes c =
    let a = c.args in
    let p = c.after-start in
    let k = c.get_key-k in
    let l = c.get_number-level in
    let right = pointer_right a.src.now p.result k.result.next p.ensures.1.within k.ensures.1 k.result.key k.ensures.0 a.at l.result l.ensures p.ensures.1.rest c.if-level.false (sym c.is_pointer.ensures ∙ c.if-not-is_pointer.false) in
    sym right ∙ sym c.key_writes.ensures ∙ c.if-not-key_writes.true

pub returns : goal.returns
returns c =
    let a = c.args in
    let p = c.after-start in
    let k = c.get_key-k in
    let l = c.get_number-level in
    let right = pointer_right a.src.now p.result k.result.next p.ensures.1.within k.ensures.1 k.result.key k.ensures.0 a.at l.result l.ensures p.ensures.1.rest c.if-level.false (sym c.is_pointer.ensures ∙ c.if-not-is_pointer.false) in
    pointer_kept a.src.now p.result k.result.next p.ensures.1.within k.ensures.1 k.result.key k.ensures.0 a.at l.result l.ensures p.ensures.1.rest (sym right ∙ sym c.key_writes.ensures ∙ c.if-not-key_writes.false)
