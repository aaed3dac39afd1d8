-- `whole_file` meets its contract: the file is compared with its bytes if it is good. Assumes nothing.
use Rattle.std.proofs.Common.{◌≡◌, true, inl, inr, sym, ◌∙◌, arith, le-leb}
use Rattle.std.proofs.lemmas.Bool.{lt-leb}
use Rattle.model.specs.DifferenceBytes.{changed_kind}
use Rattle.records.specs.Record.{well_record}
use Rattle.patch_list.specs.FoundLaws.{file_up, file_failed, file_right, file_kept}
use Rattle.patch_list.proofs.whole_file.Goals as goal
use Rattle.patch_list.proofs.whole_file.Goals.{then-level-via-then-level, then-level-via-else-level+then-kind-byte, then-level-via-else-level+else-kind-byte+then-not-is_well_formed}

pub returns-then-level : goal.returns-then-level
returns-then-level c =
    let a = c.args in
    let f = c.get_file-f in
    file_failed a.src.now a.at f.result.next c.requires f.ensures.1 f.result.file f.ensures.0 a.kind a.level
    (elim c.then-level.branch [
      | then-level-via-then-level w ↦ inr (inr w.if-level.true)
      | then-level-via-else-level+then-kind-byte w ↦ inr (inl (lt-leb a.kind changed_kind (omega (arith, w.byte.ensures, w.if-kind-byte.true))))
      | then-level-via-else-level+else-kind-byte+then-not-is_well_formed w ↦ inl (sym w.is_well_formed.ensures ∙ w.if-not-is_well_formed.true)
    ])

-- the place after the file is no earlier
pub slice_bounds-file_writes-count : goal.slice_bounds-file_writes-count
slice_bounds-file_writes-count c = file_up c.args.src.now c.args.at c.get_file-f.result.next c.requires c.get_file-f.ensures.1

pub slice_bounds-file_writes-start : goal.slice_bounds-file_writes-start
slice_bounds-file_writes-start c = file_up c.args.src.now c.args.at c.get_file-f.result.next c.requires c.get_file-f.ensures.1

pub returns-then-not-file_writes : goal.returns-then-not-file_writes
returns-then-not-file_writes c =
    let a = c.args in
    let f = c.get_file-f in
    let well : well_record f.result.file ≡ true = sym c.is_well_formed.ensures ∙ c.if-not-is_well_formed.false in
    let low = le-leb a.kind changed_kind (omega (arith, c.byte.ensures, c.if-kind-byte.false)) in
    let right = file_right a.src.now a.at f.result.next c.requires f.ensures.1 f.result.file f.ensures.0 a.kind a.level c.if-level.false low well in
    sym right ∙ sym c.file_writes.ensures ∙ c.if-not-file_writes.true

pub returns : goal.returns
returns c =
    let a = c.args in
    let f = c.get_file-f in
    let well : well_record f.result.file ≡ true = sym c.is_well_formed.ensures ∙ c.if-not-is_well_formed.false in
    let low = le-leb a.kind changed_kind (omega (arith, c.byte.ensures, c.if-kind-byte.false)) in
    let right = file_right a.src.now a.at f.result.next c.requires f.ensures.1 f.result.file f.ensures.0 a.kind a.level c.if-level.false low well in
    file_kept a.src.now a.at f.result.next c.requires f.ensures.1 f.result.file f.ensures.0 a.kind a.level (sym right ∙ sym c.file_writes.ensures ∙ c.if-not-file_writes.false)
