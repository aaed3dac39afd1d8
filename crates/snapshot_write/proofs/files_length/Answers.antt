-- `files_length` meets its contract: each file adds its bytes. Assumes nothing.
use Rattle.std.proofs.Common.{sym, ap, subst, arith, get_or, get_or-take, take, length-take, drop_of_length-le, List, map}
use Rattle.lemmas.specs.Each.{each_at}
use Rattle.lemmas.specs.Laying.{none_length}
use Rattle.lemmas.specs.Merge.{all_at}
use Rattle.model.specs.File.{max_files}
use Rattle.model.specs.Snapshot.{write_file}
use Rattle.records.specs.declared.FileRecord.{FileRecord}
use Rattle.records.specs.Record.{well_record, past, Shaped, file_of}
use Rattle.records.proofs.Shape.{all_shaped}
use Rattle.snapshot_parts.specs.LayingLaws.{record_short}
use Rattle.snapshot_write.specs.WritingLaws.{file_left}
use Rattle.snapshot_write.proofs.files_length.Goals as goal

pub overflow_add-sum : goal.overflow_add-sum
overflow_add-sum c =
    let short = record_short _ (all_at well_record (take c.args.n c.args.files) c.loop-f.f-index past c.requires.1 (omega arith)) in
    omega arith

pub overflow_add-sum-in-loop-f : goal.overflow_add-sum-in-loop-f
overflow_add-sum-in-loop-f c =
    let short = record_short _ (all_at well_record (take c.args.n c.args.files) c.loop-f.f-index past c.requires.1 (omega arith)) in
    omega arith

pub overflow_add-sum-in-loop-f-2 : goal.overflow_add-sum-in-loop-f-2
overflow_add-sum-in-loop-f-2 c =
    let few = length-take c.args.n c.args.files in
    let short = record_short _ (all_at well_record (take c.args.n c.args.files) c.loop-f.f-index past c.requires.1 (omega arith)) in
    omega arith

pub loop-f-preserved : goal.loop-f-preserved
loop-f-preserved c =
    let fs = take c.args.n c.args.files in
    let i = c.loop-f.f-index in
    let few = length-take c.args.n c.args.files in
    let well = all_at well_record fs i past c.requires.1 (omega arith) in
    let short = record_short _ well in
    let room : Shaped (get_or fs i past) =
    subst Shaped (sym (get_or-take c.args.n c.args.files i past (omega arith)))
    (each_at Shaped c.args.files i past (all_shaped max_files c.args.files _ c.well_formed.0) (omega arith)) in
    let left = file_left fs i (omega arith) room well in
    record { fits = omega arith; counted = omega arith }

pub returns : goal.returns
returns c =
    let fs = take c.args.n c.args.files in
    let none = ap (λ (rs : List FileRecord). map write_file (map file_of rs)) (drop_of_length-le fs {i = c.loop-f.f-index} (omega arith)) in
    omega (arith, none_length _ none)
