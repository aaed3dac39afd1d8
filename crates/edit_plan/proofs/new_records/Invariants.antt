-- The loop of `new_records`: writing the kept records of the additions from i on gives all records.
use Rattle.std.proofs.Common.{◌≡◌, length, take}
use Rattle.std.specs.Prelude.{map}
use Rattle.std.proofs.Math.Seq.{slice}
use Rattle.lemmas.specs.Slices.{put}
use Rattle.model.specs.File.{max_additions}
use Rattle.records.specs.Record.{record_of, vacant}
use Rattle.records.specs.declared.FileRecord.{FileRecord}
use Rattle.edit.specs.Edit.{addition_of}
use Rattle.edit.specs.declared.Addition.{Addition}
use Rattle.edit_plan.proofs.new_records.Given as goal

abbrev pub invariant-loop-i : goal.invariant-loop-i
invariant-loop-i l =
    let kept : Addition → FileRecord = λ a. record_of (addition_of a).file in
    (length l.files ≡ max_additions)
    × (put l.files l.i (map kept (slice l.i l.count l.fn.additions)) ≡ put (vacant max_additions) 0 (map kept (take l.count l.fn.additions)))
