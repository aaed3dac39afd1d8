-- What owning a picked answer says: the lengths of its arrays, and that its file numbers fit 64 bits. Assumes nothing.
use mathlib.Core.List.{List}
use Prim.Native.Nat.{◌^◌, ◌<◌}
use native.Mathlib.Omega.{arith}
use mir.Syntax.{w64}
use mir.Val.{Val, Fits}
use borrow.Author.Rules.{rules}
use denote.Laws.{Is}
use Rattle.lemmas.specs.Owned.{each_owned}
use Rattle.lemmas.specs.Slices.{length_of_map}
use Rattle.records.specs.RecordLaws.{AllWords}
use Rattle.records.specs.Record.{Shaped}
use Rattle.records.specs.declared.FileRecord.{FileRecord}
use Rattle.records.specs.contracts.FileRecord as record_type
use Rattle.records.proofs.Shape.{shaped}
use Rattle.pick_answer.specs.declared.Picked.{Picked}
use Rattle.pick_answer.specs.PickedLaws.{PickedShape}
use Rattle.pick_answer.specs.contracts.Picked as picked_type

-- of a picked answer. For a parameter `c: Picked`, the first, and the function's start s: `shape s.args.c _ s.good.0 : PickedShape s.args.c`
pub shape : (c : Picked) (vs : List Val) → Is picked_type.the_row c vs → PickedShape c
shape c vs is =
    let files = is.1.1.1.1.1.0 in
    record {
      files = search (rules, length_of_map);
      records = each_owned (record_type.the_row).own_val Shaped shaped c.files files.0 files.1.1;
    }

-- of one record: its number
word : (r : FileRecord) (vs : List Val) → Is record_type.the_row r vs → r.number.0 < 2 ^ 64
word r vs is =
    let f : Fits w64 r.number.0 = search rules in
    omega arith

-- the same, of its files' numbers
pub words : (c : Picked) (vs : List Val) → Is picked_type.the_row c vs → AllWords c.files
words c vs is =
    let files = is.1.1.1.1.1.0 in
    each_owned (record_type.the_row).own_val (λ (r : FileRecord). r.number.0 < 2 ^ 64) word c.files files.0 files.1.1
