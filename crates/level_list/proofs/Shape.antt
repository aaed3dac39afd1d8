-- What owning a list of one level says: the lengths of its arrays. Assumes nothing.
use mathlib.Core.List.{List}
use mir.Val.{Val}
use borrow.Author.Rules.{rules}
use denote.Laws.{Is}
use Rattle.lemmas.specs.Owned.{each_owned}
use Rattle.lemmas.specs.Slices.{length_of_map}
use Rattle.records.specs.Record.{Shaped}
use Rattle.records.specs.contracts.FileRecord as record_type
use Rattle.records.proofs.Shape.{shaped}
use Rattle.level_list.specs.declared.FileList.{FileList}
use Rattle.level_list.specs.ListLaws.{ListShape}
use Rattle.level_list.specs.contracts.FileList as list_type

-- of a list. For a parameter `l: FileList` and the function's start c: `shape c.args.l _ (c.good ..) : ListShape c.args.l`
pub shape : (l : FileList) (vs : List Val) → Is list_type.the_row l vs → ListShape l
shape l vs is =
    let files = is.1.1.0 in
    record {
      files = search (rules, length_of_map);
      records = each_owned (record_type.the_row).own_val Shaped shaped l.files files.0 files.1.1;
    }
