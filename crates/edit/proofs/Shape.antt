-- What owning an edit says: its arrays have their room. Assumes nothing.
use mathlib.Core.List.{List}
use mir.Val.{Val}
use borrow.Author.Rules.{rules}
use denote.Laws.{Is}
use Rattle.lemmas.specs.Slices.{length_of_map}
use Rattle.edit.specs.declared.Edit.{Edit}
use Rattle.edit.specs.EditLaws.{HasRoom}
use Rattle.edit.specs.contracts.Edit as edit_type

-- of one edit. For a parameter `e: Edit`, the first, and the function's start s: `has_room s.args.e _ s.good.0 : HasRoom s.args.e`
pub has_room : (e : Edit) (vs : List Val) → Is edit_type.the_row e vs → HasRoom e
has_room e vs is = record { pointings = search (rules, length_of_map); deletions = search (rules, length_of_map); additions = search (rules, length_of_map) }
