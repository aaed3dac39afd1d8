-- `find_file` meets its contract: it answers as on the gathered list (`FindingLaws.antt`). Assumes nothing.
use Rattle.std.proofs.Common.{ap, ◌∙◌}
use Rattle.model.specs.File.{full}
use Rattle.model.specs.Calls as calls
use Rattle.keys.specs.Key.{key_of}
use Rattle.level_list.specs.declared.FileList.{FileList}
use Rattle.level_list.specs.List.{on_list}
use Rattle.ask_find.specs.Finding.{found_of}
use Rattle.ask_find.specs.FindingLaws.{on_gathered, gathered_halved}
use Rattle.ask_find.proofs.find_file.Goals as goal

pub find_in_list-requires : goal.find_in_list-requires
find_in_list-requires c = rw c.gather-l.ensures (gathered_halved (key_of c.args.k) c.args.files.now c.search-at.result c.search-at.ensures)

pub returns : goal.returns
returns c =
    c.find_in_list.ensures
    ∙ ap (λ (l : FileList). found_of (on_list c.args.level l (λ fs. calls.find_file_call full c.args.level fs (key_of c.args.k)))) c.gather-l.ensures
    ∙ ap found_of (on_gathered c.args.level c.args.files.now (λ fs. calls.find_file_call full c.args.level fs (key_of c.args.k)))
