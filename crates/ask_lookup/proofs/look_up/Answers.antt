-- `look_up` meets its contract: it answers as on the gathered list. Assumes nothing.
use Rattle.std.proofs.Common.{ap, sym, ◌∙◌, length}
use Rattle.model.specs.File.{full}
use Rattle.model.specs.Calls as calls
use Rattle.keys.specs.Key.{key_of}
use Rattle.level_list.specs.declared.FileList.{FileList}
use Rattle.level_list.specs.List.{on_list}
use Rattle.ask_find.specs.Finding.{on_lent}
use Rattle.ask_find.specs.FindingLaws.{on_gathered, gathered_halved}
use Rattle.ask_lookup.specs.LookupLaws.{answered_as}
use Rattle.ask_lookup.proofs.look_up.Goals as goal

pub look_up_list-requires : goal.look_up_list-requires
look_up_list-requires c = rw c.gather-l.ensures (gathered_halved (key_of c.args.k) c.args.files.now c.search-at.result c.search-at.ensures)

pub returns : goal.returns
returns c =
    let n = c.args.level in
    let k = key_of c.args.k in
    let room = length c.args.out.now in
    let e = ap (λ (l : FileList). on_list n l (λ fs. calls.look_up full n fs k room)) c.gather-l.ensures ∙ on_gathered n c.args.files.now (λ fs. calls.look_up full n fs k room) in
    answered_as (on_lent n c.args.files.now (λ fs. calls.look_up full n fs k room)) (on_list n c.gather-l.result (λ fs. calls.look_up full n fs k room)) c.args.out.now c.look_up_list.result c.look_up_list.new.out (sym e) c.look_up_list.ensures
