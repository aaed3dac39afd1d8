-- `searched` meets its contract: the laws of a search by its question. Assumes nothing.
use Rattle.pick_found.specs.CallsLaws.{files_room}
use Rattle.pick_search.specs.ChooseLaws.{search_findable, search_takable}
use Rattle.pick_search.proofs.searched.Goals as goal

pub asked-q-requires : goal.asked-q-requires
asked-q-requires c = (c.requires.2, c.requires.3, files_room c.args.s.now 0 c.requires.1)

pub overlap-found-requires : goal.overlap-found-requires
overlap-found-requires c = (c.requires.0, search_findable c.args.s.now c.args.d c.args.k c.requires.0 c.requires.1 c.asked-q.result c.asked-q.ensures)

pub taken-list-requires : goal.taken-list-requires
taken-list-requires c = (c.requires.0, search_takable c.args.s.now c.args.d c.args.k c.requires.0 c.requires.1 c.asked-q.result c.asked-q.ensures c.overlap-found.result c.overlap-found.ensures)
