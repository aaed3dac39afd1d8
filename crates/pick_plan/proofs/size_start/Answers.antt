-- `size_start` meets its contract: the laws of what a size pick starts with. Assumes nothing.
use Rattle.pick_found.specs.CallsLaws.{files_room}
use Rattle.pick_plan.specs.StartLaws.{start_places_room}
use Rattle.pick_plan.specs.OneLaws.{start_within, start_takable, start_completed}
use Rattle.pick_plan.proofs.size_start.Goals as goal

pub start_places-p-requires : goal.start_places-p-requires
start_places-p-requires c = (c.requires.2, files_room c.args.s.now 0 c.requires.1)

pub first_after-i-requires : goal.first_after-i-requires
first_after-i-requires c =
    let room = start_places_room c.args.s.now c.requires.0 c.requires.1 c.args.level c.requires.2 c.args.due in
    (c.requires.0, rw c.start_places-p.ensures room.1, rw c.start_places-p.ensures room.0)

pub file_at-f-requires : goal.file_at-f-requires
file_at-f-requires c =
    start_within c.args.s.now c.requires.0 c.requires.1 c.args.level c.requires.2 c.args.due c.start_places-p.result c.start_places-p.ensures c.first_after-i.result c.first_after-i.ensures c.start_place-j.result c.start_place-j.ensures

pub taken-first-requires : goal.taken-first-requires
taken-first-requires c = (
  c.requires.0,
  start_takable c.args.s.now c.requires.0 c.requires.1 c.args.level c.requires.2 c.args.due c.start_places-p.result c.start_places-p.ensures c.first_after-i.result c.first_after-i.ensures c.start_place-j.result c.start_place-j.ensures c.file_at-f.result
      c.file_at-f.ensures c.started_by-one.result c.started_by-one.ensures c.edge_question-q.result c.edge_question-q.ensures,
)

pub returns : goal.returns
returns c =
    start_completed c.args.s.now c.requires.0 c.requires.1 c.args.level c.requires.2 c.args.due c.start_places-p.result c.start_places-p.ensures c.first_after-i.result c.first_after-i.ensures c.start_place-j.result c.start_place-j.ensures
    c.file_at-f.result c.file_at-f.ensures c.started_by-one.result c.started_by-one.ensures c.edge_question-q.result c.edge_question-q.ensures c.taken-first.result c.taken-first.ensures
