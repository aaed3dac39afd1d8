-- `make_size` meets its contract. Assumes nothing.
use Rattle.std.proofs.Common.{Ok, Err, sym, ◌∙◌}
use Rattle.model.specs.History.{picks_size}
use Rattle.answers.specs.Outcome.{number_of}
use Rattle.store.proofs.Shape.{shape}
use Rattle.replay_given.specs.Given.{said_by, plain_given, picked_given}
use Rattle.replay_call.specs.StepLaws.{plain_fits, picked_fits, made_laid, size_makes}
use Rattle.replay_call.proofs.make_size.Goals as goal

pub put_pick-requires : goal.put_pick-requires
put_pick-requires c =
    let a = c.args in
    let p = c.in-Ok.p in
    let m = size_makes a.s (shape a.s _ c.well_formed.0) c.requires.0 a.maximum (Ok p) (sym c.in-Ok.is ∙ c.pick_compaction.ensures) in
    (m.tells, picked_fits (Ok p.picked) a.room.now m.tells c.requires.1)

pub put_plain-requires : goal.put_plain-requires
put_plain-requires c = plain_fits (Err c.number.result) c.args.room.now c.requires.1

pub returns-in-Ok : goal.returns-in-Ok
returns-in-Ok c =
    let a = c.args in
    let p = c.in-Ok.p in
    let m = size_makes a.s (shape a.s _ c.well_formed.0) c.requires.0 a.maximum (Ok p) (sym c.in-Ok.is ∙ c.pick_compaction.ensures) in
    made_laid a.s (picks_size a.maximum) p.store (picked_given (Ok p.picked)) a.room.now c.put_pick.new.out c.put_pick.result m.made c.put_pick.ensures

pub returns-in-Err : goal.returns-in-Err
unfolding said_by
returns-in-Err c =
    let a = c.args in
    let r = c.in-Err.r in
    let m = size_makes a.s (shape a.s _ c.well_formed.0) c.requires.0 a.maximum (Err r) (sym c.in-Err.is ∙ c.pick_compaction.ensures) in
    made_laid a.s (picks_size a.maximum) a.s (plain_given (Err (number_of r))) a.room.now c.put_plain.new.out c.put_plain.result m.made (rw c.number.ensures at c.put_plain.ensures)
