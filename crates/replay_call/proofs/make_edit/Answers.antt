-- `make_edit` meets its contract. Assumes nothing.
use Rattle.std.proofs.Common.{drop, Ok, Err}
use Rattle.model.specs.History.{edits}
use Rattle.answers.specs.Outcome.{number_of}
use Rattle.store.proofs.Shape.{shape}
use Rattle.replay_given.specs.Given.{plain_given}
use Rattle.replay_call.specs.Call.{edit_in}
use Rattle.replay_call.specs.StepLaws.{plain_fits, made_laid, edit_makes}
use Rattle.replay_call.proofs.make_edit.Goals as goal

pub put_plain-requires : goal.put_plain-requires
put_plain-requires c = plain_fits (Ok tt) c.args.room.now c.requires.2

pub put_plain-requires-in-Err : goal.put_plain-requires-in-Err
put_plain-requires-in-Err c = plain_fits (Err c.number.result) c.args.room.now c.requires.2

pub returns-in-Ok : goal.returns-in-Ok
returns-in-Ok c =
    let a = c.args in
    let e = edit_in (drop a.at a.src.now) in
    let t = c.in-Ok.store in
    let made = edit_makes a.s (shape a.s _ c.well_formed.0) c.requires.0 e c.edit_at-e.result (Ok t) c.edit_at-e.ensures c.in-Ok.ensures in
    made_laid a.s (edits e) t (plain_given (Ok tt)) a.room.now c.put_plain.new.out c.put_plain.result made c.put_plain.ensures

pub returns-in-Err : goal.returns-in-Err
returns-in-Err c =
    let a = c.args in
    let e = edit_in (drop a.at a.src.now) in
    let r = c.in-Err.r in
    let made = edit_makes a.s (shape a.s _ c.well_formed.0) c.requires.0 e c.edit_at-e.result (Err r) c.edit_at-e.ensures c.in-Err.ensures in
    made_laid a.s (edits e) a.s (plain_given (Err (number_of r))) a.room.now c.put_plain-in-Err.new.out c.put_plain-in-Err.result made (rw c.number.ensures at c.put_plain-in-Err.ensures)
