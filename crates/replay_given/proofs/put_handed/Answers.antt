-- `put_handed` meets its contract: a tag and the number, or a refusal. Assumes nothing.
use Rattle.std.proofs.Common.{length, ap, arith}
use Rattle.model.specs.Snapshot.{number_long}
use Rattle.model_replay.specs.Given.{handed}
use Rattle.model_replay.specs.Recording.{handed_tag}
use Rattle.keys.specs.declared.FileNumber.{FileNumber}
use Rattle.replay_given.specs.Given.{handed_given, given_bytes}
use Rattle.replay_given.specs.GivenLaws.{refused_given, handed_is, numbered_long, numbered_laid}
use Rattle.replay_given.proofs.put_handed.Goals as goal

pub put_number-requires : goal.put_number-requires
put_number-requires c =
    let o = c.args.o in
    let x = c.in-Ok.number in
    let n = numbered_long (given_bytes (handed_given o)) handed_tag number_long x.0 (handed_is o x c.in-Ok.is) in
    omega arith

pub put_number-requires-in-Ok : goal.put_number-requires-in-Ok
put_number-requires-in-Ok c =
    let o = c.args.o in
    let x = c.in-Ok.number in
    let n = numbered_long (given_bytes (handed_given o)) handed_tag number_long x.0 (handed_is o x c.in-Ok.is) in
    omega arith

pub put_refused-requires : goal.put_refused-requires
put_refused-requires c =
    let n = ap length (refused_given (λ (x : FileNumber). handed x.0) c.args.o c.in-Err.n c.in-Err.is) in
    omega arith

pub returns-in-Ok : goal.returns-in-Ok
returns-in-Ok c =
    let a = c.args in
    let x = c.in-Ok.number in
    let bs = given_bytes (handed_given a.o) in
    let done = handed_is a.o x c.in-Ok.is in
    let n = numbered_long bs handed_tag number_long x.0 done in
    let o = c.put_number.new.out in
    (omega arith, numbered_laid bs handed_tag number_long x.0 done a.out.now o c.put_number-in-Ok.new.out a.at (omega arith) c.put_number.ensures c.put_number-in-Ok.ensures)

pub returns-in-Err : goal.returns-in-Err
returns-in-Err c = rw (refused_given (λ (x : FileNumber). handed x.0) c.args.o c.in-Err.n c.in-Err.is) c.put_refused.ensures
