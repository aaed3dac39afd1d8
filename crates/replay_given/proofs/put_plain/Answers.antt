-- `put_plain` meets its contract: a tag, or a refusal. Assumes nothing.
use Rattle.std.proofs.Common.{length, ap, arith}
use Rattle.model_replay.specs.Given.{accepted}
use Rattle.model_replay.specs.Recording.{accepted_tag}
use Rattle.replay_given.specs.Given.{plain_given, given_bytes}
use Rattle.replay_given.specs.GivenLaws.{refused_given, accepted_is, bare_long, bare_laid}
use Rattle.replay_given.proofs.put_plain.Goals as goal

pub put_number-requires : goal.put_number-requires
put_number-requires c =
    let o = c.args.o in
    let n = bare_long (given_bytes (plain_given o)) accepted_tag (accepted_is o _ c.in-Ok.is) in
    omega arith

pub put_refused-requires : goal.put_refused-requires
put_refused-requires c =
    let n = ap length (refused_given (λ (u : Unit). accepted) c.args.o c.in-Err.n c.in-Err.is) in
    omega arith

pub returns-in-Ok : goal.returns-in-Ok
returns-in-Ok c =
    let a = c.args in
    let bs = given_bytes (plain_given a.o) in
    let done = accepted_is a.o _ c.in-Ok.is in
    let n = bare_long bs accepted_tag done in
    (omega arith, bare_laid bs accepted_tag done a.out.now c.put_number.new.out a.at c.put_number.ensures)

pub returns-in-Err : goal.returns-in-Err
returns-in-Err c = rw (refused_given (λ (u : Unit). accepted) c.args.o c.in-Err.n c.in-Err.is) c.put_refused.ensures
