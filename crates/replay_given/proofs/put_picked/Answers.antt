-- `put_picked` meets its contract: what was picked, or a refusal. Assumes nothing.
use Rattle.std.proofs.Common.{length, ap, arith}
use Rattle.model_replay.specs.Given.{picked, choice_of}
use Rattle.pick_answer.specs.declared.Picked.{Picked}
use Rattle.pick_answer.specs.Picked.{picked_of}
use Rattle.replay_given.specs.GivenLaws.{refused_given}
use Rattle.replay_given.proofs.put_picked.Goals as goal

pub put_pick-requires : goal.put_pick-requires
put_pick-requires c = rw c.in-Ok.is at c.requires

pub put_refused-requires : goal.put_refused-requires
put_refused-requires c =
    let n = ap length (refused_given (λ (x : Picked). picked (choice_of (picked_of x))) c.args.o c.in-Err.n c.in-Err.is) in
    omega (arith, n, c.requires.1)

pub returns-in-Ok : goal.returns-in-Ok
returns-in-Ok c = rw c.in-Ok.is c.put_pick.ensures

pub returns-in-Err : goal.returns-in-Err
returns-in-Err c = rw (refused_given (λ (x : Picked). picked (choice_of (picked_of x))) c.args.o c.in-Err.n c.in-Err.is) c.put_refused.ensures
