-- `differing` meets its contract. Assumes nothing.
use Rattle.std.proofs.Common.{refl, ◌+◌, replicate}
use Rattle.replay_given.specs.Given.{longest_given}
use Rattle.replay.specs.ReplayingLaws.{differs_is}
use Rattle.replay.proofs.differing.Goals as goal

pub returns : goal.returns
returns c =
    let a = c.args in
    differs_is (a.place + a.stop.calls) a.stop.from a.stop.to _ a.answer.now (replicate longest_given 0) c.copy_into.new.out c.requires.0 refl c.copy_into.ensures refl
