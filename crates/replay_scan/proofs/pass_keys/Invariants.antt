-- The loop of `pass_keys`: the pass of the keys that are left is the pass of all.
use Rattle.model_replay.specs.Takes.{key_takes}
use Rattle.replay_scan.specs.ScanLaws.{PassedTo}
use Rattle.replay_scan.proofs.pass_keys.Given as goal

abbrev pub invariant-loop : goal.invariant-loop
invariant-loop l = PassedTo l.src l.at l.keys key_takes l.next l.counter
