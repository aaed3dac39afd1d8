-- The loop of `pass_parts`: the pass of the parts that are left is the pass of all.
use Rattle.model_replay.specs.Takes.{part_takes}
use Rattle.replay_scan.specs.ScanLaws.{PassedTo}
use Rattle.replay_scan.proofs.pass_parts.Given as goal

abbrev pub invariant-loop : goal.invariant-loop
invariant-loop l = PassedTo l.src l.at l.n (part_takes l.width l.keys) l.next l.counter
