-- The loop of `pass_entries`: the pass of the calls that are left is the pass of all.
use Rattle.model_replay.specs.Takes.{entry_takes}
use Rattle.replay_scan.specs.ScanLaws.{PassedTo}
use Rattle.replay_scan.proofs.pass_entries.Given as goal

abbrev pub invariant-loop : goal.invariant-loop
invariant-loop l = PassedTo l.src l.at l.n entry_takes l.next l.counter
