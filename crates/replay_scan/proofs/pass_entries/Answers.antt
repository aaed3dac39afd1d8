-- `pass_entries` meets its contract: each turn passes one of the calls more, or finds that none is there. Assumes nothing.
use Rattle.std.proofs.Common.{arith}
use Rattle.model_replay.specs.Takes.{entry_takes}
use Rattle.replay_scan.specs.ScanLaws.{passes, told, parts_begin, parts_turn, parts_stop, parts_over, whole_part}
use Rattle.replay_scan.proofs.pass_entries.Goals as goal

pub loop-init : goal.loop-init
loop-init c = parts_begin c.args.src.now c.args.at c.args.n entry_takes (omega arith)

pub pass_entry-p-requires : goal.pass_entry-p-requires
pass_entry-p-requires c = c.loop.invariant.within

pub returns-then-not-p : goal.returns-then-not-p
returns-then-not-p c = told (parts_stop c.loop.invariant (omega arith) (passes c.args.src.now c.loop.next entry_takes c.pass_entry-p.ensures) c.if-not-p.true)

pub loop-preserved : goal.loop-preserved
loop-preserved c = parts_turn c.loop.invariant (omega arith) (whole_part c.args.src.now c.loop.next entry_takes c.pass_entry-p.ensures c.if-not-p.false)

pub returns : goal.returns
returns c = told (parts_over c.loop.invariant (omega arith))
