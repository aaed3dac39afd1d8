-- `find_in_turn` meets its contract: each turn keeps the sum that comes (`RoundsLaws.antt`). Assumes nothing.
use Rattle.std.proofs.Common.{◌≡◌, ◌+◌, ◌-◌, ◌<◌, ◌≤◌, map, arith, rules}
use Rattle.records.specs.Record.{file_of}
use Rattle.bench_loops.specs.declared.Round.{Round}
use Rattle.bench_loops.specs.Rounds.{round_most}
use Rattle.bench_loops.specs.RoundsLaws.{turn_small, turning_keeps, turning_ended}
use Rattle.bench_loops.proofs.find_in_turn.Goals as goal

pub overflow_add-sum : goal.overflow_add-sum
overflow_add-sum c =
    let r : Round = record { next = c.loop.next; after = c.loop.after; left = c.args.round.left - c.loop.counter; sum = c.loop.sum } in
    let some : 0 < c.args.round.left - c.loop.counter = omega arith in
    let small : c.loop.sum + c.find_in_level-sum.result ≤ round_most = turn_small (map file_of c.args.files.now) r _ c.find_in_level-sum.ensures some c.loop.invariant.asking in
    search rules

pub loop-preserved : goal.loop-preserved
loop-preserved c =
    let r : Round = record { next = c.loop.next; after = c.loop.after; left = c.args.round.left - c.loop.counter; sum = c.loop.sum } in
    let some : 0 < c.args.round.left - c.loop.counter = omega arith in
    let e : c.args.round.left - (c.loop.counter + 1) ≡ c.args.round.left - c.loop.counter - 1 = omega arith in
    rw e (turning_keeps (map file_of c.args.files.now) c.args.round r c.loop.invariant some _ c.find_in_level-sum.ensures)

pub returns : goal.returns
returns c =
    let r : Round = record { next = c.loop.next; after = c.loop.after; left = c.args.round.left - c.loop.counter; sum = c.loop.sum } in
    let none : c.args.round.left - c.loop.counter ≤ 0 = omega arith in
    turning_ended (map file_of c.args.files.now) c.args.round r c.loop.invariant none
