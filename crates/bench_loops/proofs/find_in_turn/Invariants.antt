-- the loop of `find_in_turn`: the round as it stands can go on, and will have the same sum
use Rattle.std.proofs.Common.{◌-◌, map}
use Rattle.records.specs.Record.{file_of}
use Rattle.bench_loops.specs.RoundsLaws.{Turning}
use Rattle.bench_loops.proofs.find_in_turn.Given as goal

abbrev pub invariant-loop : goal.invariant-loop
invariant-loop l =
    Turning (map file_of l.files) l.fn.round (record { next = l.next; after = l.after; left = l.fn.round.left - l.counter; sum = l.sum })
