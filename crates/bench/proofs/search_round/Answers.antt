-- `search_round` asks only what may be asked: the list was tested, and a round is short. Assumes nothing.
use Rattle.std.proofs.Common.{◌+◌, ◌*◌, ◌≤◌, arith}
use Rattle.level_list.specs.ListLaws.{well_room}
use Rattle.bench_loops.specs.RoundsLaws.{well_asking}
use Rattle.bench.proofs.search_round.Goals as goal

pub find_many-sum-requires : goal.find_many-sum-requires
find_many-sum-requires c =
    let l = c.args.l in
    let r = c.round_of.result in
    let well = c.requires.0 in
    let small : r.sum + 256 * r.left ≤ 1099511627776 = omega (arith, c.round_of.ensures, c.requires.1) in
    (well_room 2 l well, well_asking 2 l r (λ e. omega arith) well small)
