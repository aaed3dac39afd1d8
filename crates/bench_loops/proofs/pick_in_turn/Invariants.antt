-- the loop of `pick_in_turn`: the picks done and those of the turns left, on the store as it is, make the whole
use Rattle.std.proofs.Common.{◌+◌, ◌-◌, ◌≡◌, ◌≤◌}
use Rattle.model.specs.File.{full}
use Rattle.model.specs.Pick as model
use Rattle.bench_loops.specs.Turns.{many_done}
use Rattle.bench_loops.proofs.pick_in_turn.Given as goal

abbrev pub invariant-loop : goal.invariant-loop
invariant-loop l =
    record {
      same : l.done + many_done (λ t. model.size_pick full t l.maximum) (l.times - l.counter) l.s ≡ many_done (λ t. model.size_pick full t l.maximum) l.times l.fn.s;
      few : l.done ≤ l.counter;
    }
