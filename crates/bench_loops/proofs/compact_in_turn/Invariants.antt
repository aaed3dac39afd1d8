-- the loop of `compact_in_turn`: the picks done and those of the turns left, on the store as it is, make the whole
use Rattle.std.proofs.Common.{◌+◌, ◌-◌, ◌≡◌, ◌≤◌}
use Rattle.model.specs.File.{full}
use Rattle.model.specs.Pick as model
use Rattle.keys.specs.Key.{key_of}
use Rattle.bench_loops.specs.Turns.{many_done}
use Rattle.bench_loops.proofs.compact_in_turn.Given as goal

abbrev pub invariant-loop : goal.invariant-loop
invariant-loop l =
    record {
      same : l.done + many_done (λ t. model.manual_pick full t l.maximum l.level (key_of l.start) (key_of l.stop)) (l.times - l.counter) l.s ≡ many_done (λ t. model.manual_pick full t l.maximum l.level (key_of l.start) (key_of l.stop)) l.times l.fn.s;
      few : l.done ≤ l.counter;
    }
