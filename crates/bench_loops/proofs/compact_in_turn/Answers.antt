-- `compact_in_turn` meets its contract: where the turns of manual picks stand (`TurnsLaws.antt`). Assumes nothing.
use Rattle.std.proofs.Common.{◌≡◌, ◌+◌, sym, ◌∙◌, arith}
use Rattle.model.specs.File.{full}
use Rattle.model.specs.Pick as model
use Rattle.keys.specs.Key.{key_of}
use Rattle.bench_loops.specs.Turns.{done_by}
use Rattle.bench_loops.specs.TurnsLaws.{Standing, more_one, more_none, next_same, next_few, standing_ended, ranges_are}
use Rattle.bench_loops.proofs.compact_in_turn.Goals as goal
use Rattle.bench_loops.proofs.compact_in_turn.Goals.{then-is_ok, else-is_ok}

pub loop-preserved : goal.loop-preserved
loop-preserved c =
    let i = c.loop.invariant in
    let p : Standing (λ t. model.manual_pick full t c.args.maximum c.args.level (key_of c.args.start) (key_of c.args.stop)) c.args.times c.args.s.now = record { store = c.loop.s; done = c.loop.done; turns = c.loop.counter; same = i.same; few = i.few; within = omega arith } in
    let r = c.compact_range.result in
    let e : c.if-is_ok.done ≡ c.loop.done + done_by r =
    elim c.if-is_ok.branch [
      | then-is_ok w ↦ omega (arith, w.done-is, more_one r (sym c.is_ok.ensures.value ∙ w.if-is_ok.true))
      | else-is_ok w ↦ omega (arith, w.done-is, more_none r (sym c.is_ok.ensures.value ∙ w.if-is_ok.false))
    ] in
    record {
      same = next_same (λ t. model.manual_pick full t c.args.maximum c.args.level (key_of c.args.start) (key_of c.args.stop)) c.args.times c.args.s.now p c.loop-test.true _ _ c.compact_range.ensures _ e;
      few = next_few (λ t. model.manual_pick full t c.args.maximum c.args.level (key_of c.args.start) (key_of c.args.stop)) c.args.times c.args.s.now p c.loop-test.true _ _ c.compact_range.ensures _ e;
    }

pub returns : goal.returns
returns c =
    let i = c.loop.invariant in
    let p : Standing (λ t. model.manual_pick full t c.args.maximum c.args.level (key_of c.args.start) (key_of c.args.stop)) c.args.times c.args.s.now = record { store = c.loop.s; done = c.loop.done; turns = c.loop.counter; same = i.same; few = i.few; within = omega arith } in
    omega (arith, ranges_are c.args.times c.args.s.now c.args.maximum c.args.level (key_of c.args.start) (key_of c.args.stop), standing_ended (λ t. model.manual_pick full t c.args.maximum c.args.level (key_of c.args.start) (key_of c.args.stop)) c.args.times c.args.s.now p c.loop-test.false)
