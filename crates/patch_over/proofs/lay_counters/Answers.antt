-- `lay_counters` meets its contract. Assumes nothing.
use Rattle.std.proofs.Common.{drop, arith}
use Rattle.patch_scan.specs.Outcome.{all_counters_over}
use Rattle.patch_over.specs.PieceLaws.{no_count}
use Rattle.patch_over.specs.CounterLaws.{CounterFound, Counted, named_some, named_none, counter_named, counter_kept, counter_full, counters_done}
use Rattle.patch_over.proofs.lay_counters.Goals as goal
use Rattle.patch_over.proofs.lay_counters.Goals.{then-rest-gt0, else-rest-gt0, then-named, else-named}

pub returns-then-out-at-lt-COUNT : goal.returns-then-out-at-lt-COUNT
returns-then-out-at-lt-COUNT c =
    let a = c.args in
    no_count a.out.now a.at (all_counters_over a.left.now (drop a.b a.list.now)) (omega (arith, c.requires.1))

pub returns-in_err-next : goal.returns-in_err-next
returns-in_err-next c =
    let a = c.args in
    let l = c.loop-i in
    let place = c.get_number-place.result in
    let entry = drop l.list_at a.list.now in
    let named = c.if-rest-gt0.named in
    let counted : Counted a.list.now a.out.now a.at a.b c.put_number.new.out c.get_number-rest.result c.after-list_at.result = record { room = omega arith; count = c.put_number.ensures; reads = c.get_number-rest.ensures; starts = c.after-list_at.ensures.1 } in
    let found : CounterFound a.left.now a.list.now l.i l.rest l.list_at named c.after-y.result c.after-y_end.result c.after-x.result c.after-x_end.result = record {
      below = omega arith;
      in_list = l.invariant.in_list;
      says = elim c.if-rest-gt0.branch [ then-rest-gt0 w ↦ named_some l.rest place l.i entry named w.if-rest-gt0.true c.get_number-place.ensures w.named-is | else-rest-gt0 w ↦ named_none l.rest place l.i entry named w.if-rest-gt0.false w.named-is ];
      at_list = c.after-y.ensures.1;
      up_list = c.after-y_end.ensures.0;
      end_list = c.after-y_end.ensures.1;
      at_left = c.after-x.ensures.1;
      up_left = c.after-x_end.ensures.0;
      end_left = c.after-x_end.ensures.1;
    } in
    rw c.from_residual.ensures (counter_full a.left.now counted l.invariant found c.in_err-next.ensures)

pub loop-i-preserved : goal.loop-i-preserved
loop-i-preserved c =
    let a = c.args in
    let l = c.loop-i in
    let place = c.get_number-place.result in
    let entry = drop l.list_at a.list.now in
    let named = c.if-rest-gt0.named in
    let found : CounterFound a.left.now a.list.now l.i l.rest l.list_at named c.after-y.result c.after-y_end.result c.after-x.result c.after-x_end.result = record {
      below = omega arith;
      in_list = l.invariant.in_list;
      says = elim c.if-rest-gt0.branch [ then-rest-gt0 w ↦ named_some l.rest place l.i entry named w.if-rest-gt0.true c.get_number-place.ensures w.named-is | else-rest-gt0 w ↦ named_none l.rest place l.i entry named w.if-rest-gt0.false w.named-is ];
      at_list = c.after-y.ensures.1;
      up_list = c.after-y_end.ensures.0;
      end_list = c.after-y_end.ensures.1;
      at_left = c.after-x.ensures.1;
      up_left = c.after-x_end.ensures.0;
      end_left = c.after-x_end.ensures.1;
    } in
    elim c.if-named.branch [
      | then-named w ↦ rw (w.rest-is, w.list_at-is) (counter_named found l.invariant c.in_ok-next.ensures w.if-named.true)
      | else-named w ↦ rw (w.rest-is, w.list_at-is) (counter_kept found l.invariant c.in_ok-next.ensures w.if-named.false)
    ]

pub returns : goal.returns
returns c =
    let a = c.args in
    let counted : Counted a.list.now a.out.now a.at a.b c.put_number.new.out c.get_number-rest.result c.after-list_at.result = record { room = omega arith; count = c.put_number.ensures; reads = c.get_number-rest.ensures; starts = c.after-list_at.ensures.1 } in
    counters_done a.left.now counted c.loop-i.invariant (omega arith)
