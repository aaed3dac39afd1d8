-- The loop's invariant: what is written, with the counters that are left, is all. Assumes nothing.
use Rattle.patch_over.specs.CounterLaws.{CountersWritten}
use Rattle.patch_over.proofs.lay_counters.Given as goal

abbrev pub invariant-loop-i : goal.invariant-loop-i
invariant-loop-i l = CountersWritten l.left l.list l.initial.out l.initial.next l.initial.rest l.initial.list_at l.out l.rest l.list_at l.next l.i
