-- The loops of `pick_range::widened`. The range is a step towards the least widening, and once settled no file sticks out. Each pass settles or leaves fewer files
-- outside. Assumes nothing.
use Rattle.std.proofs.Common.{◌≡◌, ◌+◌, true, cond}
use Rattle.std.proofs.Math.Option.{none}
use Rattle.lemmas.specs.Lists.{find}
use Rattle.model.specs.Range.{sticks_out}
use Rattle.records.specs.Run.{run}
use Rattle.pick_range.specs.Ranges.{span_of}
use Rattle.pick_range.specs.WideningLaws.{OnTheWay, outsiders, Pass}
use Rattle.pick_range.proofs.widened.Given as goal

abbrev pub invariant-loop-f : goal.invariant-loop-f
invariant-loop-f l = Pass l.from l.end l.fn.files (span_of l.initial.wide) (span_of l.wide) l.settled (l.from + l.f-index)

abbrev pub invariant-loop-settled : goal.invariant-loop-settled
invariant-loop-settled l = record {
  way : OnTheWay (run l.from l.end l.files) (span_of l.fn.span) (span_of l.wide);
  still : l.settled ≡ true → find (sticks_out (span_of l.wide)) (run l.from l.end l.files) ≡ none;
}

abbrev pub decreases-loop-settled : goal.decreases-loop-settled
decreases-loop-settled l = outsiders (run l.from l.end l.files) (span_of l.wide) + cond l.settled 0 1
