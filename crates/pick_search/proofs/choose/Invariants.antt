-- The loop of `choose`: its invariant is `Goes`. Assumes nothing.
use Rattle.pick_search.specs.AskedLaws.{Goes}
use Rattle.pick_search.proofs.choose.Given as goal

abbrev pub invariant-loop-k : goal.invariant-loop-k
invariant-loop-k l = Goes l.s.files l.s.counts l.fn.start l.fn.c l.k l.d
