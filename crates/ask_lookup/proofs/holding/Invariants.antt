-- The loop of `holding`: its invariant is `Laying`.
use Rattle.model.specs.Question.{holds}
use Rattle.keys.specs.Key.{user_of}
use Rattle.ask_lookup.specs.LookupLaws.{Laying}
use Rattle.ask_lookup.proofs.holding.Given as goal

abbrev pub invariant-loop-f : goal.invariant-loop-f
invariant-loop-f l = Laying (holds (user_of l.u)) l.n l.fn.files l.out l.count l.f-index
