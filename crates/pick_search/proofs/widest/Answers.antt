-- `widest` meets its contract: a question that does not widen is the answer. Assumes nothing.
use Rattle.std.proofs.Common.{refl, inr}
use Rattle.pick_search.specs.Search.{spanning}
use Rattle.pick_search.proofs.widest.Goals as goal

pub returns : goal.returns
unfolding spanning
returns c = (refl, inr (c.if-q.false, refl))
