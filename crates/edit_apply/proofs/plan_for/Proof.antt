-- `edit_apply::plan_for` meets its contract. Assumes nothing.
use borrow.Author.Rules.{rules}
use Rattle.edit_apply.specs.Apply.{plan_by}
use Rattle.edit_apply.proofs.plan_for.Statement.{statement}
use Rattle.edit_apply.proofs.plan_for.Tie as tie

planned-requires : tie.Need-planned-requires
planned-requires c κs = search rules

returns : tie.Need-returns
unfolding plan_by
returns c = c.planned.ensures

pub plan_for_spec : {M : Type 1} → statement M
plan_for_spec = tie.close (tie.spec planned-requires returns)
