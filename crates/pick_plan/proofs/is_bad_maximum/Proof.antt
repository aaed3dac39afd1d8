-- `pick_plan::is_bad_maximum` meets its contract. Assumes nothing.
use mathlib.Core.Path.{sym}
use Rattle.pick_plan.specs.ChoiceLaws.{maximum_low, maximum_high}
use Rattle.pick_plan.proofs.is_bad_maximum.Statement.{statement}
use Rattle.pick_plan.proofs.is_bad_maximum.Tie as tie

returns : tie.Need-returns-then-maximum-lt1
returns c = sym (maximum_low c.args.maximum c.if-maximum-lt1.true)

returns_2 : tie.Need-returns
returns_2 c = sym (maximum_high c.args.maximum c.if-maximum-lt1.false)

pub is_bad_maximum_spec : {M : Type 1} → statement M
is_bad_maximum_spec = tie.close (tie.spec returns returns_2)
