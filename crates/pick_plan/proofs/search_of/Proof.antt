-- `pick_plan::search_of` meets its contract. Assumes nothing.
use mathlib.Core.Path.{sym}
use Rattle.pick_plan.specs.ChoiceLaws.{search_first, search_deeper}
use Rattle.pick_plan.proofs.search_of.Statement.{statement}
use Rattle.pick_plan.proofs.search_of.Tie as tie

returns : tie.Need-returns-then-level-eq0
returns c = sym (search_first c.args.level c.if-level-eq0.true)

returns_2 : tie.Need-returns
returns_2 c = sym (search_deeper c.args.level c.if-level-eq0.false)

pub search_of_spec : {M : Type 1} → statement M
search_of_spec = tie.close (tie.spec returns returns_2)
