-- `pick_answer::as_levels` meets its contract. Assumes nothing.
use mathlib.Core.Path.{sym}
use Rattle.pick_answer.specs.PickedLaws.{levels_first, levels_deeper}
use Rattle.pick_answer.proofs.as_levels.Statement.{statement}
use Rattle.pick_answer.proofs.as_levels.Tie as tie

returns : tie.Need-returns-then-level-eq0
returns c =
    let a = c.args in
    sym (levels_first a.level a.first a.second a.grand c.if-level-eq0.true)

returns_2 : tie.Need-returns
returns_2 c =
    let a = c.args in
    sym (levels_deeper a.level a.first a.second a.grand c.if-level-eq0.false)

pub as_levels_spec : {M : Type 1} → statement M
as_levels_spec = tie.close (tie.spec returns returns_2)
