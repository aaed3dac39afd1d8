-- `edit_plan::crowded` meets its contract. Assumes nothing.
use mathlib.Core.Path.{sym, ◌∙◌}
use mathlib.Core.List.{[], ◌∷◌}
use borrow.Author.Tests.{lt-ltb, le-ltb}
use lib.Dec.{ltb}
use Rattle.model.specs.File.{max_files}
use Rattle.model.specs.Answer.{◌⇒◌}
use Rattle.answers.specs.OutcomeLaws.{passed_nil, passed_here, passed_later}
use Rattle.edit_plan.proofs.crowded.Statement.{statement}
use Rattle.edit_plan.proofs.crowded.Tie as tie

returns : tie.Need-returns-then-twice
returns c =
    let a = c.args in
    sym (passed_here a.twice 6 ((ltb max_files a.total ⇒ 8) ∷ []) c.if-twice.true)

returns_2 : tie.Need-returns-then-total-gt-ROOM
returns_2 c =
    let a = c.args in
    sym (passed_later a.twice 6 ((ltb max_files a.total ⇒ 8) ∷ []) c.if-twice.false ∙ passed_here (ltb max_files a.total) 8 [] (lt-ltb max_files a.total c.if-total-gt-ROOM.true))

returns_3 : tie.Need-returns
returns_3 c =
    let a = c.args in
    sym (passed_later a.twice 6 ((ltb max_files a.total ⇒ 8) ∷ []) c.if-twice.false ∙ passed_later (ltb max_files a.total) 8 [] (le-ltb max_files a.total c.if-total-gt-ROOM.false) ∙ passed_nil)

pub crowded_spec : {M : Type 1} → statement M
crowded_spec = tie.close (tie.spec returns returns_2 returns_3)
