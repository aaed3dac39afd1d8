-- `levels::may_follow` meets its contract. Assumes nothing.
use mathlib.Core.Path.{sym, ap, ◌∙◌}
use mathlib.Core.Bool.{not}
use borrow.Author.Rules.{rules}
use Rattle.model.specs.File.{by_smallest}
use Rattle.records.specs.Record.{file_of}
use Rattle.levels.specs.LevelsLaws.{follows_first, follows_deeper}
use Rattle.levels.proofs.may_follow.Statement.{statement}
use Rattle.levels.proofs.may_follow.Tie as tie

is-before-requires : tie.Need-is_before-requires
is-before-requires c κs = search rules

returns : tie.Need-returns-then-level-eq0
unfolding file_of by_smallest
returns c =
    let a = c.args in
    ap not c.is_before.ensures ∙ sym (follows_first a.level (file_of a.f) (file_of a.g) c.if-level-eq0.true)

is-before-requires-2 : tie.Need-is_before-requires-2
is-before-requires-2 c κs = search rules

returns_2 : tie.Need-returns
unfolding file_of by_smallest
returns_2 c =
    let a = c.args in
    c.is_before-2.ensures ∙ sym (follows_deeper a.level (file_of a.f) (file_of a.g) c.if-level-eq0.false)

pub may_follow_spec : {M : Type 1} → statement M
may_follow_spec = tie.close (tie.spec is-before-requires returns is-before-requires-2 returns_2)
