-- `edit_stayers::stays` meets its contract. Assumes nothing.
use mathlib.Core.Path.{sym, ◌∙◌}
use borrow.Author.Rules.{rules}
use Rattle.edit_stayers.proofs.Staying.{stays_added, stays_untouched}
use Rattle.edit_stayers.proofs.stays.Statement.{statement}
use Rattle.edit_stayers.proofs.stays.Tie as tie

has-pair-requires : tie.Need-has_pair-requires
has-pair-requires c κs = search rules

has-pair-requires-2 : tie.Need-has_pair-requires-then-has_pair
has-pair-requires-2 c κs = search rules

returns : tie.Need-returns-then-has_pair
returns c =
    let a = c.args in
    let d = c in
    c.has_pair-then-has_pair.ensures
    ∙ sym (stays_added a.deleted_levels.now a.deleted.now a.added_levels.now a.added.now a.level a.number (sym d.has_pair.ensures ∙ d.if-has_pair.true))

returns_2 : tie.Need-returns
returns_2 c =
    let a = c.args in
    let d = c in
    sym (stays_untouched a.deleted_levels.now a.deleted.now a.added_levels.now a.added.now a.level a.number (sym d.has_pair.ensures ∙ c.if-has_pair.false))

pub stays_spec : {M : Type 1} → statement M
stays_spec = tie.close (tie.spec has-pair-requires has-pair-requires-2 returns returns_2)
