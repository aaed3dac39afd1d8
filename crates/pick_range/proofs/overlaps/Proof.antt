-- `pick_range::overlaps` meets its contract. Assumes nothing.
use mathlib.Core.Path.{sym, ap, ◌∙◌}
use mathlib.Core.Bool.{not}
use Rattle.model.specs.Range.{overlaps}
use Rattle.records.specs.Record.{file_of}
use Rattle.pick_range.specs.Ranges.{span_of}
use borrow.Author.Rules.{rules}
use Rattle.pick_range.proofs.overlaps.Statement.{statement}
use Rattle.pick_range.proofs.overlaps.Tie as tie

user-is-after-requires : tie.Need-user_is_after-requires
user-is-after-requires c κs = search rules

returns : tie.Need-returns-then-user_is_after
unfolding overlaps span_of file_of
returns c =
    rw (sym c.user_is_after.ensures ∙ c.if-user_is_after.true)

user-is-before-requires : tie.Need-user_is_before-requires
user-is-before-requires c κs = search rules

returns_2 : tie.Need-returns
unfolding overlaps span_of file_of
returns_2 c =
    rw (sym c.user_is_after.ensures ∙ c.if-user_is_after.false) (ap not c.user_is_before.ensures)

pub overlaps_spec : {M : Type 1} → statement M
overlaps_spec = tie.close (tie.spec user-is-after-requires returns user-is-before-requires returns_2)
