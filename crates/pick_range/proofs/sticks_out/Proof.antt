-- `pick_range::sticks_out` meets its contract. Assumes nothing.
use mathlib.Core.Path.{◌≡◌, sym, ◌∙◌}
use mathlib.Core.Bool.{true}
use Rattle.model.specs.Range.{overlaps}
use Rattle.records.specs.Record.{file_of}
use Rattle.pick_range.specs.Ranges.{span_of}
use Rattle.pick_range.specs.RangesLaws.{sticks_none, sticks_before, sticks_after}
use borrow.Author.Rules.{rules}
use Rattle.pick_range.proofs.sticks_out.Statement.{statement}
use Rattle.pick_range.proofs.sticks_out.Tie as tie

overlaps-requires : tie.Need-overlaps-requires
overlaps-requires c κs = search rules

returns : tie.Need-returns-then-not-overlaps
returns c =
    let o = c in
    let a = o.args in
    sym (sticks_none (span_of a.span) (file_of a.f) (sym o.overlaps.ensures ∙ c.if-not-overlaps.true))

-- past the first test the file overlaps
over : (c : tie.Else-not-overlaps) → let a = c.args in overlaps (span_of a.span) (file_of a.f) ≡ true
over c = sym c.overlaps.ensures ∙ c.if-not-overlaps.false

user-is-after-requires : tie.Need-user_is_after-requires
user-is-after-requires c κs = search rules

returns_2 : tie.Need-returns-then-user_is_after
unfolding span_of file_of
returns_2 c =
    let e = c.before.before.before.before in
    let a = e.args in
    sym (sticks_before (span_of a.span) (file_of a.f) (over e) (sym c.user_is_after.ensures ∙ c.if-user_is_after.true))

user-is-before-requires : tie.Need-user_is_before-requires
user-is-before-requires c κs = search rules

returns_3 : tie.Need-returns
unfolding span_of file_of
returns_3 c =
    let t = c in
    let e = t.before.before.before.before.before.before.before in
    let a = e.args in
    sym (sticks_after (span_of a.span) (file_of a.f) (over e) (sym t.user_is_after.ensures ∙ t.if-user_is_after.false) ∙ sym c.user_is_before.ensures)

pub sticks_out_spec : {M : Type 1} → statement M
sticks_out_spec = tie.close (tie.spec overlaps-requires returns user-is-after-requires returns_2 user-is-before-requires returns_3)
