-- `script_edit::edit_of` meets its contract. The loop's invariant: the edit so far with the words after the place is the edit of the line. Assumes nothing.
use Prim.Native.Nat.{◌-◌}
use mathlib.Core.Path.{◌≡◌, sym, ap, ◌∙◌}
use lib.ListN.{length}
use Rattle.edit.specs.declared.Edit.{Edit}
use Rattle.script_edit.specs.Items.{items_after, edit_of_line}
use Rattle.script_edit.specs.ItemLaws.{items_end, items_next}
use borrow.Author.Rules.{rules}
use Rattle.script_edit.proofs.edit_of.Statement.{statement}
use Rattle.script_edit.proofs.edit_of.Tie as tie

abbrev invariant-loop : tie.invariant-loop-at
invariant-loop line n e₀ at₀ e at = items_after (length line) line e at ≡ edit_of_line line

abbrev decreases-loop : tie.decreases-loop-at
decreases-loop line n e₀ at₀ e at = length line - at

empty-requires : tie.Need-empty-e-requires invariant-loop decreases-loop
empty-requires c κs = search rules

place-of-requires : tie.Need-place_of-at-requires invariant-loop decreases-loop
place-of-requires c κs = search rules

loop-holds : tie.Need-loop-at-init invariant-loop decreases-loop
unfolding edit_of_line
loop-holds c =
    let l = c.args.line.now in
    ap (λ (x : Edit). items_after (length l) l x c.place_of-at.result) c.empty-e.ensures ∙ ap (items_after (length l) l _) c.place_of-at.ensures

add-from : tie.Need-overflow_add-from invariant-loop decreases-loop
add-from c = search rules

place-of-requires-2 : tie.Need-place_of-to-requires invariant-loop decreases-loop
place-of-requires-2 c κs = search rules

with-item-requires : tie.Need-with_item-e-requires invariant-loop decreases-loop
with-item-requires c κs = search rules

loop-less : tie.Need-loop-at-smaller invariant-loop decreases-loop
loop-less c = search rules

loop-again : tie.Need-loop-at-preserved invariant-loop decreases-loop
loop-again c =
    let l = c.args.line.now in
    items_next l c.loop-at.e _ c.loop-at.at _ c.loop-at-test.true c.place_of-to.ensures c.with_item-e.ensures ∙ c.loop-at.invariant

returns : tie.Need-returns invariant-loop decreases-loop
returns c =
    let l = c.args.line.now in
    sym (items_end l (length l) c.loop-at.e c.loop-at.at c.loop-at-test.false) ∙ c.loop-at.invariant

pub edit_of_spec : {M : Type 1} → statement M
edit_of_spec = tie.close (tie.spec invariant-loop decreases-loop empty-requires place-of-requires loop-holds add-from place-of-requires-2 with-item-requires loop-less loop-again returns)
