-- `script_edit::with_item` meets its contract. Assumes nothing.
use mathlib.Core.Path.{sym, ap, ◌∙◌}
use borrow.Author.Tests.{eq-eqb, ne_eqb}
use Rattle.edit.specs.Edit.{with_addition, with_deletion, with_pointing, with_log}
use Rattle.script_edit.specs.Items.{item_of}
use borrow.Author.Rules.{rules}
use Rattle.script_edit.proofs.with_item.Statement.{statement}
use Rattle.script_edit.proofs.with_item.Tie as tie

byte-at-requires : tie.Need-byte_at-mark-requires
byte-at-requires c κs = search rules

addition-requires : tie.Need-addition-requires
addition-requires c κs = search rules

add-requires : tie.Need-add-requires
add-requires c κs = search rules

returns : tie.Need-returns-then-mark-eq97
unfolding item_of
returns c = rw (eq-eqb _ _ (sym c.byte_at-mark.ensures ∙ c.if-mark-eq97.true)) (c.add.ensures ∙ ap (with_addition c.args.e) c.addition.ensures)

deletion-requires : tie.Need-deletion-requires
deletion-requires c κs = search rules

delete-requires : tie.Need-delete-requires
delete-requires c κs = search rules

returns_2 : tie.Need-returns-then-mark-eq100
unfolding item_of
returns_2 c = rw (ne_eqb _ _ (λ h. c.if-mark-eq97.false (c.byte_at-mark.ensures ∙ h)), eq-eqb _ _ (sym c.byte_at-mark.ensures ∙ c.if-mark-eq100.true)) (c.delete.ensures ∙ ap (with_deletion c.args.e) c.deletion.ensures)

pointing-requires : tie.Need-pointing-requires
pointing-requires c κs = search rules

point-requires : tie.Need-point-requires
point-requires c κs = search rules

returns_3 : tie.Need-returns-then-mark-eq112
unfolding item_of
returns_3 c = rw (ne_eqb _ _ (λ h. c.if-mark-eq97.false (c.byte_at-mark.ensures ∙ h)), ne_eqb _ _ (λ h. c.if-mark-eq100.false (c.byte_at-mark.ensures ∙ h)), eq-eqb _ _ (sym c.byte_at-mark.ensures ∙ c.if-mark-eq112.true)) (c.point.ensures ∙ ap (with_pointing c.args.e) c.pointing.ensures)

log-requires : tie.Need-log-requires
log-requires c κs = search rules

with-log-requires : tie.Need-with_log-requires
with-log-requires c κs = search rules

returns-4 : tie.Need-returns
unfolding item_of
returns-4 c = rw (ne_eqb _ _ (λ h. c.if-mark-eq97.false (c.byte_at-mark.ensures ∙ h)), ne_eqb _ _ (λ h. c.if-mark-eq100.false (c.byte_at-mark.ensures ∙ h)), ne_eqb _ _ (λ h. c.if-mark-eq112.false (c.byte_at-mark.ensures ∙ h))) (c.with_log.ensures ∙ ap (with_log c.args.e) c.log.ensures)

pub with_item_spec : {M : Type 1} → statement M
with_item_spec = tie.close (tie.spec byte-at-requires addition-requires add-requires returns deletion-requires delete-requires returns_2 pointing-requires point-requires returns_3 log-requires with-log-requires returns-4)
