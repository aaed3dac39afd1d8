-- `change` meets its contract. Assumes nothing.
use Rattle.std.proofs.Common.{ap, ◌∙◌, eq-eqb, ne_eqb}
use Rattle.model.specs.File.{full}
use Rattle.model.specs.Edit as edits
use Rattle.edit.specs.declared.Edit.{Edit}
use Rattle.edit.specs.Edit.{edit_of}
use Rattle.store.specs.Store.{on_store, stored}
use Rattle.shell_edit.specs.Changes.{told_by, handed_by, changed_by}
use Rattle.shell_edit.proofs.change.Goals as goal

pub returns-then-which-eq101 : goal.returns-then-which-eq101
unfolding changed_by
returns-then-which-eq101 c =
    let s = c.args.s in
    rw (eq-eqb _ _ c.if-which-eq101.true) (c.told.ensures ∙ ap (told_by s) (c.apply.ensures ∙ ap (λ (e : Edit). stored (on_store s (λ t. edits.edit full t (edit_of e)))) c.edit_of.ensures))

pub returns-then-which-eq110 : goal.returns-then-which-eq110
unfolding changed_by
returns-then-which-eq110 c = rw (ne_eqb _ _ c.if-which-eq101.false, eq-eqb _ _ c.if-which-eq110.true) (c.handed.ensures ∙ ap (handed_by c.args.s) c.new_file_number.ensures)

pub returns-then-which-eq108 : goal.returns-then-which-eq108
unfolding changed_by
returns-then-which-eq108 c = rw (ne_eqb _ _ c.if-which-eq101.false, ne_eqb _ _ c.if-which-eq110.false, eq-eqb _ _ c.if-which-eq108.true) c.load.ensures

pub returns-then-which-eq115 : goal.returns-then-which-eq115
unfolding changed_by
returns-then-which-eq115 c = rw (ne_eqb _ _ c.if-which-eq101.false, ne_eqb _ _ c.if-which-eq110.false, ne_eqb _ _ c.if-which-eq108.false, eq-eqb _ _ c.if-which-eq115.true) c.set_named.ensures

pub returns : goal.returns
unfolding changed_by
returns c = rw (ne_eqb _ _ c.if-which-eq101.false, ne_eqb _ _ c.if-which-eq110.false, ne_eqb _ _ c.if-which-eq108.false, ne_eqb _ _ c.if-which-eq115.false) c.count_named.ensures
