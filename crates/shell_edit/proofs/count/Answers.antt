-- `count` meets its contract. Assumes nothing.
use Rattle.std.proofs.Common.{eq-eqb, ne_eqb}
use Rattle.shell_edit.specs.Changes.{count_by}
use Rattle.shell_edit.proofs.count.Goals as goal

pub returns-then-which-eq114 : goal.returns-then-which-eq114
unfolding count_by
returns-then-which-eq114 c = rw (eq-eqb _ _ c.if-which-eq114.true) c.reuse_file_number.ensures

pub returns : goal.returns
unfolding count_by
returns c = rw (ne_eqb _ _ c.if-which-eq114.false) c.mark_file_number_used.ensures
