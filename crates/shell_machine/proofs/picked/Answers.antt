-- `picked` meets its contract, by the letter. Assumes nothing.
use Rattle.std.proofs.Common.{eq-eqb}
use borrow.Author.Tests.{ne_eqb}
use Rattle.shell_machine.specs.Picking.{size_pick, picked_by}
use Rattle.shell_machine.proofs.picked.Goals as goal

pub returns-then-which-eq112 : goal.returns-then-which-eq112
unfolding size_pick picked_by
returns-then-which-eq112 c = rw (eq-eqb _ _ c.if-which-eq112.true) c.pick_compaction.ensures

pub returns : goal.returns
unfolding picked_by
returns c = rw (ne_eqb _ _ c.if-which-eq112.false) c.range.ensures
