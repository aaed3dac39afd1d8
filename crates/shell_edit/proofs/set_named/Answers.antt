-- `set_named` meets its contract. Assumes nothing.
use Rattle.shell_edit.specs.ChangeLaws.{number_is, run_is, set_is}
use Rattle.shell_edit.proofs.set_named.Goals as goal

pub returns : goal.returns
returns c =
    let s = c.args in
    let w = c.words_of-w.ensures in
    set_is s.s s.line.now c.run_of-name.result c.byte_at-mark.result _ c.set.result c.told.result (run_is s.line.now _ w 1 _ c.run_of-name.ensures) c.byte_at-mark.ensures (number_is s.line.now _ w 2 c.number-n.result c.number-n.ensures) c.set.ensures c.told.ensures
