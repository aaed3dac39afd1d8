-- `count_named` meets its contract. Assumes nothing.
use Rattle.shell_edit.specs.ChangeLaws.{number_is, count_is}
use Rattle.shell_edit.proofs.count_named.Goals as goal

pub returns : goal.returns
returns c =
    let s = c.args in
    count_is s.s s.line.now s.which _ c.count.result c.counted.result (number_is s.line.now _ c.words_of.ensures 1 c.number-n.result c.number-n.ensures) c.count.ensures c.counted.ensures
