-- `range` meets its contract: the words read are the level and the keys of the pick. Assumes nothing.
use Rattle.std.proofs.Common.{◌∙◌}
use Rattle.shell_machine.specs.PickingLaws.{range_is}
use Rattle.shell_machine.proofs.range.Goals as goal

pub returns : goal.returns
returns c =
    let a = c.args in
    c.compact_range.ensures
    ∙ range_is a.s a.maximum a.line.now c.words_of-w.result c.number-l.result c.key-a.result c.key-b.result c.words_of-w.ensures c.number-l.ensures c.key-a.ensures c.key-b.ensures
