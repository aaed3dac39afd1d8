-- `load` meets its contract. Assumes nothing.
use Rattle.shell_edit.specs.ChangeLaws.{run_is, load_is}
use Rattle.shell_edit.proofs.load.Goals as goal

pub returns : goal.returns
returns c =
    let s = c.args in
    load_is s.s s.line.now c.run_of-bytes.result c.read_hex.result c.told.result (run_is s.line.now _ c.words_of.ensures 1 _ c.run_of-bytes.ensures) c.read_hex.ensures c.told.ensures
