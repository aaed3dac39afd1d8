-- `read_front` meets its contract. Assumes nothing.
use Rattle.shell_edit.specs.Changes.{read_of}
use Rattle.shell_edit.proofs.read_front.Goals as goal

pub returns : goal.returns
unfolding read_of
returns c = c.read.ensures
