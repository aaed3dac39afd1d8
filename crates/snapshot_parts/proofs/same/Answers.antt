-- `same` meets its contract: the library's comparison is that of the model. Assumes nothing.
use Rattle.std.proofs.Common.{rules}
use Rattle.snapshot_parts.specs.SameLaws.{same_is}
use Rattle.snapshot_parts.proofs.same.Goals as goal

pub returns : goal.returns
returns c = search (rules, same_is)
