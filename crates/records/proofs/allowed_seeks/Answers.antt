-- `records::allowed_seeks` meets its contract. Assumes nothing.
use Rattle.std.proofs.Common.{arith}
use Rattle.model.specs.File.{seeks}
use Rattle.records.proofs.allowed_seeks.Goals as goal

pub returns : goal.returns
unfolding seeks
returns c = omega arith
