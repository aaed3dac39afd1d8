-- A memory of no key asked is the model's. Assumes nothing.
use Rattle.std.proofs.Common.{refl}
use Rattle.keys.specs.Key.{user_record, padded}
use Rattle.compact_base.specs.Base.{asked_record}
use Rattle.compact_base.proofs.nothing_asked.Goals as goal

pub returns : goal.returns
unfolding asked_record user_record padded
returns c = refl
