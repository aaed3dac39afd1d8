-- `keys::user_key_is_before` meets its contract. Assumes nothing.
use Rattle.std.proofs.Common.{ap, ◌∙◌}
use Rattle.model.specs.Key as model
use Rattle.std.specs.Ordering.{is_lt}
use Rattle.octets.specs.StandingLaws.{less_standing}
use Rattle.keys.specs.Key.{user_of}
use Rattle.keys.proofs.user_key_is_before.Goals as goal

pub returns : goal.returns
returns c = c.is_lt.ensures ∙ ap is_lt c.order_of_user_keys.ensures ∙ less_standing model.user_before (user_of c.args.u) (user_of c.args.v)
