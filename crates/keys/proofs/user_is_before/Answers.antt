-- `keys::user_is_before` meets its contract. Assumes nothing.
use Rattle.std.proofs.Common.{ap, ◌∙◌}
use Rattle.model.specs.Key as model
use Rattle.std.specs.Ordering.{is_lt}
use Rattle.octets.specs.StandingLaws.{less_standing}
use Rattle.keys.specs.Key.{key_of, user_of}
use Rattle.keys.proofs.user_is_before.Goals as goal

pub returns : goal.returns
returns c = c.is_lt.ensures ∙ ap is_lt c.order_of_user.ensures ∙ less_standing model.user_before (user_of c.args.u) (model.user (key_of c.args.k))
