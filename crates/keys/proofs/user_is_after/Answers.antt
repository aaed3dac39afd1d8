-- `keys::user_is_after` meets its contract. Assumes nothing.
use Rattle.std.proofs.Common.{ap, ◌∙◌}
use Rattle.model.specs.Key as model
use Rattle.model.specs.KeyLaws.{user_before_order}
use Rattle.std.specs.Ordering.{is_gt}
use Rattle.octets.specs.StandingLaws.{greater_standing}
use Rattle.keys.specs.Key.{key_of, user_of}
use Rattle.keys.proofs.user_is_after.Goals as goal

pub returns : goal.returns
returns c = c.is_gt.ensures ∙ ap is_gt c.order_of_user.ensures ∙ greater_standing model.user_before user_before_order (user_of c.args.u) (model.user (key_of c.args.k))
