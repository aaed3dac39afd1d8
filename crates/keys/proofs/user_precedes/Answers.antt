-- `keys::user_precedes` meets its contract. Assumes nothing.
use Rattle.std.proofs.Common.{◌≡◌, ap, ◌∙◌, arith, rules, length}
use Rattle.model.specs.File.{key_room}
use Rattle.model.specs.Key as model
use Rattle.std.specs.Ordering.{is_lt}
use Rattle.octets.specs.StandingLaws.{less_standing}
use Rattle.keys.specs.Key.{key_of}
use Rattle.keys.specs.KeyLaws.{user_front, user_short}
use Rattle.keys.proofs.Fronts.{users_order}
use Rattle.keys.proofs.user_precedes.Goals as goal

pub order_of-requires : goal.order_of-requires
order_of-requires c =
    let a = c.args.a in
    let b = c.args.b in
    let full_a : length a.bytes ≡ key_room = search rules in
    let full_b : length b.bytes ≡ key_room = search rules in
    (omega (arith, user_short a), omega arith, omega (arith, user_short b), omega arith)

pub returns : goal.returns
returns c =
    let a = c.args.a in
    let b = c.args.b in
    let full_a : length a.bytes ≡ key_room = search rules in
    let full_b : length b.bytes ≡ key_room = search rules in
    let order = users_order (model.user (key_of a)) (model.user (key_of b)) a.bytes b.bytes c.user_len-m.result c.user_len-n.result (user_front a full_a) c.user_len-m.ensures (user_front b full_b) c.user_len-n.ensures c.order_of.result c.order_of.ensures in
    c.is_lt.ensures ∙ ap is_lt order ∙ less_standing model.user_before (model.user (key_of a)) (model.user (key_of b))
