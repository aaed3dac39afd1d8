-- `keys::order_of_user` meets its contract. Assumes nothing.
use mathlib.Core.Path.{◌≡◌}
use native.Mathlib.Omega.{arith}
use lib.ListN.{length}
use borrow.Author.Rules.{rules}
use Rattle.model.specs.File.{key_room, longest_user}
use Rattle.model.specs.Key as model
use Rattle.keys.specs.Key.{key_of, user_of}
use Rattle.keys.specs.KeyLaws.{user_front, user_short, user_of_front, user_of_length}
use Rattle.keys.proofs.Fronts.{users_order}
use Rattle.keys.proofs.order_of_user.Statement.{statement}
use Rattle.keys.proofs.order_of_user.Tie as tie

user-key-len-requires : tie.Need-user_key_len-m-requires
user-key-len-requires c κs = search rules

user-len-requires : tie.Need-user_len-n-requires
user-len-requires c κs = search rules

order-of-requires : tie.Need-order_of-requires
order-of-requires c κs =
    let s = c.args in
    let full_u : length s.u.bytes ≡ longest_user = search rules in
    let full_k : length s.k.bytes ≡ key_room = search rules in
    (omega (arith, user_of_length s.u), omega arith, omega (arith, user_short s.k), omega arith)

returns : tie.Need-returns
returns c =
    let q = c in
    let p = q in
    let u = p.args.u in
    let k = p.args.k in
    let full_u : length u.bytes ≡ longest_user = search rules in
    let full_k : length k.bytes ≡ key_room = search rules in
    users_order (user_of u) (model.user (key_of k)) u.bytes k.bytes p.user_key_len-m.result q.user_len-n.result (user_of_front u full_u) p.user_key_len-m.ensures (user_front k full_k) q.user_len-n.ensures c.order_of.result c.order_of.ensures

pub order_of_user_spec : {M : Type 1} → statement M
order_of_user_spec = tie.close (tie.spec user-key-len-requires user-len-requires order-of-requires returns)
