-- `keys::order_of_user_keys` meets its contract. Assumes nothing.
use mathlib.Core.Path.{◌≡◌}
use native.Mathlib.Omega.{arith}
use lib.ListN.{length}
use borrow.Author.Rules.{rules}
use Rattle.model.specs.File.{longest_user}
use Rattle.keys.specs.Key.{user_of}
use Rattle.keys.specs.KeyLaws.{user_of_front, user_of_length}
use Rattle.keys.proofs.Fronts.{users_order}
use Rattle.keys.proofs.order_of_user_keys.Statement.{statement}
use Rattle.keys.proofs.order_of_user_keys.Tie as tie

user-key-len-requires : tie.Need-user_key_len-m-requires
user-key-len-requires c κs = search rules

user-key-len-requires-2 : tie.Need-user_key_len-n-requires
user-key-len-requires-2 c κs = search rules

order-of-requires : tie.Need-order_of-requires
order-of-requires c κs =
    let s = c.args in
    let full_u : length s.u.bytes ≡ longest_user = search rules in
    let full_v : length s.v.bytes ≡ longest_user = search rules in
    (omega (arith, user_of_length s.u), omega arith, omega (arith, user_of_length s.v), omega arith)

returns : tie.Need-returns
returns c =
    let q = c in
    let p = q in
    let u = p.args.u in
    let v = p.args.v in
    let full_u : length u.bytes ≡ longest_user = search rules in
    let full_v : length v.bytes ≡ longest_user = search rules in
    users_order (user_of u) (user_of v) u.bytes v.bytes p.user_key_len-m.result q.user_key_len-n.result (user_of_front u full_u) p.user_key_len-m.ensures (user_of_front v full_v) q.user_key_len-n.ensures c.order_of.result c.order_of.ensures

pub order_of_user_keys_spec : {M : Type 1} → statement M
order_of_user_keys_spec = tie.close (tie.spec user-key-len-requires user-key-len-requires-2 order-of-requires returns)
