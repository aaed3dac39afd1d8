-- `keys::precedes` meets its contract: the order of the user keys' bytes, and between equal user keys the ranks. Assumes nothing.
use Rattle.std.proofs.Common.{◌≡◌, ℕ, ◌-◌, ◌≤◌, List, length, take, sym, ◌∙◌, arith}
use Rattle.lemmas.specs.Order.{lexb}
use Rattle.model.specs.Key as model
use Rattle.octets.specs.Octets.{standing}
use Rattle.keys.specs.KeyLaws.{user_taken, before_users, before_ranks}
use Rattle.keys.proofs.precedes.Goals as goal

-- the user keys of the two keys stand as the bytes that are compared
users : (a b : List ℕ) (m n x y : ℕ) → m ≤ length a → n ≤ length b → x ≡ m - 8 → y ≡ n - 8 → standing model.user_before (model.user (take m a)) (model.user (take n b)) ≡ standing lexb (take x a) (take y b)
unfolding model.user_before
users a b m n x y h k e f = rw (user_taken a m x h e, user_taken b n y k f)

pub returns-in-Less : goal.returns-in-Less
returns-in-Less c =
    let a = c.args in
    let e = users a.a.now a.b.now a.m a.n _ _ (omega arith) (omega arith) c.without_trailer-x.ensures c.without_trailer-y.ensures in
    before_users (take a.m a.a.now) (take a.n a.b.now) 0 1 (λ z. absurd (omega arith)) (λ _. e ∙ sym c.order_of.ensures ∙ c.in-Less.is) (λ z. absurd (omega arith))

pub returns-in-Equal : goal.returns-in-Equal
returns-in-Equal c =
    let a = c.args in
    let e = users a.a.now a.b.now a.m a.n _ _ (omega arith) (omega arith) c.without_trailer-x.ensures c.without_trailer-y.ensures in
    rw (c.rank_of.ensures, c.rank_of-in-Equal.ensures) (sym (before_ranks (take a.m a.a.now) (take a.n a.b.now) (e ∙ sym c.order_of.ensures ∙ c.in-Equal.is)))

pub returns-in-Greater : goal.returns-in-Greater
returns-in-Greater c =
    let a = c.args in
    let e = users a.a.now a.b.now a.m a.n _ _ (omega arith) (omega arith) c.without_trailer-x.ensures c.without_trailer-y.ensures in
    before_users (take a.m a.a.now) (take a.n a.b.now) 1 0 (λ z. absurd (omega arith)) (λ z. absurd (omega arith)) (λ _. e ∙ sym c.order_of.ensures ∙ c.in-Greater.is)
