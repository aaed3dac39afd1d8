-- `pick_range::user_if` meets its contract. Assumes nothing.
use mathlib.Core.Path.{ap, ◌∙◌}
use Rattle.model.specs.Key.{user}
use Rattle.keys.specs.Key.{key_of, user_of}
use Rattle.keys.specs.KeyLaws.{user_of_record, user_short}
use borrow.Author.Rules.{rules}
use Rattle.pick_range.proofs.user_if.Statement.{statement}
use Rattle.pick_range.proofs.user_if.Tie as tie

user-key-requires : tie.Need-user_key-requires
user-key-requires c κs = search rules

returns : tie.Need-returns-then-taken
returns c =
    let a = c.args in
    rw c.if-taken.true (ap user_of c.user_key.ensures ∙ user_of_record (user (key_of a.k)) (user_short a.k))

returns_2 : tie.Need-returns
returns_2 c = rw c.if-taken.false

pub user_if_spec : {M : Type 1} → statement M
user_if_spec = tie.close (tie.spec user-key-requires returns returns_2)
