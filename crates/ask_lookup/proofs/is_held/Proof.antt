-- `ask_lookup::is_held` meets its contract. Assumes nothing.
use mathlib.Core.Path.{◌≡◌, sym, ◌∙◌, ap}
use mathlib.Core.Bool.{true, false, not}
use borrow.Author.Rules.{rules}
use Rattle.model.specs.Key.{user_before, user}
use Rattle.model.specs.Question.{holds}
use Rattle.keys.specs.Key.{key_of, user_of}
use Rattle.records.specs.Record.{file_of}
use Rattle.ask_lookup.proofs.is_held.Statement.{statement}
use Rattle.ask_lookup.proofs.is_held.Tie as tie

user-is-before-requires : tie.Need-user_is_before-requires
user-is-before-requires c κs = search rules

returns : tie.Need-returns-then-user_is_before
unfolding holds file_of
returns c =
    let a = c.args in
    let e : user_before (user_of a.u) (user (key_of a.f.smallest)) ≡ true = sym c.user_is_before.ensures ∙ c.if-user_is_before.true in
    rw e

user-is-after-requires : tie.Need-user_is_after-requires
user-is-after-requires c κs = search rules

returns_2 : tie.Need-returns
unfolding holds file_of
returns_2 c =
    let d = c in
    let a = d.args in
    let e : user_before (user_of a.u) (user (key_of a.f.smallest)) ≡ false = sym d.user_is_before.ensures ∙ c.if-user_is_before.false in
    rw e (ap not c.user_is_after.ensures)

pub is_held_spec : {M : Type 1} → statement M
is_held_spec = tie.close (tie.spec user-is-before-requires returns user-is-after-requires returns_2)
