-- `ask_lookup::begins_after` meets its contract. Assumes nothing.
use Prim.Native.Nat.{ℕ}
use mathlib.Core.Path.{ap, ◌∙◌}
use mathlib.Core.List.{List}
use borrow.Author.Rules.{rules}
use Rattle.model.specs.Key.{user_before, user}
use Rattle.keys.specs.declared.UserKey.{UserKey}
use Rattle.keys.specs.Key.{key_of, user_of}
use Rattle.keys.specs.KeyLaws.{user_of_record, user_short}
use Rattle.records.specs.Record.{file_of}
use Rattle.ask_lookup.proofs.begins_after.Statement.{statement}
use Rattle.ask_lookup.proofs.begins_after.Tie as tie

user-key-requires : tie.Need-user_key-u-requires
user-key-requires c κs = search rules

user-is-before-requires : tie.Need-user_is_before-requires
user-is-before-requires c κs = search rules

returns : tie.Need-returns
unfolding file_of
returns c =
    let u = c in
    let a = u.args in
    let low = user (key_of a.f.smallest) in
    c.user_is_before.ensures
    ∙ ap (λ (v : UserKey). user_before (user_of v) low) u.user_key-u.ensures
    ∙ ap (λ (v : List ℕ). user_before v low) (user_of_record (user (key_of a.k)) (user_short a.k))

pub begins_after_spec : {M : Type 1} → statement M
begins_after_spec = tie.close (tie.spec user-key-requires user-is-before-requires returns)
