-- `pick_found::follows` meets its contract. Assumes nothing.
use mathlib.Core.Path.{◌≡◌, refl, sym, ◌∙◌}
use mathlib.Core.Bool.{Bool, true, false, not, ◌&&◌}
use Rattle.lemmas.specs.ListLaws.{and_true}
use Rattle.model.specs.Completion.{older_than, follows}
use Rattle.model.specs.Key.{user, user_before, before}
use Rattle.keys.specs.Key.{key_of}
use Rattle.records.specs.Record.{file_of}
use borrow.Author.Rules.{rules}
use Rattle.pick_found.proofs.follows.Statement.{statement}
use Rattle.pick_found.proofs.follows.Tie as tie

user-precedes-requires : tie.Need-user_precedes-requires
user-precedes-requires c κs = search rules

-- a key whose user key is after the other's does not follow it
later : (a b : Bool) → b ≡ true → false ≡ (a && not b)
later true b e = rw e
later false b e = refl

-- one whose user key is not after it follows if it sorts after
same : (a b : Bool) → b ≡ false → a ≡ (a && not b)
same a b e = rw e (sym (and_true a))

returns : tie.Need-returns-then-user_precedes
unfolding follows older_than file_of
returns c =
    let a = c.args in
    let k = key_of a.high in
    let low = key_of a.f.smallest in
    later (before k low) (user_before (user k) (user low)) (sym c.user_precedes.ensures ∙ c.if-user_precedes.true)

is-before-requires : tie.Need-is_before-requires
is-before-requires c κs = search rules

returns_2 : tie.Need-returns
unfolding follows older_than file_of
returns_2 c =
    let a = c.args in
    let k = key_of a.high in
    let low = key_of a.f.smallest in
    c.is_before.ensures ∙ same (before k low) (user_before (user k) (user low)) (sym c.user_precedes.ensures ∙ c.if-user_precedes.false)

pub follows_spec : {M : Type 1} → statement M
follows_spec = tie.close (tie.spec user-precedes-requires returns is-before-requires returns_2)
