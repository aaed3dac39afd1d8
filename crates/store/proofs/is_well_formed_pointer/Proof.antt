-- `store::is_well_formed_pointer` meets its contract. Assumes nothing.
use mathlib.Core.Path.{sym, ◌∙◌}
use borrow.Author.Rules.{rules}
use Rattle.store.specs.StoreLaws.{pointer_unsound, pointer_set, pointer_unset}
use Rattle.store.proofs.is_well_formed_pointer.Statement.{statement}
use Rattle.store.proofs.is_well_formed_pointer.Tie as tie

is-sound-requires : tie.Need-is_sound-requires
is-sound-requires c κs = search rules

returns : tie.Need-returns-then-not-is_sound
returns c =
    let s = c in
    sym (pointer_unsound s.args.p (sym s.is_sound.ensures ∙ c.if-not-is_sound.true))

is-good-requires : tie.Need-is_good-requires
is-good-requires c κs = search rules

returns_2 : tie.Need-returns-then-p
returns_2 c =
    let e = c in
    let s = e in
    let t = sym s.is_sound.ensures ∙ e.if-not-is_sound.false in
    c.is_good.ensures ∙ sym (pointer_set s.args.p t c.if-p.true)

returns_3 : tie.Need-returns-else-p
returns_3 c =
    let e = c in
    let s = e in
    let t = sym s.is_sound.ensures ∙ e.if-not-is_sound.false in
    sym (pointer_unset s.args.p t c.if-p.false)

pub is_well_formed_pointer_spec : {M : Type 1} → statement M
is_well_formed_pointer_spec = tie.close (tie.spec is-sound-requires returns is-good-requires returns_2 returns_3)
