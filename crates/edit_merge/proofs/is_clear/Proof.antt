-- `edit_merge::is_clear` meets its contract. Assumes nothing.
use mathlib.Core.Path.{◌≡◌}
use mathlib.Core.Bool.{true, false}
use borrow.Author.Rules.{rules}
use Rattle.edit_merge.specs.Neighbours.{clear_of}
use Rattle.edit_merge.proofs.is_clear.Statement.{statement}
use Rattle.edit_merge.proofs.is_clear.Tie as tie

returns : tie.Need-returns-then-not-fits
unfolding clear_of
returns c =
    let a = c.args in
    let f : a.fits ≡ false = c.if-not-fits.true in
    rw f

returns_2 : tie.Need-returns-then-not-tested
unfolding clear_of
returns_2 c =
    let a = c.args in
    let f : a.fits ≡ true = c.if-not-fits.false in
    let t : a.tested ≡ false = c.if-not-tested.true in
    rw (f, t)

is-before-requires : tie.Need-is_before-requires
is-before-requires c κs = search rules

returns_3 : tie.Need-returns
unfolding clear_of
returns_3 c =
    let e = c in
    let a = e.args in
    let f : a.fits ≡ true = e.if-not-fits.false in
    let t : a.tested ≡ true = e.if-not-tested.false in
    rw (f, t) c.is_before.ensures

pub is_clear_spec : {M : Type 1} → statement M
is_clear_spec = tie.close (tie.spec returns returns_2 is-before-requires returns_3)
