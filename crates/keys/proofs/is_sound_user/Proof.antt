-- `keys::is_sound_user` meets its contract. Assumes nothing.
use mathlib.Core.Path.{◌≡◌}
use native.Mathlib.Omega.{arith}
use lib.ListN.{length}
use borrow.Author.Tests.{le-leb, lt-leb}
use borrow.Author.Rules.{rules}
use Rattle.model.specs.File.{longest_user}
use Rattle.keys.specs.Key.{sound, sound_user}
use Rattle.keys.proofs.is_sound_user.Statement.{statement}
use Rattle.keys.proofs.is_sound_user.Tie as tie

returns : tie.Need-returns-then-n-gt-ROOM
unfolding sound_user sound
returns c = rw (lt-leb c.args.u.len longest_user c.if-n-gt-ROOM.true)

zeros-from-requires : tie.Need-zeros_from-requires
zeros-from-requires c κs =
    let x = c.args.u in
    let full : length x.bytes ≡ longest_user = search rules in
    (omega arith, omega arith)

returns_2 : tie.Need-returns
unfolding sound_user sound
returns_2 c = rw (le-leb c.args.u.len longest_user c.if-n-gt-ROOM.false) c.zeros_from.ensures

pub is_sound_user_spec : {M : Type 1} → statement M
is_sound_user_spec = tie.close (tie.spec returns zeros-from-requires returns_2)
