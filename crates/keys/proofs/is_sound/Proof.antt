-- `keys::is_sound` meets its contract. Assumes nothing.
use mathlib.Core.Path.{◌≡◌}
use native.Mathlib.Omega.{arith}
use lib.ListN.{length}
use borrow.Author.Tests.{le-leb, lt-leb}
use borrow.Author.Rules.{rules}
use Rattle.model.specs.File.{key_room}
use Rattle.keys.specs.Key.{sound, sound_key}
use Rattle.keys.proofs.is_sound.Statement.{statement}
use Rattle.keys.proofs.is_sound.Tie as tie

returns : tie.Need-returns-then-n-gt-ROOM
unfolding sound_key sound
returns c = rw (lt-leb c.args.k.len key_room c.if-n-gt-ROOM.true)

zeros-from-requires : tie.Need-zeros_from-requires
zeros-from-requires c κs =
    let x = c.args.k in
    let full : length x.bytes ≡ key_room = search rules in
    (omega arith, omega arith)

returns_2 : tie.Need-returns
unfolding sound_key sound
returns_2 c = rw (le-leb c.args.k.len key_room c.if-n-gt-ROOM.false) c.zeros_from.ensures

pub is_sound_spec : {M : Type 1} → statement M
is_sound_spec = tie.close (tie.spec returns zeros-from-requires returns_2)
