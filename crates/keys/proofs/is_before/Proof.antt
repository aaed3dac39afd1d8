-- `keys::is_before` meets its contract. Assumes nothing.
use mathlib.Core.Path.{◌≡◌}
use native.Mathlib.Omega.{arith}
use lib.ListN.{length}
use borrow.Author.Rules.{rules}
use Rattle.lemmas.specs.Fronts.{front_taken}
use Rattle.model.specs.File.{key_room}
use Rattle.keys.specs.Key.{key_of}
use Rattle.keys.specs.KeyLaws.{key_of_length, key_of_front}
use Rattle.keys.proofs.is_before.Statement.{statement}
use Rattle.keys.proofs.is_before.Tie as tie

key-len-requires : tie.Need-key_len-m-requires
key-len-requires c κs = search rules

key-len-requires-2 : tie.Need-key_len-n-requires
key-len-requires-2 c κs = search rules

precedes-requires : tie.Need-precedes-requires
precedes-requires c κs =
    let s = c.args in
    let full_a : length s.a.bytes ≡ key_room = search rules in
    let full_b : length s.b.bytes ≡ key_room = search rules in
    let short_a = key_of_length s.a in
    let short_b = key_of_length s.b in
    (omega arith, omega arith, omega arith, omega arith)

returns : tie.Need-returns
returns c =
    let q = c in
    let p = q in
    let a = p.args.a in
    let b = p.args.b in
    let full_a : length a.bytes ≡ key_room = search rules in
    let full_b : length b.bytes ≡ key_room = search rules in
    let left = front_taken (key_of a) a.bytes p.key_len-m.result (key_of_front a full_a) p.key_len-m.ensures in
    let right = front_taken (key_of b) b.bytes q.key_len-n.result (key_of_front b full_b) q.key_len-n.ensures in
    rw (← left, ← right) c.precedes.ensures

pub is_before_spec : {M : Type 1} → statement M
is_before_spec = tie.close (tie.spec key-len-requires key-len-requires-2 precedes-requires returns)
