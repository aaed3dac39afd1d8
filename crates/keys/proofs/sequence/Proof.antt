-- `keys::sequence` meets its contract. Assumes nothing.
use mathlib.Core.Path.{◌≡◌}
use native.Mathlib.Omega.{arith}
use lib.ListN.{length}
use borrow.Author.Rules.{rules}
use Rattle.lemmas.specs.Fronts.{front_taken}
use Rattle.model.specs.File.{key_room}
use Rattle.keys.specs.Key.{key_of}
use Rattle.keys.specs.KeyLaws.{key_of_length, key_of_front}
use Rattle.keys.proofs.sequence.Statement.{statement}
use Rattle.keys.proofs.sequence.Tie as tie

key-len-requires : tie.Need-key_len-n-requires
key-len-requires c κs = search rules

sequence-of-requires : tie.Need-sequence_of-requires
sequence-of-requires c κs =
    let k = c.args.k in
    let full : length k.bytes ≡ key_room = search rules in
    omega (arith, key_of_length k)

returns : tie.Need-returns
returns c =
    let p = c in
    let k = p.args.k in
    let full : length k.bytes ≡ key_room = search rules in
    rw (← front_taken (key_of k) k.bytes p.key_len-n.result (key_of_front k full) p.key_len-n.ensures) c.sequence_of.ensures

pub sequence_spec : {M : Type 1} → statement M
sequence_spec = tie.close (tie.spec key-len-requires sequence-of-requires returns)
