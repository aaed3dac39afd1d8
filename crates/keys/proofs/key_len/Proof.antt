-- `keys::key_len` meets its contract. Assumes nothing.
use mathlib.Core.Path.{◌≡◌, ◌∙◌}
use lib.ListN.{length}
use borrow.Author.Rules.{rules}
use Rattle.model.specs.File.{key_room}
use Rattle.keys.specs.Key.{key_of}
use Rattle.keys.specs.KeyLaws.{held_len}
use Rattle.keys.proofs.key_len.Statement.{statement}
use Rattle.keys.proofs.key_len.Tie as tie

held-len-requires : tie.Need-held_len-requires
held-len-requires c κs = search rules

returns : tie.Need-returns
unfolding key_of
returns c =
    let k = c.args.k in
    let full : length k.bytes ≡ key_room = search rules in
    c.held_len.ensures ∙ held_len key_room k.bytes k.len full

pub key_len_spec : {M : Type 1} → statement M
key_len_spec = tie.close (tie.spec held-len-requires returns)
