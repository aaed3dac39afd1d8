-- `keys::user_key_len` meets its contract. Assumes nothing.
use mathlib.Core.Path.{◌≡◌, ◌∙◌}
use lib.ListN.{length}
use borrow.Author.Rules.{rules}
use Rattle.model.specs.File.{longest_user}
use Rattle.keys.specs.Key.{user_of}
use Rattle.keys.specs.KeyLaws.{held_len}
use Rattle.keys.proofs.user_key_len.Statement.{statement}
use Rattle.keys.proofs.user_key_len.Tie as tie

held-len-requires : tie.Need-held_len-requires
held-len-requires c κs = search rules

returns : tie.Need-returns
unfolding user_of
returns c =
    let u = c.args.u in
    let full : length u.bytes ≡ longest_user = search rules in
    c.held_len.ensures ∙ held_len longest_user u.bytes u.len full

pub user_key_len_spec : {M : Type 1} → statement M
user_key_len_spec = tie.close (tie.spec held-len-requires returns)
