-- `keys::is_good_user` meets its contract. Assumes nothing.
use mathlib.Core.Path.{◌≡◌, sym, ◌∙◌, ap}
use mathlib.Core.Bool.{true}
use lib.Dec.{ltb}
use lib.ListN.{get_or}
use lib.Pow.{are_bytes}
use mir.Val.{Fits}
use mir.Syntax.{w8}
use borrow.Author.Rules.{rules}
use Rattle.lemmas.specs.AreBytes.{bytes_all}
use Rattle.model.specs.File.{full, longest_user}
use Rattle.keys.specs.Key.{user_of}
use Rattle.keys.specs.KeyLaws.{user_of_length, user_of_bytes, good_user_is}
use Rattle.keys.proofs.is_good_user.Statement.{statement}
use Rattle.keys.proofs.is_good_user.Tie as tie

user-key-len-requires : tie.Need-user_key_len-n-requires
user-key-len-requires c κs = search rules

-- the record's bytes are bytes
bytes_here : (c : tie.Start) → are_bytes c.args.u.bytes ≡ true
bytes_here c = bytes_all c.args.u.bytes (λ i. let f : Fits w8 (get_or c.args.u.bytes i 0) = search rules in f.fits)

returns : tie.Need-returns
unfolding full
returns c =
    let u = c.args.u in
    ap (ltb 0) c.user_key_len-n.ensures ∙ sym (good_user_is longest_user (user_of u) (user_of_length u) (user_of_bytes u (bytes_here c.before)))

pub is_good_user_spec : {M : Type 1} → statement M
is_good_user_spec = tie.close (tie.spec user-key-len-requires returns)
