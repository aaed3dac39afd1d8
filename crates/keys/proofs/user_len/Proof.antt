-- `keys::user_len` meets its contract. Assumes nothing.
use native.Mathlib.Omega.{arith}
use borrow.Author.Rules.{rules}
use Rattle.keys.specs.Key.{key_of}
use Rattle.keys.specs.KeyLaws.{user_length}
use Rattle.keys.proofs.user_len.Statement.{statement}
use Rattle.keys.proofs.user_len.Tie as tie

key-len-requires : tie.Need-key_len-requires
key-len-requires c κs = search rules

without-trailer-requires : tie.Need-without_trailer-requires
without-trailer-requires c κs = search rules

returns : tie.Need-returns
returns c = omega (arith, user_length (key_of c.args.k))

pub user_len_spec : {M : Type 1} → statement M
user_len_spec = tie.close (tie.spec key-len-requires without-trailer-requires returns)
