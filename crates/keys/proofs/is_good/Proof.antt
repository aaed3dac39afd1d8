-- `keys::is_good` meets its contract. Assumes nothing.
use Prim.Native.Nat.{ℕ}
use mathlib.Core.Path.{◌≡◌, sym, ◌∙◌, ap}
use mathlib.Core.Bool.{true}
use native.Mathlib.Omega.{arith}
use lib.Dec.{leb}
use lib.ListN.{get_or}
use lib.Pow.{are_bytes}
use mir.Val.{Fits}
use mir.Syntax.{w8}
use borrow.Author.Rules.{rules}
use Rattle.lemmas.specs.AreBytes.{bytes_all}
use Rattle.model.specs.File.{full, longest_user}
use Rattle.keys.specs.Key.{key_of}
use Rattle.keys.specs.KeyLaws.{key_of_length, key_of_bytes, good_is, too_short}
use Rattle.keys.proofs.is_good.Statement.{statement}
use Rattle.keys.proofs.is_good.Tie as tie

key-len-requires : tie.Need-key_len-n-requires
key-len-requires c κs = search rules

-- the record's bytes are bytes
bytes_here : (c : tie.Start) → are_bytes c.args.k.bytes ≡ true
bytes_here c = bytes_all c.args.k.bytes (λ i. let f : Fits w8 (get_or c.args.k.bytes i 0) = search rules in f.fits)

returns : tie.Need-returns-then-n-le-TRAILER
unfolding full
returns c = sym (too_short longest_user (key_of c.args.k) (omega arith))

kind-requires : tie.Need-kind-requires
kind-requires c κs = search rules

returns_2 : tie.Need-returns
unfolding full
returns_2 c =
    let s = c.before.before.before in
    let x = key_of s.args.k in
    ap (λ (n : ℕ). leb n 1) c.kind.ensures ∙ sym (good_is longest_user x (omega arith) (key_of_length s.args.k) (key_of_bytes s.args.k (bytes_here s)))

pub is_good_spec : {M : Type 1} → statement M
is_good_spec = tie.close (tie.spec key-len-requires returns kind-requires returns_2)
