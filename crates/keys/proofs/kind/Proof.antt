-- `keys::kind` meets its contract. Assumes nothing.
use Prim.Native.Nat.{ℕ, ◌-◌, ◌<◌}
use mathlib.Core.Path.{◌≡◌, sym, ◌∙◌, ap}
use mathlib.Core.Bool.{true}
use native.Mathlib.Omega.{arith}
use lib.ListN.{length, get_or}
use lib.Pow.{are_bytes}
use mir.Val.{Fits}
use mir.Syntax.{w8}
use borrow.Author.Rules.{rules}
use Rattle.lemmas.specs.AreBytes.{bytes_all}
use Rattle.model.specs.File.{key_room}
use Rattle.keys.specs.Key.{key_of}
use Rattle.keys.specs.KeyLaws.{key_of_length, key_of_bytes, key_of_at, user_length, kind_none, kind_at}
use Rattle.keys.proofs.kind.Statement.{statement}
use Rattle.keys.proofs.kind.Tie as tie

key-len-requires : tie.Need-key_len-n-requires
key-len-requires c κs = search rules

-- the record's bytes are bytes
bytes_here : (c : tie.Start) → are_bytes c.args.k.bytes ≡ true
bytes_here c = bytes_all c.args.k.bytes (λ i. let f : Fits w8 (get_or c.args.k.bytes i 0) = search rules in f.fits)

returns : tie.Need-returns-then-n-eq0
returns c = sym (kind_none (key_of c.args.k) (omega arith))

user-len-requires : tie.Need-user_len-at-requires
user-len-requires c κs = search rules

byte-requires : tie.Need-byte-requires
byte-requires c κs =
    let k = c.args.k in
    let full : length k.bytes ≡ key_room = search rules in
    (omega (arith, user_length (key_of k), key_of_length k), omega arith)

returns_2 : tie.Need-returns
returns_2 c =
    let u = c in
    let s = u.before.before.before.before.before.before in
    let k = s.args.k in
    let full : length k.bytes ≡ key_room = search rules in
    let at : u.user_len-at.result ≡ length (key_of k) - 8 = omega (arith, user_length (key_of k)) in
    let some : 0 < length (key_of k) = omega arith in
    c.byte.ensures ∙ ap (λ (i : ℕ). get_or k.bytes i 0) at
    ∙ sym (kind_at (key_of k) (key_of_bytes k (bytes_here s)) some ∙ key_of_at k full (length (key_of k) - 8) (omega arith))

pub kind_spec : {M : Type 1} → statement M
kind_spec = tie.close (tie.spec key-len-requires returns user-len-requires byte-requires returns_2)
