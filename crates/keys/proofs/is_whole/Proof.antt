-- `keys::is_whole` meets its contract. Assumes nothing.
use Prim.Native.Nat.{ℕ, ◌-◌, ◌≤◌}
use mathlib.Core.Path.{◌≡◌, sym, ◌∙◌, ap}
use mathlib.Core.Bool.{true, false, and-false}
use mathlib.Core.List.{List}
use native.Mathlib.Omega.{arith}
use lib.Dec.{leb}
use lib.ListN.{length, get_or, take, drop, length-take}
use lib.Pow.{are_bytes}
use lib.Seq.{length-take-le, get_or-take}
use borrow.Author.Tests.{le-leb, lt-leb}
use borrow.Author.Rules.{rules}
use Rattle.lemmas.specs.Lists.{all}
use Rattle.lemmas.specs.ListLaws.{and_true}
use Rattle.lemmas.specs.AreBytes.{bytes_all, bytes_take}
use Rattle.model.specs.Key.{good_key}
use Rattle.model.specs.File.{full, key_room, longest_user}
use Rattle.keys.specs.Key.{sound, is_zero}
use Rattle.keys.specs.KeyLaws.{kind_at, good_is, too_short}
use Rattle.keys.proofs.is_whole.Statement.{statement}
use Rattle.keys.proofs.is_whole.Tie as tie

-- the first bytes of a room of 40, if they have a right length, are a good key by the byte where the trailer begins
good_at : (room : List ℕ) (n : ℕ) → length room ≡ key_room → are_bytes room ≡ true → 9 ≤ n → n ≤ key_room → good_key longest_user (take n room) ≡ leb (get_or room (n - 8) 0) 1
good_at room n q e g h =
    let x = take n room in
    let l : length x ≡ n = length-take-le n room (omega arith) in
    let b = bytes_take n room e in
    let k = kind_at x b (omega arith) ∙ ap (λ (m : ℕ). get_or x (m - 8) 0) l ∙ get_or-take n room (n - 8) 0 (omega arith) in
    good_is longest_user x (omega arith) (omega arith) b ∙ ap (λ (y : ℕ). leb y 1) k

-- the room's bytes are bytes
bytes_here : (c : tie.Else-n-le-TRAILER) → are_bytes c.args.a.now ≡ true
bytes_here c = bytes_all c.args.a.now (λ i. omega (arith, c.shared_slice_known-1.given i))

returns : tie.Need-returns-then-n-le-TRAILER
unfolding full
returns c =
    let s = c.args in
    rw (too_short longest_user (take s.n s.a.now) (omega (arith, length-take s.n s.a.now))) (sym (and-false (sound key_room s.a.now s.n)))

returns_2 : tie.Need-returns-then-n-gt-ROOM
unfolding sound
returns_2 c = rw (lt-leb c.args.n key_room c.if-n-gt-ROOM.true)

sub-if3 : tie.Need-overflow_sub-n
sub-if3 c = search rules

shared-slice-read-if3 : tie.Need-bounds-a-n
shared-slice-read-if3 c = search rules

returns_3 : tie.Need-returns-then-a-n-gt1
unfolding full
returns_3 c =
    let d = c.before.before.before in
    let s = d.args in
    let g : good_key longest_user (take s.n s.a.now) ≡ false =
    good_at s.a.now s.n (omega arith) (bytes_here d) (omega arith) (omega arith) ∙ lt-leb (get_or s.a.now (s.n - 8) 0) 1 c.if-a-n-gt1.true in
    rw g (sym (and-false (sound key_room s.a.now s.n)))

zeros-from-requires : tie.Need-zeros_from-requires
zeros-from-requires c κs = search rules

returns-4 : tie.Need-returns
unfolding full sound
returns-4 c =
    let d = c.before.before.before.before in
    let s = d.args in
    let g : good_key longest_user (take s.n s.a.now) ≡ true =
    good_at s.a.now s.n (omega arith) (bytes_here d) (omega arith) (omega arith) ∙ le-leb (get_or s.a.now (s.n - 8) 0) 1 (omega arith) in
    rw (g, le-leb s.n key_room (omega arith)) (c.zeros_from.ensures ∙ sym (and_true (all is_zero (drop s.n s.a.now))))

pub is_whole_spec : {M : Type 1} → statement M
is_whole_spec = tie.close (tie.spec returns returns_2 sub-if3 shared-slice-read-if3 returns_3 zeros-from-requires returns-4)
