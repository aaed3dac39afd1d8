-- `octets::byte` meets its contract. Assumes nothing.
use Prim.Native.Nat.{ℕ, ◌+◌, ◌-◌, ◌%◌}
use mathlib.Core.Path.{◌≡◌, ap, ◌∙◌}
use mathlib.Core.Bool.{true}
use native.Mathlib.Omega.{arith}
use lib.ListN.{get_or}
use lib.Pow.{are_bytes}
use borrow.Author.Rules.{rules}
use Rattle.lemmas.specs.AreBytes.{bytes_all}
use Rattle.octets.proofs.Words.{word_byte}
use Rattle.octets.proofs.byte.Statement.{statement}
use Rattle.octets.proofs.byte.Tie as tie

sub_word : tie.Need-overflow_sub-i
sub_word c = search rules

word-requires : tie.Need-word-w-requires
word-requires c κs = search rules

mul-result : tie.Need-overflow_mul-result
mul-result c = search rules

sub-result : tie.Need-overflow_sub-result
sub-result c = search rules

shr-result : tie.Need-overflow_shr-result
shr-result c = search rules

-- what is read is bytes
bytes_here : (s : tie.After-shared_slice_known-1) → are_bytes s.args.a.now ≡ true
bytes_here s = bytes_all s.args.a.now (λ i. omega (arith, s.shared_slice_known-1.given i))

cast-result : tie.Need-overflow_cast-result
cast-result c = search rules

returns : tie.Need-returns
returns c =
    let s = c in
    let a = s.args.a.now in
    let i = s.args.i in
    let k = i % 8 in
    let place : i - k + k ≡ i = omega arith in
    rw c.word-w.ensures (word_byte a (i - k) (omega arith) (bytes_here c.before) k (omega arith))
    ∙ ap (λ (n : ℕ). get_or a n 0) place

pub byte_spec : {M : Type 1} → statement M
byte_spec = tie.close (tie.spec sub_word word-requires mul-result sub-result shr-result cast-result returns)
