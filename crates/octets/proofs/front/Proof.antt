-- `octets::front` meets its contract. Assumes nothing.
use Prim.Native.Nat.{ℕ, ◌-◌, ◌*◌, ◌/◌, ◌^◌}
use mathlib.Core.Path.{◌≡◌, ap, ◌∙◌}
use native.Mathlib.Omega.{arith}
use borrow.Author.Rules.{rules}
use Rattle.lemmas.specs.Big.{byte_bits}
use Rattle.octets.proofs.front.Statement.{statement}
use Rattle.octets.proofs.front.Tie as tie

lesser-requires : tie.Need-lesser-requires
lesser-requires c κs = search rules

mul-result : tie.Need-overflow_mul-result
mul-result c = search rules

sub-result : tie.Need-overflow_sub-result
sub-result c = search rules

shr-result : tie.Need-overflow_shr-result
shr-result c = search rules

returns : tie.Need-returns
returns c =
    let a = c.args in
    let bits : 64 - 8 * c.lesser.result ≡ 8 * (8 - a.c) = omega arith in
    ap (λ (n : ℕ). a.x / n) (ap (λ (n : ℕ). 2 ^ n) bits ∙ byte_bits (8 - a.c))

pub front_spec : {M : Type 1} → statement M
front_spec = tie.close (tie.spec lesser-requires mul-result sub-result shr-result returns)
