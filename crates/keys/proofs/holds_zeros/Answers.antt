-- `keys::holds_zeros` meets its contract: a list is that many zeros if all its numbers are 0. Assumes nothing.
use Rattle.std.proofs.Common.{◌≡◌, ℕ, List, [], ◌∷◌, length, replicate, refl, nat_eq, ◌∙◌, rules}
use Rattle.std.specs.Cmp.Lexicographic.{pointwise}
use Rattle.lemmas.specs.Lists.{all}
use Rattle.octets.specs.Octets.{is_zero}
use Rattle.keys.proofs.holds_zeros.Goals as goal

-- compared with as many zeros
same : (x : List ℕ) → pointwise nat_eq x (replicate (length x) 0) ≡ all is_zero x
unfolding all is_zero
same [] = refl
same (b ∷ x) = rw (same x)

pub returns : goal.returns
returns c =
    let long : length c.args.k.bytes ≡ 40 = search rules in
    c.eq.ensures ∙ rw long at (same c.args.k.bytes)
