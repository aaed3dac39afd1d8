-- `octets::word` meets its contract: the number of eight bytes, by what each is worth or by one more at a time. Assumes nothing.
use Rattle.std.proofs.Common.{◌≡◌, ℕ, List, [], ◌∷◌, length, take, drop, length-drop, arith, rules}
use Rattle.std.proofs.Math.Seq.{length-take-le}
use Rattle.std.specs.Int.{w64, from_be_bytes}
use Rattle.lemmas.specs.Big.{big}
use Rattle.octets.proofs.word.Goals as goal

-- both are one number
same : (l : List ℕ) → length l ≡ 8 → from_be_bytes w64 l ≡ big 0 l
unfolding big
same (a ∷ b ∷ c ∷ d ∷ e ∷ f ∷ g ∷ h ∷ []) n = omega arith
same l n = absurd (omega arith)

pub returns : goal.returns
returns c =
    let bytes = take 8 (drop c.args.at c.args.a.now) in
    let e = same bytes (length-take-le 8 (drop c.args.at c.args.a.now) (omega (arith, length-drop c.args.at c.args.a.now))) in
    search rules
