-- `levels::counted` meets its contract: the sum is bounded at each step or at the end. Assumes nothing.
use Rattle.std.proofs.Common.{◌≡◌, ℕ, ◌+◌, ◌≤◌, min, List, [], ◌∷◌, fold, rules, arith}
use Rattle.lemmas.specs.Lists.{sum}
use Rattle.model.specs.File.{max_word}
use Rattle.levels.proofs.counted.Goals as goal

bounded : (a : ℕ) (cs : List ℕ) → a ≤ max_word → fold (λ s c. min (s + c) max_word) a cs ≡ min (a + sum cs) max_word
unfolding sum
bounded a [] h = omega arith
bounded a (c ∷ cs) h = let e = bounded (min (a + c) max_word) cs (omega arith) in omega (arith, e)

pub returns : goal.returns
returns c =
    let e : c.fold.result ≡ fold (λ s c. min (s + c) max_word) 0 c.args.counts = search rules in
    let all = bounded 0 c.args.counts (omega arith) in
    omega (arith, e, all)
