-- `has_pair` meets its contract: some pair of the two columns side by side is the one that is sought.
use Rattle.std.proofs.Common.{◌≡◌, ℕ, List, [], ◌∷◌, ◌&&◌, ◌||◌, eqb, refl, ap, ◌∙◌, rules, tests}
use Rattle.std.specs.List.{zip, list_any}
use Rattle.std.proofs.lemmas.Iterator.{YieldsList-from_slice, YieldsList-from_zip}
use Rattle.std.proofs.lemmas.Iterator.Search.{any_from_yields_List}
use Rattle.edit_stayers.specs.Stayers.{has_pair}
use Rattle.edit_stayers.proofs.has_pair.Goals as goal

-- the two columns as one list of pairs
has_pair-zip : (level number : ℕ) (ls ns : List ℕ) → list_any (λ (p : ℕ × ℕ). eqb p.0 level && eqb p.1 number) (zip ls ns) ≡ has_pair level number ls ns
unfolding has_pair
has_pair-zip level number [] ns = refl
has_pair-zip level number (l ∷ ls) [] = refl
has_pair-zip level number (l ∷ ls) (n ∷ ns) = ap (λ b. (eqb l level && eqb n number) || b) (has_pair-zip level number ls ns)

pub returns : goal.returns
returns c =
    let a = c.args in
    any_from_yields_List (λ (p : ℕ × ℕ). eqb p.0 a.level && eqb p.1 a.number) c.any.new.self _ _ c.any.ensures.ran (YieldsList-from_zip (YieldsList-from_slice a.levels.now cc) (YieldsList-from_slice a.numbers.now cc)) (λ x b q k. search (rules, tests))
    ∙ has_pair-zip a.level a.number a.levels.now a.numbers.now
