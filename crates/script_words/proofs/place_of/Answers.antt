-- `place_of` meets its contract: the first place that holds the byte is found. Assumes nothing.
use Rattle.std.proofs.Common.{◌-◌, ◌∙◌, refl, eqb, get_or, arith, rules, tests}
use Rattle.std.proofs.lemmas.Iterator.{YieldsList-from_range}
use Rattle.std.proofs.lemmas.Iterator.Search.{find_from_yields_List}
use Rattle.script_words.specs.Words.{word_of}
use Rattle.script_words.specs.WordLaws.{place_found}
use Rattle.script_words.proofs.place_of.Goals as goal

pub returns : goal.returns
unfolding word_of
returns c =
    let a = c.args in
    let n = a.to - a.from in
    let found = find_from_yields_List (λ k. eqb (get_or a.line.now k 0) a.b) _ _ c.find.result c.find.ensures.ran (YieldsList-from_range a.from a.to n refl refl) (λ x b q k. search (rules, tests)) in
    c.unwrap_or.ensures ∙ place_found a.line.now a.b a.from n c.max.result c.find.result (omega arith) found
