-- `is_hex` meets its contract: each place of the run is looked at. Assumes nothing.
use Rattle.std.proofs.Common.{◌≡◌, ◌-◌, ◌∙◌, refl, sym, ltb, get_or, rules, tests}
use Rattle.std.specs.List.{list_all, range_with_len}
use Rattle.std.proofs.lemmas.Iterator.{YieldsList-from_range}
use Rattle.std.proofs.lemmas.Iterator.Search.{all_from_yields_List}
use Rattle.script_words.specs.Words.{word_of, hex_value}
use Rattle.script_words.specs.WordLaws.{hex_none, hex_odd, hex_even, hex_places}
use Rattle.script_words.proofs.is_hex.Goals as goal

pub returns-then-to-from : goal.returns-then-to-from
returns-then-to-from c = sym (hex_none c.args.line.now c.args.from c.args.to c.if-to-from.true)

pub returns-then-to-from-ne0 : goal.returns-then-to-from-ne0
returns-then-to-from-ne0 c = sym (hex_odd c.args.line.now c.args.from c.args.to c.if-to-from.false c.if-to-from-ne0.true)

pub returns : goal.returns
unfolding word_of
returns c =
    let a = c.args in
    let places : c.all.result ≡ list_all (λ k. ltb (hex_value (get_or a.line.now k 0)) 16) (range_with_len a.from (a.to - a.from)) =
    all_from_yields_List _ _ _ _ c.all.ensures.ran (YieldsList-from_range a.from a.to (a.to - a.from) refl refl) (λ x b q k. search (rules, tests)) in
    places ∙ hex_places a.line.now a.from (a.to - a.from) ∙ sym (hex_even a.line.now a.from a.to c.if-to-from.false c.if-to-from-ne0.false)
