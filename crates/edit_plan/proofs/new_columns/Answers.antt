-- `new_columns` meets its contract: each turn writes one more addition to the three columns.
use Rattle.std.proofs.Common.{◌≡◌, ℕ, length, get_or, get_or-take, length-take-le, sym, ◌∙◌, arith, rules}
use Rattle.std.proofs.Math.ListN.{length-set}
use Rattle.lemmas.specs.Slices.{length_of_map}
use Rattle.lemmas.specs.Loops.{view_laid, view_all_laid}
use Rattle.model.specs.File.{full, max_additions}
use Rattle.keys.specs.declared.Key.{Key}
use Rattle.edit.specs.EditLaws.{past_addition}
use Rattle.edit.specs.declared.Addition.{Addition}
use Rattle.edit_plan.specs.Planning.{levels_in, numbers_in, keys_in}
use Rattle.edit_plan.proofs.new_columns.Goals as goal

pub loop-i-preserved : goal.loop-i-preserved
loop-i-preserved c =
    let a = c.args in
    let l = c.loop-i in
    let low : Addition → Key = λ x. x.smallest in
    let level : Addition → ℕ = λ x. x.level in
    let number : Addition → ℕ = λ x. x.number.0 in
    let it = get_or a.additions l.i past_addition in
    let q : length a.additions ≡ max_additions = search (rules, length_of_map) in
    let n = length-take-le a.count a.additions (omega arith) in
    rw (get_or-take a.count a.additions l.i past_addition (omega arith)) (
      length-set l.keys l.i (low it) ∙ l.invariant.0,
      length-set l.levels l.i (level it) ∙ l.invariant.1,
      length-set l.numbers l.i (number it) ∙ l.invariant.2,
      view_laid low l.i a.count a.additions l.keys past_addition (omega arith) (omega arith) (omega arith) ∙ l.invariant.3,
      view_laid level l.i a.count a.additions l.levels past_addition (omega arith) (omega arith) (omega arith) ∙ l.invariant.4,
      view_laid number l.i a.count a.additions l.numbers past_addition (omega arith) (omega arith) (omega arith) ∙ l.invariant.5,
    )

pub returns : goal.returns
unfolding keys_in levels_in numbers_in full
returns c =
    let a = c.args in
    let q : length a.additions ≡ max_additions = search (rules, length_of_map) in
    let n = length-take-le a.count a.additions (omega arith) in
    let l = c.loop-i in (
      sym (view_all_laid (λ (x : Addition). x.smallest) l.i a.count a.additions l.keys (omega arith) (omega arith)) ∙ l.invariant.3,
      sym (view_all_laid (λ (x : Addition). x.level) l.i a.count a.additions l.levels (omega arith) (omega arith)) ∙ l.invariant.4,
      sym (view_all_laid (λ (x : Addition). x.number.0) l.i a.count a.additions l.numbers (omega arith) (omega arith)) ∙ l.invariant.5,
    )
