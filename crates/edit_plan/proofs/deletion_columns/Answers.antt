-- `deletion_columns` meets its contract: each turn writes one more deletion to both columns.
use Rattle.std.proofs.Common.{◌≡◌, ℕ, length, get_or, get_or-take, length-take-le, sym, ◌∙◌, arith, rules}
use Rattle.std.proofs.Math.ListN.{length-set}
use Rattle.lemmas.specs.Slices.{length_of_map}
use Rattle.lemmas.specs.Loops.{view_laid, view_all_laid}
use Rattle.model.specs.File.{max_deletions}
use Rattle.edit.specs.EditLaws.{past_deletion}
use Rattle.edit.specs.declared.Deletion.{Deletion}
use Rattle.edit_plan.specs.Planning.{levels_gone, numbers_gone}
use Rattle.edit_plan.proofs.deletion_columns.Goals as goal

pub loop-i-preserved : goal.loop-i-preserved
loop-i-preserved c =
    let a = c.args in
    let l = c.loop-i in
    let level : Deletion → ℕ = λ d. d.level in
    let number : Deletion → ℕ = λ d. d.number.0 in
    let it = get_or a.deletions l.i past_deletion in
    let q : length a.deletions ≡ max_deletions = search (rules, length_of_map) in
    let n = length-take-le a.count a.deletions (omega arith) in
    rw (get_or-take a.count a.deletions l.i past_deletion (omega arith)) (
      length-set l.levels l.i (level it) ∙ l.invariant.0,
      length-set l.numbers l.i (number it) ∙ l.invariant.1,
      view_laid level l.i a.count a.deletions l.levels past_deletion (omega arith) (omega arith) (omega arith) ∙ l.invariant.2,
      view_laid number l.i a.count a.deletions l.numbers past_deletion (omega arith) (omega arith) (omega arith) ∙ l.invariant.3,
    )

pub returns : goal.returns
unfolding levels_gone numbers_gone
returns c =
    let a = c.args in
    let q : length a.deletions ≡ max_deletions = search (rules, length_of_map) in
    let n = length-take-le a.count a.deletions (omega arith) in
    let l = c.loop-i in (
      sym (view_all_laid (λ (d : Deletion). d.level) l.i a.count a.deletions l.levels (omega arith) (omega arith)) ∙ l.invariant.2,
      sym (view_all_laid (λ (d : Deletion). d.number.0) l.i a.count a.deletions l.numbers (omega arith) (omega arith)) ∙ l.invariant.3,
    )
