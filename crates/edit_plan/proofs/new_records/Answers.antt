-- `new_records` meets its contract: each turn writes the kept record of one more addition.
use Rattle.std.proofs.Common.{◌≡◌, length, get_or, get_or-take, length-take-le, sym, ap, ◌∙◌, arith, rules}
use Rattle.std.proofs.Math.ListN.{length-set}
use Rattle.lemmas.specs.Slices.{length_of_map}
use Rattle.lemmas.specs.Loops.{view_laid, view_all_laid}
use Rattle.model.specs.File.{full, max_additions}
use Rattle.records.specs.Record.{record_of}
use Rattle.records.specs.declared.FileRecord.{FileRecord}
use Rattle.edit.specs.Edit.{addition_of}
use Rattle.edit.specs.EditLaws.{past_addition}
use Rattle.edit.specs.declared.Addition.{Addition}
use Rattle.edit_plan.specs.Planning.{news_of}
use Rattle.edit_plan.proofs.new_records.Goals as goal

pub loop-i-preserved : goal.loop-i-preserved
unfolding addition_of
loop-i-preserved c =
    let a = c.args in
    let l = c.loop-i in
    let kept : Addition → FileRecord = λ x. record_of (addition_of x).file in
    let q : length a.additions ≡ max_additions = search (rules, length_of_map) in
    let n = length-take-le a.count a.additions (omega arith) in
    let made : c.record.result ≡ kept (get_or a.additions l.i past_addition) = c.record.ensures ∙ ap kept (get_or-take a.count a.additions l.i past_addition (omega arith)) in
    rw made (
      length-set l.files l.i (kept (get_or a.additions l.i past_addition)) ∙ l.invariant.0,
      view_laid kept l.i a.count a.additions l.files past_addition (omega arith) (omega arith) (omega arith) ∙ l.invariant.1,
    )

pub returns : goal.returns
unfolding news_of full
returns c =
    let a = c.args in
    let q : length a.additions ≡ max_additions = search (rules, length_of_map) in
    let n = length-take-le a.count a.additions (omega arith) in
    sym (view_all_laid (λ (x : Addition). record_of (addition_of x).file) c.loop-i.i a.count a.additions c.loop-i.files (omega arith) (omega arith)) ∙ c.loop-i.invariant.1
