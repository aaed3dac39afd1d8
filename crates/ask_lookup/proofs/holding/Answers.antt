-- `holding` meets its contract: a turn writes the number of one more file if it holds the key.
use Rattle.std.proofs.Common.{◌≡◌, length, get_or-take, length-take-le, sym, ap, ◌∙◌, arith, rules}
use Rattle.model.specs.File.{max_files}
use Rattle.model.specs.Question.{holds}
use Rattle.keys.specs.Key.{user_of}
use Rattle.records.specs.Record.{file_of, past}
use Rattle.ask_lookup.specs.LookupLaws.{lay_kept, lay_passed, lay_ends}
use Rattle.ask_lookup.proofs.holding.Goals as goal
use Rattle.ask_lookup.proofs.holding.Goals.{then-is_held, else-is_held}

pub loop-f-preserved : goal.loop-f-preserved
loop-f-preserved c =
    let a = c.args in
    let p = holds (user_of a.u) in
    let o = c.loop-f in
    let q : length a.files ≡ max_files = search rules in
    let n = length-take-le a.n a.files (omega arith) in
    let here = get_or-take a.n a.files o.f-index past (omega arith) in
    elim c.if-is_held.branch [
      | then-is_held w ↦
          let t = sym (ap (λ f. p (file_of f)) here) ∙ sym c.is_held.ensures ∙ w.if-is_held.true in
          rw (w.out-is, w.count-is, here) (lay_kept p a.n a.files (omega arith) o.out o.count o.f-index o.invariant (omega arith) c.requires t)
      | else-is_held w ↦
          let t = sym (ap (λ f. p (file_of f)) here) ∙ sym c.is_held.ensures ∙ w.if-is_held.false in
          rw (w.out-is, w.count-is) (lay_passed p a.n a.files (omega arith) o.out o.count o.f-index o.invariant (omega arith) t)
    ]

pub returns : goal.returns
returns c =
    let a = c.args in
    let o = c.loop-f in
    let q : length a.files ≡ max_files = search rules in
    let n = length-take-le a.n a.files (omega arith) in
    lay_ends (holds (user_of a.u)) a.n a.files (omega arith) o.out o.count o.f-index o.invariant (omega arith)
