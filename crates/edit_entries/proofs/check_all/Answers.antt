-- `edit_entries::check_all` meets its contract. Assumes nothing.
use Rattle.std.proofs.Common.{◌≡◌, ℕ, suc, ◌+◌, ◌<◌, List, ◌∷◌, length, get_or, drop, map, sym, ap, ◌∙◌, arith, add-one, drop-cons, drop_of_length-le}
use Rattle.lemmas.specs.Lists.{join}
use Rattle.model.specs.Answer.{Refusal}
use Rattle.answers.specs.Outcome.{passed}
use Rattle.answers.specs.OutcomeLaws.{passed_nil, passed_refused, passed_done, handed_on}
use Rattle.edit_entries.proofs.check_all.Goals as goal

-- the tests from a place on are those of the entry there, then those of the entries after it
turn : {A : Type 0} (tests : A → List Refusal) (l : List A) (i : ℕ) (x : A) → i < length l → x ≡ get_or l i x
    → passed (join (map tests (drop i l))) ≡ passed (join (tests x ∷ map tests (drop (i + 1) l)))
turn tests l i x h e =
    ap (λ ys. passed (join (map tests ys))) (drop-cons l i x h ∙ ap (λ y. y ∷ drop (suc i) l) (sym e) ∙ ap (λ k. x ∷ drop k l) (sym (add-one i)))

pub returns-in_err-check : goal.returns-in_err-check
unfolding join
returns-in_err-check g c =
    let tests = g.E.Entry.tests in
    let l = c.args.entries.now in
    let i = c.loop-entry.entry-index in
    let x = c.entry-item.result in
    handed_on _ _ c.from_residual.ensures.1
    ∙ sym (c.loop-entry.invariant.1 ∙ turn tests l i x (omega arith) c.entry-item.is
    ∙ passed_refused (join (map tests (drop (i + 1) l))) (tests x) c.in_err-check.field-0.0 (sym c.check.ensures ∙ c.in_err-check.was))

pub loop-entry-preserved : goal.loop-entry-preserved
unfolding join
loop-entry-preserved g c =
    let tests = g.E.Entry.tests in
    let l = c.args.entries.now in
    let i = c.loop-entry.entry-index in
    let x = c.entry-item.result in (
      omega arith,
      c.loop-entry.invariant.1 ∙ turn tests l i x (omega arith) c.entry-item.is
          ∙ passed_done (join (map tests (drop (i + 1) l))) (tests x) (sym c.check.ensures ∙ c.in_ok-check.was),
    )

pub returns : goal.returns
unfolding join
returns g c =
    let tests = g.E.Entry.tests in
    sym (c.loop-entry.invariant.1 ∙ ap (λ xs. passed (join (map tests xs))) (drop_of_length-le c.args.entries.now (omega arith)) ∙ passed_nil)
