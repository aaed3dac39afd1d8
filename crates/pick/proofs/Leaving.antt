-- What a pick on a lent store leaves, as the result of a pick by value. Assumes nothing.
use Rattle.std.proofs.Common.{◌≡◌, refl, true, false, sym, ◌∙◌, Result, Ok, Err}
use Rattle.lemmas.specs.Order.{clash}
use Rattle.model.specs.Answer.{Answer, gives, refused}
use Rattle.model.specs.Pick as model
use Rattle.answers.specs.Outcome.{result_of}
use Rattle.answers.specs.declared.Refusal.{Refusal}
use Rattle.store.specs.declared.Store.{Store}
use Rattle.pick_answer.specs.declared.Pick.{Pick}
use Rattle.pick_answer.specs.declared.Picked.{Picked}
use Rattle.pick_answer.specs.Picked.{pick_record, pick_of}
use Rattle.pick_plan.specs.Plans.{taken_record, taken_of, left_by}
use Rattle.pick_lent.specs.Taking.{Leaves}

module _ (s : Store) (a : Answer model.Pick) (r : Result Picked Refusal) (t : Store) (l : Leaves s a r t) where
  -- it is refused: so is the pick by value
  pub left_refused : (e : Refusal) → r ≡ Err e → (x : Result Pick Refusal) → x ≡ Err e → x ≡ pick_of a
  unfolding taken_of pick_of result_of
  left_refused e z x f = f ∙ go a (sym z ∙ l.answer)
    where
      go : (a : Answer model.Pick) → Err e ≡ taken_of a → Err e ≡ pick_of a
      go (gives k) z = let w : true ≡ false = cc in clash refl w
      go (refused n) z = cc

  -- it is accepted: both together
  pub left_pick : (c : Picked) → r ≡ Ok c → Ok (record { picked = c; store = t }) ≡ pick_of a
  unfolding taken_of taken_record left_by pick_of pick_record result_of
  left_pick c z = go a (sym z ∙ l.answer) l.store
    where
      go : (a : Answer model.Pick) → Ok c ≡ taken_of a → t ≡ left_by s a → Ok (record { picked = c; store = t }) ≡ pick_of a
      go (gives k) z u = cc
      go (refused n) z u = let w : true ≡ false = cc in clash refl w
