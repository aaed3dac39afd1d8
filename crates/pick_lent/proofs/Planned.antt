-- What a pick with this plan leaves: a refused plan, and an accepted one. Assumes nothing.
use Rattle.std.proofs.Common.{◌≡◌, sym, ap, subst, ◌∙◌, refl, Result, Ok, Err}
use Rattle.model.specs.Answer.{Answer, refused}
use Rattle.model.specs.Pick as model
use Rattle.answers.specs.Outcome.{number_of, result_of}
use Rattle.answers.specs.OutcomeLaws.{refusal_of_number}
use Rattle.answers.specs.declared.Refusal.{Refusal}
use Rattle.store.specs.declared.Store.{Store}
use Rattle.pick_answer.specs.declared.Picked.{Picked}
use Rattle.pick_plan.specs.declared.PickPlan.{PickPlan}
use Rattle.pick_plan.specs.Plans.{picks_from, planned_answer, Plans, taken_of, left_by}
use Rattle.pick_lent.specs.Taking.{Leaves}

-- a call that is refused and leaves the store as it was
pub leaves_none : (s : Store) (a : Answer model.Pick) (r : Refusal) → a ≡ refused (number_of r) → Leaves s a (Err r) s
unfolding taken_of left_by result_of
leaves_none s a r e = rw e record { answer = ap Err (sym (refusal_of_number r)); store = refl }

-- ---- by the plan
module _ (s : Store) (a : Answer model.Pick) (p : Result PickPlan Refusal) (plans : Plans s a p) where
  -- it is refused: so is the pick
  pub leaves_refused : (r : Refusal) → p ≡ Err r → (x : Result Picked Refusal) → x ≡ Err r → Leaves s a x s
  unfolding planned_answer
  leaves_refused r e x f = rw f (leaves_none s a r (sym plans.answers ∙ ap (planned_answer s) e))

  -- it is accepted: the pick is made from its first search on
  pub leaves_followed : (q : PickPlan) → p ≡ Ok q → (x : Result Picked Refusal) (t : Store) → Leaves s (picks_from s q.cause q.asked q.search) x t → Leaves s a x t
  unfolding planned_answer
  leaves_followed q e x t l = subst (λ (y : Answer model.Pick). Leaves s y x t) (sym (ap (planned_answer s) e) ∙ plans.answers) l
