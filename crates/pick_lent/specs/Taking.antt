-- The result of a pick on a lent store, and the store that it leaves there. Assumes nothing.
use Rattle.std.specs.Prelude.{◌≡◌, Result}
use Rattle.model.specs.Answer.{Answer}
use Rattle.model.specs.Pick as model
use Rattle.answers.specs.declared.Refusal.{Refusal}
use Rattle.store.specs.declared.Store.{Store}
use Rattle.pick_answer.specs.declared.Picked.{Picked}
use Rattle.pick_plan.specs.Plans.{taken_of, left_by}

-- the result is the model's, and the store the one that it leaves. After a refusal that is the store lent
pub record Leaves (s : Store) (a : Answer model.Pick) (r : Result Picked Refusal) (t : Store) : Type 0 where
  pub answer : r ≡ taken_of a
  pub store : t ≡ left_by s a
