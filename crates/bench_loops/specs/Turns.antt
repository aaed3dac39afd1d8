-- How many of many picks in turn are not refused. Assumes nothing.
use Rattle.std.specs.Prelude.{ℕ, zero, suc, ◌+◌, List, Result, Ok, Err}
use Rattle.model.specs.Answer.{Answer}
use Rattle.model.specs.File.{State, full}
use Rattle.model.specs.Pick as model
use Rattle.answers.specs.declared.Refusal.{Refusal}
use Rattle.store.specs.declared.Store.{Store}
use Rattle.store.specs.Store.{on_store}
use Rattle.pick_answer.specs.declared.Picked.{Picked}
use Rattle.pick_plan.specs.Plans.{taken_of, left_by}

-- one where a pick was not refused
unfoldable pub done_by : Result Picked Refusal → ℕ
done_by (Ok c) = 1
done_by (Err r) = 0

-- how many of so many picks are not refused, each on the store that the one before has left
unfoldable pub many_done : (State → Answer model.Pick) → ℕ → Store → ℕ
many_done call zero s = 0
many_done call (suc n) s = done_by (taken_of (on_store s call)) + many_done call n (left_by s (on_store s call))

-- of size picks
unfoldable pub sizes_done : ℕ → Store → ℕ → ℕ
sizes_done n s maximum = many_done (λ t. model.size_pick full t maximum) n s

-- of manual picks
unfoldable pub ranges_done : ℕ → Store → ℕ → ℕ → List ℕ → List ℕ → ℕ
ranges_done n s maximum level start stop = many_done (λ t. model.manual_pick full t maximum level start stop) n s
