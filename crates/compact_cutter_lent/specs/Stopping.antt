-- The answer and the memory after a call on lent memory. Assumes nothing.
use Rattle.std.specs.Prelude.{◌≡◌, Bool, Result}
use Rattle.model.specs.Answer.{Answer}
use Rattle.model.specs.Question as model
use Rattle.answers.specs.declared.Refusal.{Refusal}
use Rattle.answers.specs.Outcome.{result_of}
use Rattle.keys.specs.declared.Key.{Key}
use Rattle.pick_answer.specs.declared.Picked.{Picked}
use Rattle.compact_cutter.specs.declared.Cutter.{Cutter}
use Rattle.compact_cutter.specs.Cutter.{stopping, left_by}

-- the result without the memory
unfoldable pub told_of : Answer model.Cut → Result Bool Refusal
told_of a = result_of (λ (x : model.Cut). x.answer) a

-- a call's result, and the memory after the key, unchanged if it is refused
pub record Stops (c : Picked) (m : Cutter) (k : Key) (told : Result Bool Refusal) (after : Cutter) : Type 0 where
  pub answer : told ≡ told_of (stopping c m k)
  pub memory : after ≡ left_by m (stopping c m k)
