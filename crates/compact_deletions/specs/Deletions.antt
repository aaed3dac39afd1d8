-- The deletions of a picked answer's inputs: as records, in an edit, in lent columns. Assumes nothing.
use Rattle.std.specs.Prelude.{ℕ, ◌+◌, ◌-◌, min, ◌≡◌, List, map, length, Result}
use Rattle.lemmas.specs.Slices.{put}
use Rattle.model.specs.Answer.{Answer, on_answer, lent}
use Rattle.model.specs.File.{full}
use Rattle.model.specs.Edit as model_edit
use Rattle.model.specs.Calls as calls
use Rattle.answers.specs.Outcome.{result_of, answer_of, filling}
use Rattle.answers.specs.declared.Refusal.{Refusal}
use Rattle.edit.specs.declared.Deletion.{Deletion}
use Rattle.edit.specs.declared.Edit.{Edit}
use Rattle.pick_answer.specs.declared.Picked.{Picked}
use Rattle.pick_answer.specs.Picked.{on_picked}

-- the record that is kept of a deletion
unfoldable pub deletion_record : model_edit.Deletion → Deletion
deletion_record d = record { level = d.level; number = record { 0 = d.number } }

-- the record of a deletion of a number at a level
unfoldable pub deletion_at : ℕ → ℕ → Deletion
deletion_at l n = record { level = l; number = record { 0 = n } }

-- the number of deletions that an edit still has room for, none if its count is beyond the room
unfoldable pub room_in : Edit → ℕ
room_in e = full.deletions - e.deletion_count

-- the edit with deletions after its own
unfoldable pub with_deletions : Edit → List Deletion → Edit
with_deletions e ds = record {
  pointings = e.pointings;
  pointing_count = e.pointing_count;
  deletions = put e.deletions e.deletion_count ds;
  deletion_count = e.deletion_count + length ds;
  additions = e.additions;
  addition_count = e.addition_count;
  log = e.log;
}

-- the result of adding the deletions of an answer: the edit with them after its own
unfoldable pub deleted_by : Edit → Answer (List model_edit.Deletion) → Result Edit Refusal
deleted_by e a = result_of (λ ds. with_deletions e (map deletion_record ds)) a

-- the deletions of the inputs, for lent output of this length
unfoldable pub naming : Picked → ℕ → Answer (List model_edit.Deletion)
naming c room = on_picked c (λ p. calls.deletions_of full p room)

-- two lent columns after a call: how many places it filled, the levels in one, the numbers in the other. Past them, and after a refusal, they are as they were. The
-- shorter column is the room
pub record Names (c : Picked) (levels numbers : List ℕ) (r : Result ℕ Refusal) (levels' numbers' : List ℕ) : Type 0 where
  pub answer : answer_of r ≡ filling (naming c (min (length levels) (length numbers)))
  pub levels_after : levels' ≡ lent (on_answer (map (λ (d : model_edit.Deletion). d.level)) (naming c (min (length levels) (length numbers)))) levels
  pub numbers_after : numbers' ≡ lent (on_answer (map (λ (d : model_edit.Deletion). d.number)) (naming c (min (length levels) (length numbers)))) numbers
