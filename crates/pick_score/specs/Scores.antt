-- The score of the level to compact as code keeps it, and the answer with it. Assumes nothing.
use Rattle.std.specs.Prelude.{ℕ, zero, suc, ◌≤◌, List, [], ◌∷◌, get_or, set, Result}
use Rattle.model.specs.Answer.{Answer}
use Rattle.model.specs.File.{State, full, max_files, max_bytes}
use Rattle.model.specs.Score.{Score, byte_limit, score, level_to_compact, due, reported}
use Rattle.model.specs.Score.{best_from}
use Rattle.model.specs.Calls as calls
use Rattle.answers.specs.Outcome.{result_of}
use Rattle.answers.specs.declared.Refusal.{Refusal}
use Rattle.pick_score.specs.declared.Scored.{Scored}

-- the limit of a level that has a score: 4 files at level 0, bytes deeper
unfoldable pub whole_of : ℕ → ℕ
whole_of zero = 4
whole_of (suc l) = byte_limit l

-- the score of a level with this amount
unfoldable pub score_at : ℕ → ℕ → Score
score_at l amount = record { part = amount; whole = whole_of l }

-- the scores of the levels with these amounts
unfoldable pub scores_by : List ℕ → ℕ → Score
scores_by amounts l = score_at l (get_or amounts l 0)

-- 104857600000 over the limit of each level that has a score
unfoldable pub times : List ℕ
times = 26214400000 ∷ 10000 ∷ 1000 ∷ 100 ∷ 10 ∷ 1 ∷ []

-- bounds on the amounts of a well-formed version: files of level 0 within the room, bytes no more than a full version has
pub record Amounts (amounts : List ℕ) : Type 0 where
  pub files : get_or amounts 0 0 ≤ max_files
  pub bytes : (l : ℕ) → get_or amounts l 0 ≤ max_bytes

-- the record of a level and its score
unfoldable pub scored_as : ℕ → Score → Scored
scored_as l c = record { level = l; amount = c.part; limit = c.whole; score = reported c; due = due c }

-- the amounts of all levels: files at level 0, bytes deeper
unfoldable pub amounts_by : List ℕ → List ℕ → List ℕ
amounts_by bytes counts = set bytes 0 (get_or counts 0 0)

-- the lowest level with the greatest score by these amounts, and its score
unfoldable pub scored_by : List ℕ → Scored
scored_by amounts = let l = best_from (scores_by amounts) 0 1 5 in scored_as l (scores_by amounts l)

-- the level to compact and its score
unfoldable pub scored_of : State → Scored
scored_of t = scored_as (level_to_compact full t) (score t (level_to_compact full t))

-- the record of the model's answer
unfoldable pub work_record : calls.Work → Scored
work_record w = record { level = w.level; amount = w.score.part; limit = w.score.whole; score = w.reported; due = w.is_due }

-- the result of `needs_compaction`
unfoldable pub work_of : Answer calls.Work → Result Scored Refusal
work_of a = result_of work_record a
