-- The loop of `best_level`: the best so far against the levels from this one on gives the best of all.
use Rattle.std.proofs.Common.{◌≡◌, ◌-◌, ◌<◌}
use Rattle.model.specs.File.{last_level}
use Rattle.model.specs.Score.{best_from}
use Rattle.pick_score.specs.Scores.{scores_by}
use Rattle.pick_score.proofs.best_level.Given as goal

abbrev pub invariant-loop-level : goal.invariant-loop-level
invariant-loop-level l = (l.best < l.level) × (best_from (scores_by l.amounts) l.best l.level (last_level - l.level) ≡ best_from (scores_by l.amounts) 0 1 5)
