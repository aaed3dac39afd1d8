-- `best_level` meets its contract: each turn takes the level if its fraction is greater than the best so far.
use Rattle.std.proofs.Common.{◌*◌, get_or, sym, ◌∙◌, arith}
use borrow.Author.Tests.{lt-ltb, le-ltb}
use Rattle.model.specs.File.{last_level}
use Rattle.pick_score.specs.Scores.{scores_by, times}
use Rattle.pick_score.specs.ScoresLaws.{compares, top_fits, best_here, best_kept, best_ended}
use Rattle.pick_score.proofs.best_level.Goals as goal
use Rattle.pick_score.proofs.best_level.Goals.{then-amounts-best, else-amounts-best}

pub overflow_mul-amounts : goal.overflow_mul-amounts
unfolding times
overflow_mul-amounts c = omega (arith, top_fits c.args.amounts c.loop-level.best c.requires (omega arith))

pub overflow_mul-amounts-in-loop-level : goal.overflow_mul-amounts-in-loop-level
unfolding times
overflow_mul-amounts-in-loop-level c = omega (arith, top_fits c.args.amounts c.loop-level.level c.requires (omega arith))

pub loop-level-preserved : goal.loop-level-preserved
unfolding times
loop-level-preserved c =
    let amounts = c.args.amounts in
    let l = c.loop-level in
    let sc = scores_by amounts in
    let a = get_or amounts l.best 0 * get_or times l.best 0 in
    let b = get_or amounts l.level 0 * get_or times l.level 0 in
    let e = compares amounts l.best l.level (omega arith) (omega arith) in
    elim c.if-amounts-best.branch [
      | then-amounts-best w ↦ (omega arith, rw w.best-is (sym (best_here sc last_level l.best l.level (omega arith) (e ∙ lt-ltb a b (omega (arith, w.if-amounts-best.true)))) ∙ l.invariant.1))
      | else-amounts-best w ↦ (omega arith, rw w.best-is (sym (best_kept sc last_level l.best l.level (omega arith) (e ∙ le-ltb a b (omega (arith, w.if-amounts-best.false)))) ∙ l.invariant.1))
    ]

pub returns : goal.returns
returns c = sym (best_ended (scores_by c.args.amounts) last_level c.loop-level.best c.loop-level.level (omega arith)) ∙ c.loop-level.invariant.1
