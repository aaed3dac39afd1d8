-- `add_counts` meets its contract: each turn writes the sum of one more level.
use Rattle.std.proofs.Common.{◌≡◌, ◌+◌, length, get_or, drop, replicate, refl, sym, ap, ◌∙◌, arith, rules}
use Rattle.std.proofs.Math.ListN.{length-set}
use Rattle.lemmas.specs.Slices.{put, put_cons, put_nil, put_whole, sum_upto}
use Rattle.model.specs.File.{level_count}
use Rattle.edit_merge.specs.Builder.{sums}
use Rattle.edit_merge.specs.MergeLaws.{sums_length, sums_turn, sums_over}
use Rattle.edit_merge.proofs.add_counts.Goals as goal

pub loop-level-init : goal.loop-level-init
loop-level-init c =
    let a = c.args in
    let seven : length a.counts ≡ level_count = search rules in
    (refl, put_whole (replicate level_count 0) (sums a.counts a.new_counts) (sums_length a.counts a.new_counts ∙ seven))

pub overflow_add-made : goal.overflow_add-made
overflow_add-made c = omega (arith, sum_upto c.loop-level.level c.args.counts, sum_upto c.loop-level.level c.args.new_counts)

pub loop-level-preserved : goal.loop-level-preserved
loop-level-preserved c =
    let l = c.loop-level in
    let a = c.args in
    let p : length a.counts ≡ level_count = search rules in
    let q : length a.new_counts ≡ level_count = search rules in
    let x = get_or a.counts l.level 0 + get_or a.new_counts l.level 0 in (
      length-set l.made l.level x ∙ l.invariant.0,
      put_cons l.made l.level x (sums (drop (l.level + 1) a.counts) (drop (l.level + 1) a.new_counts)) (omega arith)
          ∙ ap (put l.made l.level) (sym (sums_turn a.counts a.new_counts l.level (omega arith) (omega arith)))
          ∙ l.invariant.1,
    )

pub returns : goal.returns
returns c =
    let l = c.loop-level in
    let a = c.args in
    let p : length a.counts ≡ level_count = search rules in
    sym (put_nil l.made l.level) ∙ ap (put l.made l.level) (sym (sums_over a.counts a.new_counts l.level (omega arith))) ∙ l.invariant.1
