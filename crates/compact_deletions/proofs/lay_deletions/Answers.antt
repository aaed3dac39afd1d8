-- `lay_deletions` meets its contract: each turn writes one more deletion.
use Rattle.std.proofs.Common.{◌≡◌, ◌+◌, length, get_or, drop, set, sym, ap, ◌∙◌, arith, rules}
use Rattle.std.specs.Prelude.{map}
use Rattle.std.proofs.Math.ListN.{length-set, length-map}
use Rattle.lemmas.specs.Slices.{put, get_or_map, length_of_map}
use Rattle.lemmas.specs.Merge.{lay_starts, lay_turn, lay_ended}
use Rattle.model.specs.File.{max_deletions}
use Rattle.edit.specs.EditLaws.{past_deletion}
use Rattle.edit.specs.declared.Deletion.{Deletion}
use Rattle.compact_deletions.specs.Deletions.{deletion_at}
use Rattle.compact_deletions.proofs.lay_deletions.Goals as goal

pub loop-i-init : goal.loop-i-init
loop-i-init c =
    let a = c.args in
    let q : length a.out ≡ max_deletions = search (rules, length_of_map) in
    (q, lay_starts a.out a.at (map (deletion_at a.level) a.numbers.now))

pub loop-i-preserved : goal.loop-i-preserved
unfolding deletion_at
loop-i-preserved c =
    let a = c.args in
    let o = c.loop-i in
    let ds = map (deletion_at a.level) a.numbers.now in
    let size = length-map a.numbers.now (deletion_at a.level) in
    let x : Deletion = deletion_at a.level (get_or a.numbers.now o.i 0) in
    let at : get_or ds o.i past_deletion ≡ x = get_or_map (deletion_at a.level) a.numbers.now o.i 0 past_deletion (omega arith) in (
      length-set o.deletions (a.at + o.i) x ∙ o.invariant.0,
      ap (λ (d : Deletion). put (set o.deletions (a.at + o.i) d) (a.at + (o.i + 1)) (drop (o.i + 1) ds)) (sym at)
          ∙ lay_turn o.deletions a.at ds o.i past_deletion (omega arith) (omega arith) ∙ o.invariant.1,
    )

pub returns : goal.returns
returns c =
    let a = c.args in
    let o = c.loop-i in
    let ds = map (deletion_at a.level) a.numbers.now in
    sym (lay_ended o.deletions a.at ds o.i (omega (arith, length-map a.numbers.now (deletion_at a.level)))) ∙ o.invariant.1
