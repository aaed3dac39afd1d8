-- The loops of `merge`. Within a level: writing the merge of what is left of both runs gives the whole merge, and the collision test so far with what is left to
-- test gives its answer. The same over the levels.
use Rattle.std.proofs.Common.{◌≡◌, ◌+◌, ◌≤◌, true, ◌&&◌, length, drop}
use Rattle.lemmas.specs.Lists.{join, sum}
use Rattle.lemmas.specs.Slices.{put, parts}
use Rattle.model.specs.File.{in_order, no_collision, levelwise, max_additions, max_files}
use Rattle.records.specs.Record.{vacant}
use Rattle.edit_stayers.specs.Stayers.{records_at}
use Rattle.edit_merge.specs.Builder.{files_of, merges}
use Rattle.edit_merge.proofs.Turning.{MergeInvariant}
use Rattle.edit_merge.proofs.merge.Given as goal

abbrev pub invariant-loop-at : goal.invariant-loop-at
invariant-loop-at l =
    (l.at ≡ l.i + l.j)
    × MergeInvariant l.level (records_at l.files l.places) (records_at l.news l.order) l.to l.new_to l.initial.out l.initial.seen l.initial.i l.initial.j l.out l.seen l.i l.j

abbrev pub invariant-loop-level : goal.invariant-loop-level
invariant-loop-level l =
    let old = records_at l.files l.places in
    let new = records_at l.news l.order in
    let left = merges (parts (drop l.i old) (drop l.level l.counts)) (parts (drop l.j new) (drop l.level l.new_counts)) in
    let whole = merges (parts old l.counts) (parts new l.new_counts) in
    (l.i + sum (drop l.level l.counts) + (l.j + sum (drop l.level l.new_counts)) ≤ max_files) × (l.j + sum (drop l.level l.new_counts) ≤ max_additions)
    × (length l.out ≡ max_files)
    × (put l.out (l.i + l.j) (join left) ≡ put (vacant max_files) 0 (join whole))
    × (levelwise in_order l.level (files_of (parts (drop l.i old) (drop l.level l.counts))) ≡ true)
    × ((l.seen.fits && levelwise no_collision l.level (files_of left)) ≡ levelwise no_collision 0 (files_of whole))
