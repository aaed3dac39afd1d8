-- The loop of `add_counts`: writing the sums from a level on gives the whole list.
use Rattle.std.proofs.Common.{◌≡◌, length, drop}
use Rattle.lemmas.specs.Slices.{put}
use Rattle.model.specs.File.{level_count}
use Rattle.edit_merge.specs.Builder.{sums}
use Rattle.edit_merge.proofs.add_counts.Given as goal

abbrev pub invariant-loop-level : goal.invariant-loop-level
invariant-loop-level l = (length l.made ≡ level_count) × (put l.made l.level (sums (drop l.level l.counts) (drop l.level l.new_counts)) ≡ sums l.counts l.new_counts)
