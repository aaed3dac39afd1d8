-- The loop of `lay_deletions`: writing the deletions from i on gives the whole array.
use Rattle.std.proofs.Common.{◌≡◌, ◌+◌, length, drop}
use Rattle.std.specs.Prelude.{map}
use Rattle.lemmas.specs.Slices.{put}
use Rattle.model.specs.File.{max_deletions}
use Rattle.compact_deletions.specs.Deletions.{deletion_at}
use Rattle.compact_deletions.proofs.lay_deletions.Given as goal

abbrev pub invariant-loop-i : goal.invariant-loop-i
invariant-loop-i l =
    (length l.deletions ≡ max_deletions)
    × (put l.deletions (l.at + l.i) (drop l.i (map (deletion_at l.level) l.numbers)) ≡ put l.fn.out l.at (map (deletion_at l.level) l.numbers))
