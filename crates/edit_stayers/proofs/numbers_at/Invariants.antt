-- The loop of `numbers_at`: writing the numbers at the places from i on, from i on, gives the whole column.
use Rattle.std.proofs.Common.{◌≡◌, length, replicate}
use Rattle.std.specs.Prelude.{map}
use Rattle.std.proofs.Math.Seq.{slice}
use Rattle.lemmas.specs.Slices.{put}
use Rattle.model.specs.File.{max_files}
use Rattle.edit_stayers.specs.Stayers.{number_at}
use Rattle.edit_stayers.proofs.numbers_at.Given as goal

abbrev pub invariant-loop-i : goal.invariant-loop-i
invariant-loop-i l =
    (length l.out ≡ max_files) × (put l.out l.i (map (number_at l.numbers) (slice l.i (length l.places) l.places)) ≡ put (replicate max_files 0) 0 (map (number_at l.numbers) l.places))
