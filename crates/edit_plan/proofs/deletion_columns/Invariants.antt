-- The loop of `deletion_columns`: writing the deletions from i on gives both whole columns.
use Rattle.std.proofs.Common.{◌≡◌, ℕ, length, take}
use Rattle.std.specs.Prelude.{map}
use Rattle.std.proofs.Math.Seq.{slice}
use Rattle.lemmas.specs.Slices.{put}
use Rattle.edit.specs.declared.Deletion.{Deletion}
use Rattle.edit_plan.proofs.deletion_columns.Given as goal

abbrev pub invariant-loop-i : goal.invariant-loop-i
invariant-loop-i l =
    let level : Deletion → ℕ = λ d. d.level in
    let number : Deletion → ℕ = λ d. d.number.0 in
    (length l.levels ≡ length l.fn.levels) × (length l.numbers ≡ length l.fn.numbers)
    × (put l.levels l.i (map level (slice l.i l.count l.fn.deletions)) ≡ put l.fn.levels 0 (map level (take l.count l.fn.deletions)))
    × (put l.numbers l.i (map number (slice l.i l.count l.fn.deletions)) ≡ put l.fn.numbers 0 (map number (take l.count l.fn.deletions)))
