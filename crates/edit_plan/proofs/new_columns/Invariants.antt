-- The loop of `new_columns`: writing the additions from i on gives the three whole columns.
use Rattle.std.proofs.Common.{◌≡◌, ℕ, length, take}
use Rattle.std.specs.Prelude.{map}
use Rattle.std.proofs.Math.Seq.{slice}
use Rattle.lemmas.specs.Slices.{put}
use Rattle.model.specs.File.{max_additions}
use Rattle.keys.specs.declared.Key.{Key}
use Rattle.edit.specs.declared.Addition.{Addition}
use Rattle.edit_plan.specs.Planning.{no_keys}
use Rattle.edit_plan.proofs.new_columns.Given as goal

abbrev pub invariant-loop-i : goal.invariant-loop-i
invariant-loop-i l =
    let low : Addition → Key = λ a. a.smallest in
    let level : Addition → ℕ = λ a. a.level in
    let number : Addition → ℕ = λ a. a.number.0 in
    (length l.keys ≡ max_additions) × (length l.levels ≡ length l.fn.levels) × (length l.numbers ≡ length l.fn.numbers)
    × (put l.keys l.i (map low (slice l.i l.count l.fn.additions)) ≡ put (no_keys max_additions) 0 (map low (take l.count l.fn.additions)))
    × (put l.levels l.i (map level (slice l.i l.count l.fn.additions)) ≡ put l.fn.levels 0 (map level (take l.count l.fn.additions)))
    × (put l.numbers l.i (map number (slice l.i l.count l.fn.additions)) ≡ put l.fn.numbers 0 (map number (take l.count l.fn.additions)))
