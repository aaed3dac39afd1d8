-- The loops of `stay`. The outer one: writing the stayers of the levels from `level` on to `places` at n gives the whole answer, and so do their counts. The inner
-- one: writing the level's stayers from place i on at n gives the whole level.
use Rattle.std.proofs.Common.{◌≡◌, ℕ, ◌+◌, ◌≤◌, Bool, length, drop, replicate}
use Rattle.std.specs.Prelude.{map}
use Rattle.std.proofs.Math.Seq.{slice}
use Rattle.lemmas.specs.Lists.{keep, join, sum, up_from}
use Rattle.lemmas.specs.Slices.{put, parts}
use Rattle.model.specs.File.{level_count, max_files}
use Rattle.edit_stayers.specs.Stayers.{stays_by, stayers_by, number_at}
use Rattle.edit_stayers.proofs.stay.Given as goal

abbrev pub invariant-loop-i : goal.invariant-loop-i
invariant-loop-i l =
    let p : ℕ → Bool = λ q. stays_by l.deleted_levels l.deleted l.added_levels l.added l.level (number_at l.numbers q) in
    let every = up_from 0 max_files in
    (l.to ≤ length l.numbers) × (l.n ≤ l.i) × (length l.places ≡ max_files)
    × (put l.places l.n (keep p (slice l.i l.to every)) ≡ put l.initial.places l.initial.n (keep p (slice l.from l.to every)))
    × (l.n + length (keep p (slice l.i l.to every)) ≡ l.initial.n + length (keep p (slice l.from l.to every)))

abbrev pub invariant-loop-level : goal.invariant-loop-level
invariant-loop-level l =
    let test = stays_by l.deleted_levels l.deleted l.added_levels l.added in
    let every = up_from 0 max_files in
    let left = stayers_by (number_at l.numbers) test l.level (parts (drop l.from every) (drop l.level l.fn.counts)) in
    let all = stayers_by (number_at l.numbers) test 0 (parts every l.fn.counts) in
    (l.from + sum (drop l.level l.fn.counts) ≤ length l.numbers) × (l.n ≤ l.from) × (length l.places ≡ max_files) × (length l.made ≡ level_count)
    × (put l.places l.n (join left) ≡ put (replicate max_files 0) 0 (join all))
    × (l.n + length (join left) ≡ length (join all))
    × (put l.made l.level (map length left) ≡ map length all)
