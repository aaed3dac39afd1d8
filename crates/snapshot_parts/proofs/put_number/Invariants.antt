-- The loop of `put_number`: writing the bytes that are left gives the whole number.
use Rattle.std.proofs.Common.{◌≡◌, ◌-◌}
use Rattle.lemmas.specs.Little.{bytes}
use Rattle.lemmas.specs.Slices.{put}
use Rattle.snapshot_parts.proofs.put_number.Given as goal

abbrev pub invariant-loop-b : goal.invariant-loop-b
invariant-loop-b l = put l.b-items l.b-index (bytes (l.width - l.b-index) l.y) ≡ put l.initial.b-items 0 (bytes l.width l.x)
