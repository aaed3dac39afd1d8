-- The loops of `put_levels`: writing the levels that are left gives all of them, and so for a level's files.
use Rattle.std.proofs.Common.{◌≡◌, ◌+◌, length, drop}
use Rattle.lemmas.specs.Lists.{join, sum}
use Rattle.lemmas.specs.Slices.{put}
use Rattle.snapshot_write.specs.WritingLaws.{files_at, levels_from}
use Rattle.snapshot_write.proofs.put_levels.Given as goal

abbrev pub invariant-loop-n : goal.invariant-loop-n
invariant-loop-n l = record {
  starts : l.from + sum (drop l.n-index l.fn.counts) ≡ sum l.fn.counts;
  to_come : l.next + length (join (levels_from l.files l.fn.counts l.from l.n-index)) ≡ l.at + length (join (levels_from l.files l.fn.counts 0 0));
  written : put l.out l.next (join (levels_from l.files l.fn.counts l.from l.n-index)) ≡ put l.fn.out l.at (join (levels_from l.files l.fn.counts 0 0));
}

abbrev pub invariant-loop-p : goal.invariant-loop-p
invariant-loop-p l = record {
  to_come : l.next + length (join (files_at l.files l.from (drop l.p-index l.p-items))) ≡ l.initial.next + length (join (files_at l.files l.from l.p-items));
  written : put l.out l.next (join (files_at l.files l.from (drop l.p-index l.p-items))) ≡ put l.initial.out l.initial.next (join (files_at l.files l.from l.p-items));
}
