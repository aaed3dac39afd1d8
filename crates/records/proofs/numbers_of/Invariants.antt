-- The loop of `records::numbers_of`: writing the numbers that are left at place n gives the whole answer. Assumes nothing.
use Rattle.std.proofs.Common.{◌≡◌, ◌≤◌, length, drop, map, replicate}
use Rattle.lemmas.specs.Slices.{put}
use Rattle.model.specs.File.{numbers, max_files}
use Rattle.records.specs.Record.{file_of}
use Rattle.records.proofs.numbers_of.Given as goal

abbrev pub invariant-loop-n : goal.invariant-loop-n
invariant-loop-n l = record {
  room : length l.out ≡ max_files;
  few : length l.f-items ≤ max_files;
  same : put l.out l.n (numbers (map file_of (drop l.n l.f-items))) ≡ put (replicate max_files 0) 0 (numbers (map file_of l.f-items));
}
