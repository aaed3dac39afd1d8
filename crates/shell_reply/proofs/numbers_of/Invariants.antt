-- The loop of `numbers_of`: writing the numbers that are left at place n gives the whole column. Assumes nothing.
use Rattle.std.proofs.Common.{◌≡◌, length, drop, map, replicate}
use Rattle.lemmas.specs.Slices.{put}
use Rattle.model.specs.File.{max_files}
use Rattle.shell_reply.specs.Replies.{number_of}
use Rattle.shell_reply.proofs.numbers_of.Given as goal

abbrev pub invariant-loop-n : goal.invariant-loop-n
invariant-loop-n l = record {
  room : length l.column ≡ max_files;
  few : length l.f-items ≡ max_files;
  same : put l.column l.n (map number_of (drop l.n l.f-items)) ≡ put (replicate max_files 0) 0 (map number_of l.f-items);
}
