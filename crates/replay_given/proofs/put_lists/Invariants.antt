-- The loops of `put_lists`: writing the lists that are left gives all lists, and so for a list's files.
use Rattle.std.proofs.Common.{◌≡◌, ◌+◌, length, drop}
use Rattle.lemmas.specs.Lists.{join, sum}
use Rattle.lemmas.specs.Slices.{put}
use Rattle.replay_given.specs.Given.{lists_bytes}
use Rattle.replay_given.specs.GivenLaws.{counted, lists_from, files_of}
use Rattle.replay_given.proofs.put_lists.Given as goal

abbrev pub invariant-loop-n : goal.invariant-loop-n
invariant-loop-n l = record {
  starts : l.from + sum (drop l.n-index (counted l.c)) ≡ sum (counted l.c);
  to_come : l.next + length (join (lists_from l.c.files (counted l.c) l.from l.n-index)) ≡ l.at + length (lists_bytes l.c);
  written : put l.out l.next (join (lists_from l.c.files (counted l.c) l.from l.n-index)) ≡ put l.fn.out l.at (lists_bytes l.c);
}

abbrev pub invariant-loop-f : goal.invariant-loop-f
invariant-loop-f l = record {
  to_come : l.next + length (join (files_of (drop l.f-index l.f-items))) ≡ l.initial.next + length (join (files_of l.f-items));
  written : put l.out l.next (join (files_of (drop l.f-index l.f-items))) ≡ put l.initial.out l.initial.next (join (files_of l.f-items));
}
