-- The loop of `lay_counters`: writing the entries that are left gives all of them.
use Rattle.std.proofs.Common.{◌≡◌, ◌+◌, ◌≤◌, length}
use Rattle.lemmas.specs.Lists.{join}
use Rattle.lemmas.specs.Slices.{put}
use Rattle.difference_list.specs.SectionLaws.{counters_from}
use Rattle.difference_list.proofs.lay_counters.Given as goal

abbrev pub invariant-loop-i : goal.invariant-loop-i
invariant-loop-i l = record {
  few : l.listed ≤ l.i;
  to_come : l.next + length (join (counters_from l.i l.left l.right)) ≡ l.initial.next + length (join (counters_from 0 l.left l.right));
  written : put l.out l.next (join (counters_from l.i l.left l.right)) ≡ put l.initial.out l.initial.next (join (counters_from 0 l.left l.right));
  counted : l.listed + length (counters_from l.i l.left l.right) ≡ length (counters_from 0 l.left l.right);
}
