-- The loop of `counts_up_to`: the sum is the bytes of the files seen, and the places that are left decide.
use Rattle.std.proofs.Common.{◌≡◌, ◌+◌, ◌-◌, ◌≤◌, length}
use Rattle.model.specs.File.{total}
use Rattle.model.specs.Calls.{counts_up_to}
use Rattle.records.specs.Run.{run}
use Rattle.pick_answer.specs.Picked.{picked_of}
use Rattle.compact_cutter.specs.CutterLaws.{counts_from}
use Rattle.compact_cutter.proofs.counts_up_to.Given as goal

abbrev pub invariant-loop-f : goal.invariant-loop-f
invariant-loop-f l =
    let end = l.from + l.place in
    (length l.yielded ≤ l.place) × (l.sum ≡ total (run (end - length l.yielded) end l.fn.c.files))
    × (counts_from l.fn.c.files l.from end l.count (end - length l.yielded) ≡ counts_up_to (picked_of l.fn.c).grand l.place l.count)
