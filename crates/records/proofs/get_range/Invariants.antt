-- The loop of `records::get_range`: the keys so far and those of the files that are left have the run's smallest and largest. Assumes nothing.
use Rattle.std.proofs.Common.{◌≡◌, drop, map}
use Rattle.model.specs.Range.{low_key, high_key}
use Rattle.model.proofs.RangeLaws.{smallest_of, largest_of}
use Rattle.keys.specs.Key.{key_of}
use Rattle.records.specs.Record.{file_of}
use Rattle.records.specs.Run.{run}
use Rattle.records.proofs.get_range.Given as goal

abbrev pub invariant-loop-f : goal.invariant-loop-f
invariant-loop-f l = record {
  low : smallest_of (key_of l.low) (map file_of (drop l.f-index l.others)) ≡ low_key (run l.from l.to l.fn.files);
  high : largest_of (key_of l.high) (map file_of (drop l.f-index l.others)) ≡ high_key (run l.from l.to l.fn.files);
}
