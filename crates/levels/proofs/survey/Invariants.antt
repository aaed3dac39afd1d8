-- The loops of `levels::survey`. Records: those from i on decide, and their numbers are in the column. Levels: those from this one on decide, and writing their
-- bytes gives all bytes. Files of a level: those from i - 1 on decide, and the bytes so far plus theirs are the level's. Assumes nothing.
use Rattle.std.proofs.Common.{◌≡◌, ◌+◌, ◌-◌, ◌*◌, ◌≤◌, ◌<◌, length, drop, map, replicate}
use Rattle.std.proofs.Math.Seq.{slice}
use Rattle.lemmas.specs.Lists.{all, sum}
use Rattle.lemmas.specs.Slices.{put}
use Rattle.model.specs.File.{in_order, levelwise, numbers, total, level_count, max_files, max_size}
use Rattle.records.specs.Record.{well_record}
use Rattle.records.specs.Run.{run}
use Rattle.levels.specs.Levels.{levels_of}
use Rattle.levels.proofs.survey.Given as goal

abbrev pub invariant-loop-i : goal.invariant-loop-i
invariant-loop-i l = record {
  inside : l.to ≤ l.n;
  room : length l.column ≡ max_files;
  told : put l.column l.i (numbers (run l.i l.n l.files)) ≡ put (replicate max_files 0) 0 (numbers (run 0 l.n l.files));
  well : all well_record (slice l.i l.n l.files) ≡ all well_record (slice 0 l.n l.files);
  order : l.from < l.i → in_order l.level (run (l.i - 1) l.to l.files) ≡ in_order l.level (run l.from l.to l.files);
  size : l.bytes + total (run l.i l.to l.files) ≡ total (run l.from l.to l.files);
  fits : l.bytes ≤ (l.i - l.from) * max_size;
}

abbrev pub invariant-loop-level : goal.invariant-loop-level
invariant-loop-level l =
    let counts = l.fn.counts in
    record {
      left : l.to + sum (drop l.level counts) ≡ l.n;
      room : length l.column ≡ max_files;
      levels : length l.sums ≡ level_count;
      told : put l.column l.to (numbers (run l.to l.n l.files)) ≡ put (replicate max_files 0) 0 (numbers (run 0 l.n l.files));
      well : all well_record (slice l.to l.n l.files) ≡ all well_record (slice 0 l.n l.files);
      order : levelwise in_order l.level (levels_of (drop l.to l.files) (drop l.level counts)) ≡ levelwise in_order 0 (levels_of l.files counts);
      sizes : put l.sums l.level (map total (levels_of (drop l.to l.files) (drop l.level counts))) ≡ map total (levels_of l.files counts);
    }
