-- `put_levels` meets its contract: each level's count, then its files by rising number. Assumes nothing.
use Rattle.std.proofs.Common.{◌≡◌, ◌+◌, ◌∙◌, sym, ap, arith, rules, length, get_or, take, drop, drop_of_length-le, length-take, map}
use Rattle.lemmas.specs.Lists.{join}
use Rattle.lemmas.specs.Little.{bytes, bytes_length}
use Rattle.lemmas.specs.Slices.{put}
use Rattle.lemmas.specs.Laying.{put_next, part_laid, none_laid, none_length}
use Rattle.model.specs.File.{max_files}
use Rattle.model.specs.Snapshot.{write_file, write_level, count_long}
use Rattle.records.specs.Record.{file_of, past}
use Rattle.records.specs.Run.{run}
use Rattle.levels.specs.LevelsLaws as levels
use Rattle.snapshot_write.specs.WritingLaws.{files_at, levels_from, level_long, level_record, level_room, level_first, level_first_long, level_bytes, level_bytes_long, place_in_run, file_first, file_first_long}
use Rattle.snapshot_write.proofs.put_levels.Goals as goal

pub overflow_add-to : goal.overflow_add-to
overflow_add-to c =
    let r = level_room c.args.files c.args.counts c.loop-n.from c.loop-n.n-index (omega arith) c.requires.0 c.loop-n.invariant.starts in
    omega arith

pub offset_bounds-numbers-from : goal.offset_bounds-numbers-from
offset_bounds-numbers-from c =
    let r = level_room c.args.files c.args.counts c.loop-n.from c.loop-n.n-index (omega arith) c.requires.0 c.loop-n.invariant.starts in
    omega arith

pub slice_bounds-by_number-end : goal.slice_bounds-by_number-end
slice_bounds-by_number-end c =
    let r = level_room c.args.files c.args.counts c.loop-n.from c.loop-n.n-index (omega arith) c.requires.0 c.loop-n.invariant.starts in
    omega arith

pub put_number-requires : goal.put_number-requires
put_number-requires c =
    let a = c.args in
    let l = c.loop-n in
    omega (arith, c.requires.1, level_first_long a.files a.counts l.from l.n-index (omega arith), level_long (run l.from (l.from + get_or a.counts l.n-index 0) a.files))

pub overflow_add-from : goal.overflow_add-from
overflow_add-from c =
    let a = c.args in
    let l = c.loop-n in
    let n = get_or a.counts l.n-index 0 in
    let j = c.loop-p.p-index in
    let r = level_room a.files a.counts l.from l.n-index (omega arith) c.requires.0 l.invariant.starts in
    let few = length-take n c.by_number-places.result in
    let long : length a.files ≡ max_files = search rules in
    let below = place_in_run a.files c.numbers_of-numbers.result c.by_number-places.result l.from n long (omega arith) c.numbers_of-numbers.ensures c.by_number-places.ensures j (omega arith) in
    omega arith

pub offset_bounds-files-from : goal.offset_bounds-files-from
offset_bounds-files-from c =
    let a = c.args in
    let l = c.loop-n in
    let n = get_or a.counts l.n-index 0 in
    let j = c.loop-p.p-index in
    let r = level_room a.files a.counts l.from l.n-index (omega arith) c.requires.0 l.invariant.starts in
    let few = length-take n c.by_number-places.result in
    let long : length a.files ≡ max_files = search rules in
    let below = place_in_run a.files c.numbers_of-numbers.result c.by_number-places.result l.from n long (omega arith) c.numbers_of-numbers.ensures c.by_number-places.ensures j (omega arith) in
    omega arith

pub bounds-files-from : goal.bounds-files-from
bounds-files-from c =
    let a = c.args in
    let l = c.loop-n in
    let n = get_or a.counts l.n-index 0 in
    let j = c.loop-p.p-index in
    let r = level_room a.files a.counts l.from l.n-index (omega arith) c.requires.0 l.invariant.starts in
    let few = length-take n c.by_number-places.result in
    let long : length a.files ≡ max_files = search rules in
    let below = place_in_run a.files c.numbers_of-numbers.result c.by_number-places.result l.from n long (omega arith) c.numbers_of-numbers.ensures c.by_number-places.ensures j (omega arith) in
    omega arith

pub put_file-next-requires : goal.put_file-next-requires
put_file-next-requires c =
    let a = c.args in
    let l = c.loop-n in
    let n = get_or a.counts l.n-index 0 in
    let j = c.loop-p.p-index in
    let r = level_room a.files a.counts l.from l.n-index (omega arith) c.requires.0 l.invariant.starts in
    let few = length-take n c.by_number-places.result in
    let long : length a.files ≡ max_files = search rules in
    let below = place_in_run a.files c.numbers_of-numbers.result c.by_number-places.result l.from n long (omega arith) c.numbers_of-numbers.ensures c.by_number-places.ensures j (omega arith) in
    let places = take n c.by_number-places.result in
    let level = level_bytes_long a.files c.numbers_of-numbers.result c.by_number-places.result l.from n long (omega arith) c.numbers_of-numbers.ensures c.by_number-places.ensures in
    let all = level_first_long a.files a.counts l.from l.n-index (omega arith) in
    let left = file_first_long a.files l.from places j (omega arith) in
    (level_record a.files a.counts (l.from + get_or places j 0) long c.requires.0 (omega arith), omega (arith, c.requires.1, c.loop-p.invariant.to_come))

pub loop-p-preserved : goal.loop-p-preserved
loop-p-preserved c =
    let a = c.args in
    let l = c.loop-n in
    let n = get_or a.counts l.n-index 0 in
    let j = c.loop-p.p-index in
    let r = level_room a.files a.counts l.from l.n-index (omega arith) c.requires.0 l.invariant.starts in
    let few = length-take n c.by_number-places.result in
    let long : length a.files ≡ max_files = search rules in
    let places = take n c.by_number-places.result in
    let level = level_bytes_long a.files c.numbers_of-numbers.result c.by_number-places.result l.from n long (omega arith) c.numbers_of-numbers.ensures c.by_number-places.ensures in
    let all = level_first_long a.files a.counts l.from l.n-index (omega arith) in
    let left = file_first_long a.files l.from places j (omega arith) in
    let m = c.loop-p in
    let f = c.put_file-next in
    let x = write_file (file_of (get_or a.files (l.from + get_or places j 0) past)) in
    let laid = part_laid x (files_at a.files l.from (drop (j + 1) places)) (files_at a.files l.from (drop j places)) (file_first a.files l.from places j (omega arith))
    m.out f.new.out m.next f.result (omega (arith, c.requires.1, m.invariant.to_come)) f.ensures.1 f.ensures.0 in
    record { to_come = omega (arith, f.ensures.0, m.invariant.to_come); written = laid ∙ m.invariant.written }

pub loop-n-preserved : goal.loop-n-preserved
loop-n-preserved c =
    let a = c.args in
    let l = c.loop-n in
    let n = get_or a.counts l.n-index 0 in
    let j = c.loop-p.p-index in
    let r = level_room a.files a.counts l.from l.n-index (omega arith) c.requires.0 l.invariant.starts in
    let few = length-take n c.by_number-places.result in
    let long : length a.files ≡ max_files = search rules in
    let places = take n c.by_number-places.result in
    let column = c.numbers_of-numbers in
    let sorted = c.by_number-places in
    let level = level_bytes_long a.files column.result sorted.result l.from n long (omega arith) column.ensures sorted.ensures in
    let all = level_first_long a.files a.counts l.from l.n-index (omega arith) in
    let m = c.loop-p in
    let p = c.put_number in
    let fs = files_at a.files l.from places in
    let w = write_level (run l.from (l.from + n) a.files) in
    let over = ap (files_at a.files l.from) (drop_of_length-le places {i = j} (omega arith)) in
    let none = none_length (files_at a.files l.from (drop j places)) over in
    let ended : m.out ≡ put p.new.out (l.next + 2) (join fs) = sym (none_laid (files_at a.files l.from (drop j places)) over m.out m.next) ∙ m.invariant.written in
    let two = bytes_length 2 n in
    let whole : m.out ≡ put l.out l.next w =
    put_next l.out p.new.out m.out l.next (l.next + 2) (bytes count_long n) (join fs) (omega (arith, c.requires.1)) p.ensures (omega arith) ended
    ∙ ap (put l.out l.next) (sym (level_bytes a.files column.result sorted.result l.from n long (omega arith) column.ensures sorted.ensures)) in
    let next : m.next ≡ l.next + length w = omega (arith, m.invariant.to_come) in
    let laid = part_laid w (levels_from a.files a.counts (l.from + n) (l.n-index + 1)) (levels_from a.files a.counts l.from l.n-index) (level_first a.files a.counts l.from l.n-index (omega arith))
    l.out m.out l.next m.next (omega (arith, c.requires.1)) whole next in
    record { starts = omega arith; to_come = omega arith; written = laid ∙ l.invariant.written }

pub returns : goal.returns
returns c =
    let a = c.args in
    let l = c.loop-n in
    let over = ap (map write_level) (levels.levels_over_lem a.files a.counts l.n-index l.from (omega arith)) in
    let none = none_length (levels_from a.files a.counts l.from l.n-index) over in
    (omega (arith, l.invariant.to_come), sym (none_laid (levels_from a.files a.counts l.from l.n-index) over l.out l.next) ∙ l.invariant.written)
