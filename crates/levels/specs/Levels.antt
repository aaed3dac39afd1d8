-- Levels one after another in one array, with blank records after them. Assumes nothing.
use Rattle.std.specs.Prelude.{ℕ, zero, suc, Bool, true, false, not, ◌&&◌, cond, List, map, leb, length, take, drop, replicate}
use Rattle.lemmas.specs.Lists.{all, join, sum, distinct}
use Rattle.lemmas.specs.Slices.{put, parts}
use Rattle.model.specs.Key.{before}
use Rattle.model.specs.File.{File, full, by_smallest, good_files, in_order, levelwise, numbers, total, level_count, max_files}
use Rattle.records.specs.Record.{file_of, record_of, vacant, sound_record, well_record, is_blank}
use Rattle.records.specs.Run.{run}
use Rattle.records.specs.declared.FileRecord.{FileRecord}
use Rattle.levels.specs.declared.Surveyed.{Surveyed}

-- g may be the next file after f: at level 0 its smallest key is not before f's, deeper f ends strictly before g begins
unfoldable pub follows : ℕ → File → File → Bool
follows zero f g = not (by_smallest g f)
follows (suc l) f g = before f.largest g.smallest

-- the files of each level: the array cut by the counts of the levels
unfoldable pub levels_of : List FileRecord → List ℕ → List (List File)
levels_of files counts = map (map file_of) (parts files counts)

-- the array that holds levels: blank records filled in order
unfoldable pub laid_out : List (List File) → List FileRecord
laid_out ls = put (vacant full.room) 0 (map record_of (join ls))

-- the number of files of each level
unfoldable pub counts_of : List (List File) → List ℕ
counts_of ls = map length ls

-- sound: no more files than the room, sound records, blank records in the empty places
unfoldable pub sound_levels : List FileRecord → List ℕ → Bool
sound_levels files counts =
    leb (sum counts) full.room && all sound_record (take (sum counts) files) && all is_blank (drop (sum counts) files)

-- well-formed: sound, and the levels are as document 01 asks
unfoldable pub well_levels : List FileRecord → List ℕ → Bool
well_levels files counts = sound_levels files counts && good_files full (levels_of files counts)

-- arranged: well-formed, except that a number may stand twice
unfoldable pub arranged : List FileRecord → List ℕ → Bool
arranged files counts =
    leb (sum counts) full.room && all well_record (take (sum counts) files) && all is_blank (drop (sum counts) files) && levelwise in_order 0 (levels_of files counts)

-- the survey of levels that are not arranged
unfoldable pub unarranged : Surveyed
unarranged = record { numbers = replicate max_files 0; bytes = replicate level_count 0; total = 0; arranged = false }

-- the survey of levels: numbers, bytes and count if they are arranged
unfoldable pub survey_of : List FileRecord → List ℕ → Surveyed
survey_of files counts =
    cond (arranged files counts) (record { numbers = put (replicate max_files 0) 0 (numbers (run 0 (sum counts) files)); bytes = map total (levels_of files counts); total = sum counts; arranged = true }) unarranged

-- the survey says that they are well-formed: arranged, and no number stands twice
unfoldable pub tells_well : Surveyed → Bool
tells_well v = v.arranged && distinct (take v.total v.numbers)
