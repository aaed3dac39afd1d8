-- The files in a run of places of an array. Assumes nothing.
use Rattle.std.specs.Prelude.{ℕ, List, map}
use Rattle.std.proofs.Math.Seq.{slice}
use Rattle.model.specs.File.{File}
use Rattle.model.specs.Range.{low_key, high_key}
use Rattle.keys.specs.Key.{key_record}
use Rattle.records.specs.Record.{file_of}
use Rattle.records.specs.declared.FileRecord.{FileRecord}
use Rattle.records.specs.declared.Ends.{Ends}

-- the files in the places from one up to another
unfoldable pub run : ℕ → ℕ → List FileRecord → List File
run from to files = map file_of (slice from to files)

-- the smallest and the largest key of a list of files, blank keys for no files
unfoldable pub ends_of : List File → Ends
ends_of fs = record { low = key_record (low_key fs); high = key_record (high_key fs) }
