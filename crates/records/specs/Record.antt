-- The file that a record stands for, and the record that is kept of a file. Assumes nothing.
use Rattle.std.specs.Prelude.{ℕ, ◌+◌, ◌-◌, ◌≡◌, Bool, ◌&&◌, cond, List, [], ltb, leb, eqb, length, replicate}
use Rattle.lemmas.specs.Each.{Each}
use Rattle.model.specs.File.{File, full, seeks, good_file, key_room}
use Rattle.model.specs.Score.{byte_limit}
use Rattle.keys.specs.Key.{key_of, key_record, sound_key}
use Rattle.keys.specs.declared.Key.{Key}
use Rattle.records.specs.declared.FileRecord.{FileRecord}

-- the file that a record stands for
unfoldable pub file_of : FileRecord → File
file_of r = record { number = r.number.0; size = r.size; smallest = key_of r.smallest; largest = key_of r.largest }

-- the record that is kept of a file: zeros past its keys' ends, allowed seeks from its size
unfoldable pub record_of : File → FileRecord
record_of f = record { number = record { 0 = f.number }; size = f.size; smallest = key_record f.smallest; largest = key_record f.largest; seeks = seeks f.size }

-- the blank record, which every empty place holds
unfoldable pub blank : FileRecord
blank = record { number = record { 0 = 0 }; size = 0; smallest = key_record []; largest = key_record []; seeks = 0 }

-- n empty places
unfoldable pub vacant : ℕ → List FileRecord
vacant n = replicate n blank

-- a sound record: zeros past the keys' ends, allowed seeks from the size
unfoldable pub sound_record : FileRecord → Bool
sound_record r = sound_key r.smallest && sound_key r.largest && eqb r.seeks (seeks r.size)

-- a well-formed record: sound, and its file is good
unfoldable pub well_record : FileRecord → Bool
well_record r = sound_record r && good_file full (file_of r)

-- a blank key: no bytes, and zeros in all the room
unfoldable pub blank_key : Key → Bool
blank_key k = eqb k.len 0 && sound_key k

-- the record is the blank one
unfoldable pub is_blank : FileRecord → Bool
is_blank r = eqb r.number.0 0 && eqb r.size 0 && eqb r.seeks 0 && blank_key r.smallest && blank_key r.largest

-- the byte limit of levels 1 to 5, or 0 for any other level
unfoldable pub limit_of : ℕ → ℕ
limit_of l = cond (leb 1 l && ltb (l + 1) full.levels) (byte_limit (l - 1)) 0

-- the record that is read past an array's end
abbrev pub past : FileRecord
past = record { number = record { 0 = 0 }; size = 0; smallest = record { bytes = []; len = 0 }; largest = record { bytes = []; len = 0 }; seeks = 0 }

-- both keys of the record have their room
pub record Shaped (r : FileRecord) : Type 0 where
  pub smallest : length r.smallest.bytes ≡ key_room
  pub largest : length r.largest.bytes ≡ key_room

-- each record's keys have their room
abbrev pub AllShaped : List FileRecord → Type 0
AllShaped rs = Each Shaped rs
