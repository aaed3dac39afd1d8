-- The files that a list by value stands for, and calls on it. Assumes nothing.
use Rattle.std.specs.Prelude.{ℕ, Bool, not, ◌&&◌, cond, List, [], ◌∷◌, map, ltb, leb, length, take, drop, Option, Some, None, Result}
use Rattle.std.proofs.Math.Option as math
use Rattle.lemmas.specs.Lists.{all}
use Rattle.lemmas.specs.Slices.{put}
use Rattle.model.specs.Answer.{Answer, refused, first_of, ◌⇒◌}
use Rattle.model.specs.File.{File, State, full, level, well_formed}
use Rattle.model.specs.Pick.{good_level}
use Rattle.model.specs.Calls as calls
use Rattle.answers.specs.Outcome.{result_of}
use Rattle.answers.specs.declared.Refusal.{Refusal}
use Rattle.keys.specs.Key.{key_record}
use Rattle.records.specs.declared.Ends.{Ends}
use Rattle.records.specs.Record.{file_of, record_of, vacant, sound_record, is_blank}
use Rattle.level_list.specs.declared.FileList.{FileList}

-- the files that a list stands for
unfoldable pub files_of : FileList → List File
files_of l = map file_of (take l.count l.files)

-- the list that holds these files: blank records filled in order
unfoldable pub list_of : List File → FileList
list_of fs = record { files = put (vacant full.room) 0 (map record_of fs); count = length fs }

-- a sound list: no more files than the room, sound records, blank records in the empty places
unfoldable pub sound_list : FileList → Bool
sound_list l = leb l.count full.room && all sound_record (take l.count l.files) && all is_blank (drop l.count l.files)

-- a well-formed list of level n
unfoldable pub well_list : ℕ → FileList → Bool
well_list n l = sound_list l && good_level full n (files_of l)

-- a call on a list of one level: 1 for a wrong level, then 14 if its records are not sound, else the call's answer for its files
unfoldable pub on_list : {A : Type 0} → ℕ → FileList → (List File → Answer A) → Answer A
on_list n l call = cond (sound_list l) (call (files_of l)) (cond (ltb n full.levels) (refused 14) (refused 1))

-- the ends of a list by value, if it has files
unfoldable pub ends_record : math.Option calls.Ends → Option Ends
ends_record (math.some e) = Some (record { low = key_record e.low; high = key_record e.high })
ends_record math.none = None

-- the range of a list, or the refusal
unfoldable pub ranged : Answer (math.Option calls.Ends) → Result (Option Ends) Refusal
ranged a = result_of ends_record a

-- the files of a level of a state. Refusals: 14, then 1
unfoldable pub level_files : State → ℕ → Answer (List File)
level_files t n = first_of ((not (well_formed full t) ⇒ 14) ∷ (not (ltb n full.levels) ⇒ 1) ∷ []) (level t n)

-- a list of files by value, or the refusal
unfoldable pub listed : Answer (List File) → Result FileList Refusal
listed a = result_of list_of a
