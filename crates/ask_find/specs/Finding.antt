-- The answer of a call on a lent list of one level, and the search by halves. Assumes nothing.
use Rattle.std.specs.Prelude.{ℕ, ◌≡◌, Bool, true, ◌&&◌, cond, ltb, leb, length, get_or, take, Option, Some, None, Result}
use mathlib.Core.List.{List, map, Memᴰ as In}
use Rattle.std.proofs.Math.Option as math
use Rattle.lemmas.specs.Lists.{all}
use Rattle.lemmas.specs.Slices.{put}
use Rattle.lemmas.specs.Bisect.{bisect}
use Rattle.model.specs.Answer.{Answer, refused}
use Rattle.model.specs.Key.{before}
use Rattle.model.specs.File.{File, full, apart, good_file}
use Rattle.answers.specs.Outcome.{result_of}
use Rattle.answers.specs.declared.Refusal.{Refusal}
use Rattle.records.specs.Record.{file_of, sound_record, vacant, past}
use Rattle.records.specs.declared.FileRecord.{FileRecord}
use Rattle.level_list.specs.declared.FileList.{FileList}
use Rattle.bisect.specs.declared.Window.{Window}
use Rattle.bisect.specs.Window.{mid_of, half_of}

-- ---- calls on a lent list

-- a call on a lent list of one level: 1 for a wrong level, then 14 if there are more records than room or they are not sound, else the call's answer for the files
unfoldable pub on_lent : {A : Type 0} → ℕ → List FileRecord → (List File → Answer A) → Answer A
on_lent n rs call = cond (leb (length rs) full.room && all sound_record rs) (call (map file_of rs)) (cond (ltb n full.levels) (refused 14) (refused 1))

-- the index that code has of a file, if there is one
unfoldable pub index_of : math.Option ℕ → Option ℕ
index_of (math.some i) = Some i
index_of math.none = None

-- the result of finding a file
unfoldable pub found_of : Answer (math.Option ℕ) → Result (Option ℕ) Refusal
found_of a = result_of index_of a

-- the lent records by value: as many as there is room for, blank records past them, and how many were lent
unfoldable pub gathered : List FileRecord → FileList
gathered rs = record { files = put (vacant full.room) 0 (take full.room rs); count = length rs }

-- ---- the search by halves

-- the half that is left: past the middle if the file there ends before the key
unfoldable pub narrow_of : Window → File → List ℕ → Window
narrow_of s f k = half_of s (before f.largest k)

-- one step of the search on a list
abbrev pub probe_of : List FileRecord → List ℕ → Window → Window
probe_of rs k s = narrow_of s (file_of (get_or rs (mid_of s) past)) k

-- the file at a place ends before the key
abbrev pub ends_before : List FileRecord → List ℕ → ℕ → Bool
ends_before rs k i = before (file_of (get_or rs i past)).largest k

-- the place where the search ends
unfoldable pub halved : List ℕ → List FileRecord → ℕ
halved k rs = bisect (ends_before rs k) (length rs) 0 (length rs)

-- good files that are strictly apart, as in a level above 0
pub record Deep (fs : List File) : Type 0 where
  pub good : (f : File) → In f fs → good_file full f ≡ true
  pub apart : apart fs ≡ true
