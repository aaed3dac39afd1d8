-- How many bytes each part of a record takes, if bytes begin with one. Assumes nothing.
use Rattle.std.specs.Prelude.{ℕ, zero, suc, ◌+◌, cond, List, [], ◌∷◌, eqb, leb, length, get_or, take, drop}
use Rattle.std.proofs.Math.Option.{Option, none, some}
use Rattle.model.specs.Snapshot.{byte_long, count_long, number_long, keys_at}
use Rattle.lemmas.specs.Little.{number}
use Rattle.model_replay.specs.Recording.{setting_count}

-- how many bytes a part takes, if bytes begin with one
abbrev pub Takes : Type 0
Takes = List ℕ → Option ℕ

-- so many more bytes, if the rest begins with its part
unfoldable pub more : ℕ → Option ℕ → Option ℕ
more a none = none
more a (some b) = some (a + b)

-- goes on with the bytes after those taken
unfoldable pub on_taken : Option ℕ → List ℕ → (ℕ → Takes) → Option ℕ
on_taken none bs f = none
on_taken (some a) bs f = more a (f a (drop a bs))

-- no bytes begin with it
unfoldable pub never : Takes
never bs = none

-- n bytes, whatever they are
unfoldable pub takes : ℕ → Takes
takes n bs = cond (leb n (length bs)) (some n) none

-- one part after another
unfoldable pub and_then : Takes → Takes → Takes
and_then f g bs = on_taken (f bs) bs (λ a. g)

-- n parts one after another
unfoldable pub repeated : ℕ → Takes → Takes
repeated zero f = takes 0
repeated (suc n) f = and_then f (repeated n f)

-- a number of w bytes, then the part that it asks for
unfoldable pub counted : ℕ → (ℕ → Takes) → Takes
counted w f bs = on_taken (takes w bs) bs (λ a. f (number (take w bs)))

-- a tag, then the part that it stands for; none stands past the last
unfoldable pub tag_takes : List Takes → Takes
tag_takes fs = counted byte_long (λ t. get_or fs t never)

-- ---- the parts of calls and answers
-- a key: a length byte, then its bytes
unfoldable pub key_takes : Takes
key_takes = counted byte_long takes

-- so many bytes, then so many keys: pointers, deletions, additions, files and ranges are such parts
unfoldable pub part_takes : ℕ → ℕ → Takes
part_takes width keys = and_then (takes width) (repeated keys key_takes)

-- a section of such parts, after its count
unfoldable pub section_takes : ℕ → ℕ → Takes
section_takes width keys = counted count_long (λ n. repeated n (part_takes width keys))

-- a section of files
abbrev pub files_take : Takes
files_take = section_takes keys_at 2

-- a section of no number or one
unfoldable pub log_takes : Takes
log_takes = counted count_long (λ n. cond (leb n 1) (repeated n (part_takes number_long 0)) never)

-- an edit: pointers, deletions, additions, log number
unfoldable pub edit_takes : Takes
edit_takes = and_then (section_takes number_long 1) (and_then (section_takes keys_at 0) (and_then (section_takes (number_long + keys_at) 2) log_takes))

-- a counter call: new has no number, the others have one
unfoldable pub count_takes : Takes
count_takes = tag_takes (takes 0 ∷ takes number_long ∷ takes number_long ∷ takes number_long ∷ takes number_long ∷ takes number_long ∷ [])

-- a call
unfoldable pub asked_takes : Takes
asked_takes = tag_takes (edit_takes ∷ takes 0 ∷ part_takes number_long 2 ∷ count_takes ∷ [])

-- a cause: a score has its bytes, manual has none
unfoldable pub why_takes : Takes
why_takes = tag_takes (takes number_long ∷ takes 0 ∷ [])

-- a picked answer: level, cause, maximum, three sections of files
unfoldable pub choice_takes : Takes
choice_takes = and_then (takes number_long) (and_then why_takes (and_then (takes number_long) (and_then files_take (and_then files_take files_take))))

-- an answer
unfoldable pub given_takes : Takes
given_takes = tag_takes (takes 0 ∷ takes number_long ∷ choice_takes ∷ takes byte_long ∷ [])

-- a call and its answer
unfoldable pub entry_takes : Takes
entry_takes = and_then asked_takes given_takes

-- the settings: two numbers after their count
unfoldable pub settings_take : Takes
settings_take = counted count_long (λ n. cond (eqb n setting_count) (repeated n (part_takes number_long 0)) never)
