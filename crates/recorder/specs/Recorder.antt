-- The bytes that the controller adds to a record: its head, and an entry for each call. Assumes nothing.
use Rattle.std.specs.Prelude.{ℕ, ◌+◌, ◌^◌, cond, List, ◌++◌, ltb, length, Result}
use Rattle.lemmas.specs.Little.{bytes}
use Rattle.model.specs.Answer.{Answer, gives, refused}
use Rattle.model.specs.File.{full, max_word}
use Rattle.model.specs.Counters.{CounterCall, new, reuse, mark, last, manifest, previous}
use Rattle.model.specs.Edit as model
use Rattle.model.specs.Snapshot.{count_long}
use Rattle.model_replay.specs.Given.{Given}
use Rattle.model_replay.specs.Form.{many}
use Rattle.model_replay.specs.Recording.{Asked, asks_edit, asks_size, asks_range, asks_count, trimmed, calls_long, reuse_tag, mark_tag, last_tag, manifest_tag, previous_tag, pointer_form, deletion_form, addition_form, asked_form, settings_form, recorded_form}
use Rattle.keys.specs.declared.FileNumber.{FileNumber}
use Rattle.keys.specs.declared.Key.{Key}
use Rattle.keys.specs.Key.{key_of}
use Rattle.edit.specs.declared.Edit.{Edit}
use Rattle.edit.specs.Edit.{edit_of}
use Rattle.pick_answer.specs.declared.Picked.{Picked}
use Rattle.replay_given.specs.Given.{plain_given, picked_given, handed_given, can_tell}
use Rattle.recorder.specs.declared.Counter.{Counter}
use Rattle.recorder.specs.declared.Counter.TheVariants.{Reuse, Mark, LastSequence, Manifest, PreviousLog}

-- bytes in lent output of this length: 13 where it is shorter
unfoldable pub roomed : List ℕ → ℕ → Answer (List ℕ)
roomed bs room = cond (ltb room (length bs)) (refused 13) (gives bs)

-- the bytes before the first entry: the settings, then the count of calls
unfoldable pub head_bytes : ℕ → ℕ → ℕ → List ℕ
head_bytes maximum place calls = settings_form.write (record { maximum = maximum; place = place }) ++ bytes calls_long calls

-- the head of a record: 9 where the count of calls does not fit its bytes, or a place in the whole record would be beyond 64 bits
unfoldable pub head : ℕ → ℕ → ℕ → ℕ → Answer (List ℕ)
head maximum place calls room = cond (ltb calls (256 ^ calls_long)) (cond (ltb max_word (place + calls)) (refused 9) (roomed (head_bytes maximum place calls) room)) (refused 9)

-- an entry: a call, then its answer
unfoldable pub entry : Asked → Given → ℕ → Answer (List ℕ)
entry a g room = roomed (recorded_form.write (record { asked = a; answer = g })) room

-- the counter call that a name and a number stand for
unfoldable pub counter_call : Counter → ℕ → CounterCall
counter_call Reuse n = reuse n
counter_call Mark n = mark n
counter_call LastSequence n = last n
counter_call Manifest n = manifest n
counter_call PreviousLog n = previous n

-- its tag
unfoldable pub tag_of : Counter → ℕ
tag_of Reuse = reuse_tag
tag_of Mark = mark_tag
tag_of LastSequence = last_tag
tag_of Manifest = manifest_tag
tag_of PreviousLog = previous_tag

-- ---- the bytes of an edit, as it is recorded
-- the edit as it is recorded
abbrev pub kept_edit : Edit → model.Edit
kept_edit e = trimmed full (edit_of e)

-- its sections
abbrev pub pointers_bytes : Edit → List ℕ
pointers_bytes e = (many count_long pointer_form).write (kept_edit e).pointers

abbrev pub deletions_bytes : Edit → List ℕ
deletions_bytes e = (many count_long deletion_form).write (kept_edit e).deletions

abbrev pub additions_bytes : Edit → List ℕ
additions_bytes e = (many count_long addition_form).write (kept_edit e).additions

-- the call
abbrev pub edit_bytes : Edit → List ℕ
edit_bytes e = asked_form.write (asks_edit (kept_edit e))

-- ---- the entries
-- the entry of an edit. Of too many entries it keeps one more than an edit may have
unfoldable pub edit_entry : Edit → Result Unit ℕ → ℕ → Answer (List ℕ)
edit_entry e o room = entry (asks_edit (kept_edit e)) (plain_given o) room

-- the entry of a pick: 14 where its answer cannot be kept
unfoldable pub pick_entry : Asked → Result Picked ℕ → ℕ → Answer (List ℕ)
pick_entry a o room = cond (can_tell o) (entry a (picked_given o) room) (refused 14)

-- the entry of a size pick
abbrev pub size_entry : Result Picked ℕ → ℕ → Answer (List ℕ)
size_entry o room = pick_entry asks_size o room

-- the entry of a manual pick
abbrev pub range_entry : ℕ → Key → Key → Result Picked ℕ → ℕ → Answer (List ℕ)
range_entry level start stop o room = pick_entry (asks_range level (key_of start) (key_of stop)) o room

-- the entry of new: the number handed out
abbrev pub new_entry : Result FileNumber ℕ → ℕ → Answer (List ℕ)
new_entry o room = entry (asks_count new) (handed_given o) room

-- the entry of another counter call, with its number
abbrev pub count_entry : Counter → ℕ → Result Unit ℕ → ℕ → Answer (List ℕ)
count_entry c n o room = entry (asks_count (counter_call c n)) (plain_given o) room
