-- A recorded day: settings, then calls, each with the answer it gave, and how it stands in bytes. Assumes nothing.
use Rattle.std.specs.Prelude.{ℕ, suc, ◌+◌, ◌^◌, Bool, true, eqb, ltb, leb, length, get_or, take}
use mathlib.Core.List.{List, [], ◌∷◌, map, Option-to_list}
use Rattle.std.proofs.Math.Option.{Option, none, some}
use Rattle.model.specs.Key.{Key}
use Rattle.model.specs.Answer.{gives, refused}
use Rattle.model.specs.File.{Profile, File}
use Rattle.model.specs.Edit.{Pointer, Deletion, Addition, Edit}
use Rattle.model.specs.Counters.{CounterCall, new, reuse, mark, last, manifest, previous}
use Rattle.model.specs.Snapshot.{byte_long, count_long, number_long, Reader, give}
use Rattle.model.specs.History.{Call, edits, picks_size, picks_range, counts}
use Rattle.model_replay.specs.Given.{Why, scored, by_hand, Choice, accepted, handed, picked, Given}
use Rattle.model_replay.specs.Form.{Form, num, key_form, file_form, got, pair, shaped, many, only, tagged, tag, parsed}

-- the bytes of the count of calls
abbrev pub calls_long : ℕ
calls_long = 4

-- the number of settings
abbrev pub setting_count : ℕ
setting_count = 2

-- ---- what stands for what: a tag is the place of its reader in a list of readers
-- calls
abbrev pub edit_tag : ℕ
edit_tag = 0

abbrev pub size_tag : ℕ
size_tag = 1

abbrev pub range_tag : ℕ
range_tag = 2

abbrev pub count_tag : ℕ
count_tag = 3

-- counter calls
abbrev pub new_tag : ℕ
new_tag = 0

abbrev pub reuse_tag : ℕ
reuse_tag = 1

abbrev pub mark_tag : ℕ
mark_tag = 2

abbrev pub last_tag : ℕ
last_tag = 3

abbrev pub manifest_tag : ℕ
manifest_tag = 4

abbrev pub previous_tag : ℕ
previous_tag = 5

-- causes
abbrev pub scored_tag : ℕ
scored_tag = 0

abbrev pub by_hand_tag : ℕ
by_hand_tag = 1

-- answers
abbrev pub accepted_tag : ℕ
accepted_tag = 0

abbrev pub handed_tag : ℕ
handed_tag = 1

abbrev pub picked_tag : ℕ
picked_tag = 2

abbrev pub refused_tag : ℕ
refused_tag = 3

-- ---- what is recorded
-- a call as it is recorded: a pick takes its maximum file size from the settings
pub data Asked : Type 0 where
  asks_edit : Edit → Asked
  asks_size : Asked
  asks_range : ℕ → Key → Key → Asked
  asks_count : CounterCall → Asked

-- a call with the answer it gave
pub record Recorded : Type 0 where
  pub asked : Asked
  pub answer : Given

-- the maximum file size of the day's picks, and how many calls of the whole record stand before this part
pub record Settings : Type 0 where
  pub maximum : ℕ
  pub place : ℕ

-- a record, or a part of one: settings, then calls
pub record Recording : Type 0 where
  pub settings : Settings
  pub calls : List Recorded

-- the call that was made, under a maximum file size
unfoldable pub call_of : ℕ → Asked → Call
call_of m (asks_edit e) = edits e
call_of m asks_size = picks_size m
call_of m (asks_range l a b) = picks_range m l a b
call_of m (asks_count c) = counts c

-- a call as it is recorded
unfoldable pub asked_of : Call → Asked
asked_of (edits e) = asks_edit e
asked_of (picks_size m) = asks_size
asked_of (picks_range m l a b) = asks_range l a b
asked_of (counts c) = asks_count c

-- the calls of a record
unfoldable pub calls_of : ℕ → List Recorded → List Call
calls_of m rs = map (λ (r : Recorded). call_of m r.asked) rs

-- the answers of a record
unfoldable pub answers_of : List Recorded → List Given
answers_of rs = map (λ (r : Recorded). r.answer) rs

-- an edit as it is recorded: of each kind its entries up to one more than an edit may have, so that too many stay too many
unfoldable pub trimmed : Profile → Edit → Edit
trimmed p e = record {
  pointers = take (suc p.pointers) e.pointers;
  deletions = take (suc p.deletions) e.deletions;
  additions = take (suc p.additions) e.additions;
  log = e.log;
}

-- ---- the calls in bytes
-- level 8, then the key after its length
unfoldable pub pointer_form : Form Pointer
pointer_form = shaped (λ (q : Pointer). (q.level, q.key)) (λ (t : ℕ × Key). record { level = t.0; key = t.1 }) (pair (num number_long) key_form)

-- level 8, number 8
unfoldable pub deletion_form : Form Deletion
deletion_form = shaped (λ (d : Deletion). (d.level, d.number)) (λ (t : ℕ × ℕ). record { level = t.0; number = t.1 }) (pair (num number_long) (num number_long))

-- level 8, file
unfoldable pub addition_form : Form Addition
addition_form = shaped (λ (a : Addition). (a.level, a.file)) (λ (t : ℕ × File). record { level = t.0; file = t.1 }) (pair (num number_long) file_form)

-- the first number of a list, if any
unfoldable pub first_number : List ℕ → Option ℕ
first_number [] = none
first_number (n ∷ ns) = some n

-- a section of no number or one
unfoldable pub log_form : Form (Option ℕ)
log_form = shaped (λ (o : Option ℕ). Option-to_list o) first_number (only (λ (ns : List ℕ). leb (length ns) 1) (many count_long (num number_long)))

-- four sections: pointers, deletions, additions, log number
unfoldable pub edit_form : Form Edit
edit_form = shaped
    (λ (e : Edit). (e.pointers, (e.deletions, (e.additions, e.log))))
    (λ (t : List Pointer × (List Deletion × (List Addition × Option ℕ))). record { pointers = t.0; deletions = t.1.0; additions = t.1.1.0; log = t.1.1.1 })
    (pair (many count_long pointer_form) (pair (many count_long deletion_form) (pair (many count_long addition_form) log_form)))

-- level 8, the two keys
unfoldable pub range_form : Form (ℕ × (Key × Key))
range_form = pair (num number_long) (pair key_form key_form)

-- a tag, then the number of 8 bytes; new has none
unfoldable pub write_count : CounterCall → List ℕ
write_count new = tag new_tag []
write_count (reuse n) = tag reuse_tag ((num number_long).write n)
write_count (mark n) = tag mark_tag ((num number_long).write n)
write_count (last n) = tag last_tag ((num number_long).write n)
write_count (manifest n) = tag manifest_tag ((num number_long).write n)
write_count (previous n) = tag previous_tag ((num number_long).write n)

-- its reader
unfoldable pub read_count : Reader CounterCall
read_count = tagged (give new ∷ got reuse (num number_long).read ∷ got mark (num number_long).read ∷ got last (num number_long).read ∷ got manifest (num number_long).read ∷ got previous (num number_long).read ∷ [])

-- whether it fits
unfoldable pub fits_count : CounterCall → Bool
fits_count new = true
fits_count (reuse n) = (num number_long).fits n
fits_count (mark n) = (num number_long).fits n
fits_count (last n) = (num number_long).fits n
fits_count (manifest n) = (num number_long).fits n
fits_count (previous n) = (num number_long).fits n

-- a counter call: its tag, then its number of 8 bytes; new has none
unfoldable pub count_form : Form CounterCall
count_form = record { write = write_count; read = read_count; fits = fits_count }

-- a tag, then what the call was asked with
unfoldable pub write_asked : Asked → List ℕ
write_asked (asks_edit e) = tag edit_tag (edit_form.write e)
write_asked asks_size = tag size_tag []
write_asked (asks_range l a b) = tag range_tag (range_form.write (l, (a, b)))
write_asked (asks_count c) = tag count_tag (count_form.write c)

-- its reader
unfoldable pub read_asked : Reader Asked
read_asked = tagged (got asks_edit edit_form.read ∷ give asks_size ∷ got (λ (t : ℕ × (Key × Key)). asks_range t.0 t.1.0 t.1.1) range_form.read ∷ got asks_count count_form.read ∷ [])

-- whether it fits
unfoldable pub fits_asked : Asked → Bool
fits_asked (asks_edit e) = edit_form.fits e
fits_asked asks_size = true
fits_asked (asks_range l a b) = range_form.fits (l, (a, b))
fits_asked (asks_count c) = count_form.fits c

-- a call: its tag, then what it was asked with
unfoldable pub asked_form : Form Asked
asked_form = record { write = write_asked; read = read_asked; fits = fits_asked }

-- ---- the answers in bytes
-- a tag, then the score's 8 bytes; manual has none
unfoldable pub write_why : Why → List ℕ
write_why (scored n) = tag scored_tag ((num number_long).write n)
write_why by_hand = tag by_hand_tag []

-- its reader
unfoldable pub read_why : Reader Why
read_why = tagged (got scored (num number_long).read ∷ give by_hand ∷ [])

-- whether it fits
unfoldable pub fits_why : Why → Bool
fits_why (scored n) = (num number_long).fits n
fits_why by_hand = true

-- a cause: its tag, then the score's 8 bytes; manual has none
unfoldable pub why_form : Form Why
why_form = record { write = write_why; read = read_why; fits = fits_why }

-- level 8, cause, maximum 8, then three sections of files: first inputs, second inputs, grandparents
unfoldable pub choice_form : Form Choice
choice_form = shaped
    (λ (c : Choice). (c.level, (c.why, (c.maximum, (c.first, (c.second, c.grand))))))
    (λ (t : ℕ × (Why × (ℕ × (List File × (List File × List File))))). record { level = t.0; why = t.1.0; maximum = t.1.1.0; first = t.1.1.1.0; second = t.1.1.1.1.0; grand = t.1.1.1.1.1 })
    (pair (num number_long) (pair why_form (pair (num number_long) (pair (many count_long file_form) (pair (many count_long file_form) (many count_long file_form))))))

-- a tag, then what the answer says; a refusal's number is one byte
unfoldable pub write_given : Given → List ℕ
write_given (gives accepted) = tag accepted_tag []
write_given (gives (handed n)) = tag handed_tag ((num number_long).write n)
write_given (gives (picked c)) = tag picked_tag (choice_form.write c)
write_given (refused n) = tag refused_tag ((num byte_long).write n)

-- its reader
unfoldable pub read_given : Reader Given
read_given = tagged (give (gives accepted) ∷ got (λ (n : ℕ). gives (handed n)) (num number_long).read ∷ got (λ (c : Choice). gives (picked c)) choice_form.read ∷ got (λ (n : ℕ). refused n) (num byte_long).read ∷ [])

-- whether it fits
unfoldable pub fits_given : Given → Bool
fits_given (gives accepted) = true
fits_given (gives (handed n)) = (num number_long).fits n
fits_given (gives (picked c)) = choice_form.fits c
fits_given (refused n) = (num byte_long).fits n

-- an answer: its tag, then what it says; a refusal's number is one byte
unfoldable pub given_form : Form Given
given_form = record { write = write_given; read = read_given; fits = fits_given }

-- ---- the record in bytes
-- a call, then its answer
unfoldable pub recorded_form : Form Recorded
recorded_form = shaped (λ (r : Recorded). (r.asked, r.answer)) (λ (t : Asked × Given). record { asked = t.0; answer = t.1 }) (pair asked_form given_form)

-- a section of two numbers of 8 bytes: maximum file size, place
unfoldable pub settings_form : Form Settings
settings_form = shaped (λ (s : Settings). s.maximum ∷ s.place ∷ []) (λ ns. record { maximum = get_or ns 0 0; place = get_or ns 1 0 }) (only (λ (ns : List ℕ). eqb (length ns) setting_count) (many count_long (num number_long)))

-- settings, each section after its count, then calls, after a count of 4 bytes; every place in the whole record is a 64-bit number
unfoldable pub recording_form : Form Recording
recording_form = only (λ (r : Recording). ltb (r.settings.place + length r.calls) (2 ^ 64))
    (shaped (λ (r : Recording). (r.settings, r.calls)) (λ (t : Settings × List Recorded). record { settings = t.0; calls = t.1 }) (pair settings_form (many calls_long recorded_form)))

-- what a record writes
unfoldable pub write_recording : Recording → List ℕ
write_recording r = recording_form.write r

-- the records that can be written: every number and count fits its width
unfoldable pub recordable : Recording → Bool
recordable r = recording_form.fits r

-- what bytes read as, if they are a record
unfoldable pub read_recording : List ℕ → Option Recording
read_recording bs = parsed recording_form bs
