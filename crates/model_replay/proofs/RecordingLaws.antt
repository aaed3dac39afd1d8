-- Records there and back: what is written is read as it was, and two records write the same bytes only if they are one. Assumes nothing.
use Rattle.std.specs.Prelude.{ℕ, ◌+◌, ◌^◌, ◌<◌, ◌≡◌, refl, ◌↔◌, true, eqb, ltb, leb, length, get_or}
use Rattle.std.proofs.Common.{ap, sym, arith}
use mathlib.Core.List.{List, [], ◌∷◌, Option-to_list}
use Rattle.std.proofs.Math.Option.{Option, none, some}
use Rattle.model.specs.Key.{Key}
use Rattle.model.specs.Answer.{gives, refused}
use Rattle.model.specs.File.{File}
use Rattle.model.specs.Edit.{Pointer, Deletion, Addition, Edit, edit}
use Rattle.model.specs.Counters.{CounterCall, new, reuse, mark, last, manifest, previous}
use Rattle.model.specs.Snapshot.{Reader}
use Rattle.model.proofs.Reading.{Reads, gives_it}
use Rattle.model.specs.History.{Call, edits, picks_size, picks_range, counts}
use Rattle.model_replay.specs.Given.{Why, scored, by_hand, Choice, accepted, handed, picked, Given}
use Rattle.model_replay.specs.Form.{num, key_form, file_form, got, pair, shaped, many, only, unread, tagged, tag}
use Rattle.model_replay.proofs.FormLaws.{Faithful, num_faithful, key_faithful, file_faithful, reads_got, pair_faithful, shaped_faithful, many_faithful, only_faithful, reads_tagged, parsed_back, parsed_says, written_once}
use Rattle.model_replay.specs.Recording.{Asked, asks_edit, asks_size, asks_range, asks_count, Recorded, Settings, Recording, call_of, asked_of, pointer_form, deletion_form, addition_form, first_number, log_form, edit_form, range_form, write_count, read_count, fits_count, count_form, write_asked, read_asked, fits_asked, asked_form, write_why, read_why, fits_why, why_form, choice_form, write_given, read_given, fits_given, given_form, recorded_form, settings_form, recording_form, write_recording, recordable, read_recording}

-- ---- every call can be recorded, and stands for itself
-- a pick takes the maximum file size of the day
abbrev pub Uses : ℕ → Call → Type 0
Uses m (edits e) = Unit {0}
Uses m (picks_size n) = n ≡ m
Uses m (picks_range n l a b) = n ≡ m
Uses m (counts c) = Unit {0}

-- under that maximum, what is recorded stands for the call that was made
pub call_asked : (m : ℕ) (c : Call) → Uses m c → call_of m (asked_of c) ≡ c
unfolding call_of asked_of
call_asked m (edits e) u = refl
call_asked m (picks_size n) u = ap (λ (x : ℕ). picks_size x) (sym u)
call_asked m (picks_range n l a b) u = ap (λ (x : ℕ). picks_range x l a b) (sym u)
call_asked m (counts c) u = refl

-- and is recorded as it was
pub asked_call : (m : ℕ) (a : Asked) → Uses m (call_of m a) × (asked_of (call_of m a) ≡ a)
unfolding call_of asked_of
asked_call m (asks_edit e) = (tt, refl)
asked_call m asks_size = (refl, refl)
asked_call m (asks_range l a b) = (refl, refl)
asked_call m (asks_count c) = (tt, refl)

-- ---- the calls
-- an edit
edit_faithful : Faithful edit_form
unfolding edit_form pointer_form deletion_form addition_form log_form first_number Option-to_list
edit_faithful = shaped_faithful
    (λ (e : Edit). (e.pointers, (e.deletions, (e.additions, e.log))))
    (λ (t : List Pointer × (List Deletion × (List Addition × Option ℕ))). record { pointers = t.0; deletions = t.1.0; additions = t.1.1.0; log = t.1.1.1 })
    (pair (many 2 pointer_form) (pair (many 2 deletion_form) (pair (many 2 addition_form) log_form)))
    (pair_faithful (many 2 pointer_form) (pair (many 2 deletion_form) (pair (many 2 addition_form) log_form)) (many_faithful 2 pointer_form pointers)
    (pair_faithful (many 2 deletion_form) (pair (many 2 addition_form) log_form) (many_faithful 2 deletion_form deletions)
    (pair_faithful (many 2 addition_form) log_form (many_faithful 2 addition_form additions) log)))
    (λ e h. refl)
  where
    pointers : Faithful pointer_form
    pointers = shaped_faithful (λ (q : Pointer). (q.level, q.key)) (λ (t : ℕ × Key). record { level = t.0; key = t.1 }) (pair (num 8) key_form) (pair_faithful (num 8) key_form (num_faithful 8) key_faithful) (λ q h. refl)

    deletions : Faithful deletion_form
    deletions = shaped_faithful (λ (d : Deletion). (d.level, d.number)) (λ (t : ℕ × ℕ). record { level = t.0; number = t.1 }) (pair (num 8) (num 8)) (pair_faithful (num 8) (num 8) (num_faithful 8) (num_faithful 8)) (λ d h. refl)

    additions : Faithful addition_form
    additions = shaped_faithful (λ (a : Addition). (a.level, a.file)) (λ (t : ℕ × File). record { level = t.0; file = t.1 }) (pair (num 8) file_form) (pair_faithful (num 8) file_form (num_faithful 8) file_faithful) (λ a h. refl)

    one : (o : Option ℕ) → first_number (Option-to_list o) ≡ o
    one none = refl
    one (some n) = refl

    log : Faithful log_form
    log = shaped_faithful (λ (o : Option ℕ). Option-to_list o) first_number (only (λ (ns : List ℕ). leb (length ns) 1) (many 2 (num 8)))
        (only_faithful (λ (ns : List ℕ). leb (length ns) 1) (many 2 (num 8)) (many_faithful 2 (num 8) (num_faithful 8))) (λ o h. one o)

-- a number after a tag
after_tag : {A : Type 0} (rs : List (Reader A)) (t w n : ℕ) (g : ℕ → A) → t < 256 → get_or rs t unread ≡ got g (num w).read → (num w).fits n ≡ true → Reads (tagged rs) (tag t ((num w).write n)) (g n)
after_tag rs t w n g i e h = reads_tagged rs t ((num w).write n) (g n) i (rw e (reads_got g (num w).read ((num w).write n) n ((num_faithful w).back n h)))

-- a counter call
count_back : (c : CounterCall) → fits_count c ≡ true → Reads read_count (write_count c) c
unfolding read_count write_count fits_count
count_back new h = reads_tagged _ 0 [] new (omega arith) (gives_it new)
count_back (reuse n) h = after_tag _ 1 8 n reuse (omega arith) refl h
count_back (mark n) h = after_tag _ 2 8 n mark (omega arith) refl h
count_back (last n) h = after_tag _ 3 8 n last (omega arith) refl h
count_back (manifest n) h = after_tag _ 4 8 n manifest (omega arith) refl h
count_back (previous n) h = after_tag _ 5 8 n previous (omega arith) refl h

-- a call
asked_back : (a : Asked) → fits_asked a ≡ true → Reads read_asked (write_asked a) a
unfolding read_asked write_asked fits_asked range_form count_form
asked_back (asks_edit e) h = reads_tagged _ 0 (edit_form.write e) (asks_edit e) (omega arith) (reads_got asks_edit edit_form.read (edit_form.write e) e (edit_faithful.back e h))
asked_back asks_size h = reads_tagged _ 1 [] asks_size (omega arith) (gives_it asks_size)
asked_back (asks_range l a b) h =
    let f = pair_faithful (num 8) (pair key_form key_form) (num_faithful 8) (pair_faithful key_form key_form key_faithful key_faithful) in
    reads_tagged _ 2 (range_form.write (l, (a, b))) (asks_range l a b) (omega arith)
    (reads_got (λ (t : ℕ × (Key × Key)). asks_range t.0 t.1.0 t.1.1) range_form.read (range_form.write (l, (a, b))) (l, (a, b)) (f.back (l, (a, b)) h))
asked_back (asks_count c) h = reads_tagged _ 3 (count_form.write c) (asks_count c) (omega arith) (reads_got asks_count count_form.read (count_form.write c) c (count_back c h))

-- ---- the answers
-- a cause
why_back : (a : Why) → fits_why a ≡ true → Reads read_why (write_why a) a
unfolding read_why write_why fits_why
why_back (scored n) h = after_tag _ 0 8 n scored (omega arith) refl h
why_back by_hand h = reads_tagged _ 1 [] by_hand (omega arith) (gives_it by_hand)

-- a picked answer
choice_faithful : Faithful choice_form
unfolding choice_form why_form
choice_faithful =
    let fs = many 2 file_form in
    let F = many_faithful 2 file_form file_faithful in
    shaped_faithful
    (λ (c : Choice). (c.level, (c.why, (c.maximum, (c.first, (c.second, c.grand))))))
    (λ (t : ℕ × (Why × (ℕ × (List File × (List File × List File))))). record { level = t.0; why = t.1.0; maximum = t.1.1.0; first = t.1.1.1.0; second = t.1.1.1.1.0; grand = t.1.1.1.1.1 })
    (pair (num 8) (pair why_form (pair (num 8) (pair fs (pair fs fs)))))
    (pair_faithful (num 8) (pair why_form (pair (num 8) (pair fs (pair fs fs)))) (num_faithful 8)
    (pair_faithful why_form (pair (num 8) (pair fs (pair fs fs))) (record { back = why_back })
    (pair_faithful (num 8) (pair fs (pair fs fs)) (num_faithful 8)
    (pair_faithful fs (pair fs fs) F (pair_faithful fs fs F F)))))
    (λ c h. refl)

-- an answer
given_back : (a : Given) → fits_given a ≡ true → Reads read_given (write_given a) a
unfolding read_given write_given fits_given
given_back (gives accepted) h = reads_tagged _ 0 [] (gives accepted) (omega arith) (gives_it (gives accepted))
given_back (gives (handed n)) h = after_tag _ 1 8 n (λ (x : ℕ). gives (handed x)) (omega arith) refl h
given_back (gives (picked c)) h = reads_tagged _ 2 (choice_form.write c) (gives (picked c)) (omega arith) (reads_got (λ (x : Choice). gives (picked x)) choice_form.read (choice_form.write c) c (choice_faithful.back c h))
given_back (refused n) h = after_tag _ 3 1 n (λ (x : ℕ). refused x) (omega arith) refl h

-- it is faithful
pub given_faithful : Faithful given_form
unfolding given_form
given_faithful = record { back = given_back }

-- a call and its answer
pub recorded_faithful : Faithful recorded_form
unfolding recorded_form asked_form
recorded_faithful = shaped_faithful (λ (r : Recorded). (r.asked, r.answer)) (λ (t : Asked × Given). record { asked = t.0; answer = t.1 }) (pair asked_form given_form)
    (pair_faithful asked_form given_form (record { back = asked_back }) given_faithful) (λ r h. refl)

-- ---- the record
pub record_faithful : Faithful recording_form
unfolding recording_form settings_form
record_faithful = only_faithful (λ (r : Recording). ltb (r.settings.place + length r.calls) (2 ^ 64))
    (shaped (λ (r : Recording). (r.settings, r.calls)) (λ (t : Settings × List Recorded). record { settings = t.0; calls = t.1 }) (pair settings_form (many 4 recorded_form)))
    (shaped_faithful (λ (r : Recording). (r.settings, r.calls)) (λ (t : Settings × List Recorded). record { settings = t.0; calls = t.1 }) (pair settings_form (many 4 recorded_form))
    (pair_faithful settings_form (many 4 recorded_form) settings (many_faithful 4 recorded_form recorded_faithful)) (λ r h. refl))
  where
    settings : Faithful settings_form
    settings = shaped_faithful (λ (s : Settings). s.maximum ∷ s.place ∷ []) (λ ns. record { maximum = get_or ns 0 0; place = get_or ns 1 0 }) (only (λ (ns : List ℕ). eqb (length ns) 2) (many 2 (num 8)))
        (only_faithful (λ (ns : List ℕ). eqb (length ns) 2) (many 2 (num 8)) (many_faithful 2 (num 8) (num_faithful 8))) (λ s h. refl)

-- a record written and read back is the same
pub record_back : (r : Recording) → recordable r ≡ true → read_recording (write_recording r) ≡ some r
unfolding recordable read_recording write_recording
record_back r h = parsed_back recording_form record_faithful r h

-- bytes are a record exactly if a record that can be written writes these very bytes: nothing malformed is taken, nothing follows
pub record_says : (bs : List ℕ) (r : Recording) → read_recording bs ≡ some r ↔ ((recordable r ≡ true) × (write_recording r ≡ bs))
unfolding recordable read_recording write_recording
record_says bs r = parsed_says recording_form record_faithful bs r

-- two records write the same bytes only if they are one
pub record_once : (r q : Recording) → recordable r ≡ true → recordable q ≡ true → write_recording r ≡ write_recording q → r ≡ q
unfolding recordable write_recording
record_once r q h k e = written_once recording_form record_faithful r q h k e
