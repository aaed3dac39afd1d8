-- A record is read in one pass: of bytes, what the reader finds and uses to the last byte is the record. Assumes nothing.
use Rattle.std.specs.Prelude.{ℕ, zero, suc, ◌+◌, ◌^◌, ◌≡◌, true, eqb, ltb, leb, length, get_or}
use Rattle.std.proofs.Math.Path.{refl}
use mathlib.Core.List.{List, [], ◌∷◌, ◌++◌, Option-to_list}
use Rattle.std.proofs.Math.Option.{Option, some}
use Rattle.std.proofs.Common.{eqb-true, leb-true, arith}
use Rattle.std.proofs.Math.Pow.{are_bytes}
use Rattle.lemmas.specs.ListLaws.{and_right}
use Rattle.lemmas.specs.Little.{bytes}
use Rattle.model.specs.Key.{Key}
use Rattle.model.specs.Answer.{gives, refused}
use Rattle.model.specs.File.{File}
use Rattle.model.specs.Edit.{Pointer, Deletion, Addition, Edit}
use Rattle.model.specs.Counters.{CounterCall, new, reuse, mark, last, manifest, previous}
use Rattle.model.specs.Snapshot.{Read, Reader, give}
use Rattle.model_replay.specs.Given.{Why, scored, by_hand, Choice, accepted, handed, picked, Given}
use Rattle.model_replay.specs.Form.{num, key_form, file_form, got, pair, shaped, many, unread, only}
use Rattle.model_replay.proofs.FormExactLaws.{Exact, num_exact, key_exact, file_exact, pair_exact, shaped_exact, many_exact, only_exact, tag_says, plain_exact, payload_exact, past_exact, wholly, parsed_wholly}
use Rattle.model_replay.specs.Recording.{Asked, asks_edit, asks_size, asks_range, asks_count, Recorded, Settings, Recording, pointer_form, deletion_form, addition_form, first_number, log_form, edit_form, range_form, write_count, read_count, fits_count, count_form, write_asked, read_asked, fits_asked, asked_form, write_why, read_why, fits_why, why_form, choice_form, write_given, read_given, fits_given, given_form, recorded_form, settings_form, recording_form, read_recording}

-- ---- the calls
-- an edit
edit_exact : Exact edit_form
unfolding edit_form pointer_form deletion_form addition_form log_form first_number Option-to_list only
edit_exact = shaped_exact
    (λ (e : Edit). (e.pointers, (e.deletions, (e.additions, e.log))))
    (λ (t : List Pointer × (List Deletion × (List Addition × Option ℕ))). record { pointers = t.0; deletions = t.1.0; additions = t.1.1.0; log = t.1.1.1 })
    (pair (many 2 pointer_form) (pair (many 2 deletion_form) (pair (many 2 addition_form) log_form)))
    (pair_exact (many 2 pointer_form) (pair (many 2 deletion_form) (pair (many 2 addition_form) log_form)) (many_exact 2 pointer_form pointers)
    (pair_exact (many 2 deletion_form) (pair (many 2 addition_form) log_form) (many_exact 2 deletion_form deletions)
    (pair_exact (many 2 addition_form) log_form (many_exact 2 addition_form additions) log)))
    (λ e h. refl)
  where
    pointers : Exact pointer_form
    pointers = shaped_exact (λ (q : Pointer). (q.level, q.key)) (λ (t : ℕ × Key). record { level = t.0; key = t.1 }) (pair (num 8) key_form) (pair_exact (num 8) key_form (num_exact 8) key_exact) (λ q h. refl)

    deletions : Exact deletion_form
    deletions = shaped_exact (λ (d : Deletion). (d.level, d.number)) (λ (t : ℕ × ℕ). record { level = t.0; number = t.1 }) (pair (num 8) (num 8)) (pair_exact (num 8) (num 8) (num_exact 8) (num_exact 8)) (λ d h. refl)

    additions : Exact addition_form
    additions = shaped_exact (λ (a : Addition). (a.level, a.file)) (λ (t : ℕ × File). record { level = t.0; file = t.1 }) (pair (num 8) file_form) (pair_exact (num 8) file_form (num_exact 8) file_exact) (λ a h. refl)

    one : (ns : List ℕ) → leb (length ns) 1 ≡ true → Option-to_list (first_number ns) ≡ ns
    one [] h = refl
    one (n ∷ []) h = refl
    one (n ∷ m ∷ ns) h = absurd (omega (arith, leb-true (suc (suc (length ns))) 1 h))

    log : Exact log_form
    log = shaped_exact (λ (o : Option ℕ). Option-to_list o) first_number (only (λ (ns : List ℕ). leb (length ns) 1) (many 2 (num 8)))
        (only_exact (λ (ns : List ℕ). leb (length ns) 1) (many 2 (num 8)) (many_exact 2 (num 8) (num_exact 8)))
        (λ ns h. one ns (and_right ((many 2 (num 8)).fits ns) (leb (length ns) 1) h))

-- a counter call
count_says_lem : (bs : List ℕ) (r : Read CounterCall) → are_bytes bs ≡ true → read_count bs ≡ some r → (fits_count r.value ≡ true) × (write_count r.value ++ r.rest ≡ bs)
unfolding read_count
count_says_lem bs r h e = let s = tag_says readers bs r h e in go s.0 s.1 s.2 s.3 s.4
  where
    readers : List (Reader CounterCall)
    readers = give new ∷ got reuse (num 8).read ∷ got mark (num 8).read ∷ got last (num 8).read ∷ got manifest (num 8).read ∷ got previous (num 8).read ∷ []

    go : (t : ℕ) (rest : List ℕ) → bytes 1 t ++ rest ≡ bs → are_bytes rest ≡ true → get_or readers t unread rest ≡ some r → (fits_count r.value ≡ true) × (write_count r.value ++ r.rest ≡ bs)
    go zero rest b h e = unfold write_count fits_count in plain_exact write_count fits_count new 0 refl refl bs rest r b e
    go (suc zero) rest b h e = unfold write_count fits_count in payload_exact write_count fits_count (num 8) (num_exact 8) reuse 1 (λ n. refl) (λ n. refl) bs rest r b h e
    go (suc (suc zero)) rest b h e = unfold write_count fits_count in payload_exact write_count fits_count (num 8) (num_exact 8) mark 2 (λ n. refl) (λ n. refl) bs rest r b h e
    go (suc (suc (suc zero))) rest b h e = unfold write_count fits_count in payload_exact write_count fits_count (num 8) (num_exact 8) last 3 (λ n. refl) (λ n. refl) bs rest r b h e
    go (suc (suc (suc (suc zero)))) rest b h e = unfold write_count fits_count in payload_exact write_count fits_count (num 8) (num_exact 8) manifest 4 (λ n. refl) (λ n. refl) bs rest r b h e
    go (suc (suc (suc (suc (suc zero))))) rest b h e = unfold write_count fits_count in payload_exact write_count fits_count (num 8) (num_exact 8) previous 5 (λ n. refl) (λ n. refl) bs rest r b h e
    go (suc (suc (suc (suc (suc (suc t)))))) rest b h e = past_exact write_count fits_count readers (suc (suc (suc (suc (suc (suc t)))))) rest r (omega arith) e

-- a range
range_exact : Exact range_form
unfolding range_form
range_exact = pair_exact (num 8) (pair key_form key_form) (num_exact 8) (pair_exact key_form key_form key_exact key_exact)

-- a call
asked_says : (bs : List ℕ) (r : Read Asked) → are_bytes bs ≡ true → read_asked bs ≡ some r → (fits_asked r.value ≡ true) × (write_asked r.value ++ r.rest ≡ bs)
unfolding read_asked
asked_says bs r h e = let s = tag_says readers bs r h e in go s.0 s.1 s.2 s.3 s.4
  where
    ranged : ℕ × (Key × Key) → Asked
    ranged t = asks_range t.0 t.1.0 t.1.1

    readers : List (Reader Asked)
    readers = got asks_edit edit_form.read ∷ give asks_size ∷ got ranged range_form.read ∷ got asks_count count_form.read ∷ []

    count : Exact count_form
    count = unfold count_form in record { exact = count_says_lem }

    go : (t : ℕ) (rest : List ℕ) → bytes 1 t ++ rest ≡ bs → are_bytes rest ≡ true → get_or readers t unread rest ≡ some r → (fits_asked r.value ≡ true) × (write_asked r.value ++ r.rest ≡ bs)
    go zero rest b h e = unfold write_asked fits_asked in payload_exact write_asked fits_asked edit_form edit_exact asks_edit 0 (λ x. refl) (λ x. refl) bs rest r b h e
    go (suc zero) rest b h e = unfold write_asked fits_asked in plain_exact write_asked fits_asked asks_size 1 refl refl bs rest r b e
    go (suc (suc zero)) rest b h e = unfold write_asked fits_asked in payload_exact write_asked fits_asked range_form range_exact ranged 2 (λ x. refl) (λ x. refl) bs rest r b h e
    go (suc (suc (suc zero))) rest b h e = unfold write_asked fits_asked in payload_exact write_asked fits_asked count_form count asks_count 3 (λ x. refl) (λ x. refl) bs rest r b h e
    go (suc (suc (suc (suc t)))) rest b h e = past_exact write_asked fits_asked readers (suc (suc (suc (suc t)))) rest r (omega arith) e

-- it is exact
pub asked_exact : Exact asked_form
unfolding asked_form
asked_exact = record { exact = asked_says }

-- ---- the answers
-- a cause
why_says : (bs : List ℕ) (r : Read Why) → are_bytes bs ≡ true → read_why bs ≡ some r → (fits_why r.value ≡ true) × (write_why r.value ++ r.rest ≡ bs)
unfolding read_why
why_says bs r h e = let s = tag_says readers bs r h e in go s.0 s.1 s.2 s.3 s.4
  where
    readers : List (Reader Why)
    readers = got scored (num 8).read ∷ give by_hand ∷ []

    go : (t : ℕ) (rest : List ℕ) → bytes 1 t ++ rest ≡ bs → are_bytes rest ≡ true → get_or readers t unread rest ≡ some r → (fits_why r.value ≡ true) × (write_why r.value ++ r.rest ≡ bs)
    go zero rest b h e = unfold write_why fits_why in payload_exact write_why fits_why (num 8) (num_exact 8) scored 0 (λ n. refl) (λ n. refl) bs rest r b h e
    go (suc zero) rest b h e = unfold write_why fits_why in plain_exact write_why fits_why by_hand 1 refl refl bs rest r b e
    go (suc (suc t)) rest b h e = past_exact write_why fits_why readers (suc (suc t)) rest r (omega arith) e

-- a picked answer
choice_exact : Exact choice_form
unfolding choice_form why_form
choice_exact =
    let fs = many 2 file_form in
    let F = many_exact 2 file_form file_exact in
    shaped_exact
    (λ (c : Choice). (c.level, (c.why, (c.maximum, (c.first, (c.second, c.grand))))))
    (λ (t : ℕ × (Why × (ℕ × (List File × (List File × List File))))). record { level = t.0; why = t.1.0; maximum = t.1.1.0; first = t.1.1.1.0; second = t.1.1.1.1.0; grand = t.1.1.1.1.1 })
    (pair (num 8) (pair why_form (pair (num 8) (pair fs (pair fs fs)))))
    (pair_exact (num 8) (pair why_form (pair (num 8) (pair fs (pair fs fs)))) (num_exact 8)
    (pair_exact why_form (pair (num 8) (pair fs (pair fs fs))) (record { exact = why_says })
    (pair_exact (num 8) (pair fs (pair fs fs)) (num_exact 8)
    (pair_exact fs (pair fs fs) F (pair_exact fs fs F F)))))
    (λ t h. refl)

-- an answer
given_says : (bs : List ℕ) (r : Read Given) → are_bytes bs ≡ true → read_given bs ≡ some r → (fits_given r.value ≡ true) × (write_given r.value ++ r.rest ≡ bs)
unfolding read_given
given_says bs r h e = let s = tag_says readers bs r h e in go s.0 s.1 s.2 s.3 s.4
  where
    number : ℕ → Given
    number n = gives (handed n)

    choice : Choice → Given
    choice c = gives (picked c)

    refusal : ℕ → Given
    refusal n = refused n

    readers : List (Reader Given)
    readers = give (gives accepted) ∷ got number (num 8).read ∷ got choice choice_form.read ∷ got refusal (num 1).read ∷ []

    go : (t : ℕ) (rest : List ℕ) → bytes 1 t ++ rest ≡ bs → are_bytes rest ≡ true → get_or readers t unread rest ≡ some r → (fits_given r.value ≡ true) × (write_given r.value ++ r.rest ≡ bs)
    go zero rest b h e = unfold write_given fits_given in plain_exact write_given fits_given (gives accepted) 0 refl refl bs rest r b e
    go (suc zero) rest b h e = unfold write_given fits_given in payload_exact write_given fits_given (num 8) (num_exact 8) number 1 (λ n. refl) (λ n. refl) bs rest r b h e
    go (suc (suc zero)) rest b h e = unfold write_given fits_given in payload_exact write_given fits_given choice_form choice_exact choice 2 (λ c. refl) (λ c. refl) bs rest r b h e
    go (suc (suc (suc zero))) rest b h e = unfold write_given fits_given in payload_exact write_given fits_given (num 1) (num_exact 1) refusal 3 (λ n. refl) (λ n. refl) bs rest r b h e
    go (suc (suc (suc (suc t)))) rest b h e = past_exact write_given fits_given readers (suc (suc (suc (suc t)))) rest r (omega arith) e

-- it is exact
pub given_exact : Exact given_form
unfolding given_form
given_exact = record { exact = given_says }

-- ---- the record
pub record_exact : Exact recording_form
unfolding recording_form recorded_form settings_form only
record_exact = only_exact (λ (r : Recording). ltb (r.settings.place + length r.calls) (2 ^ 64))
    (shaped (λ (r : Recording). (r.settings, r.calls)) (λ (t : Settings × List Recorded). record { settings = t.0; calls = t.1 }) (pair settings_form (many 4 recorded_form)))
    (shaped_exact (λ (r : Recording). (r.settings, r.calls)) (λ (t : Settings × List Recorded). record { settings = t.0; calls = t.1 }) (pair settings_form (many 4 recorded_form))
    (pair_exact settings_form (many 4 recorded_form) settings (many_exact 4 recorded_form recorded)) (λ t h. refl))
  where
    two : (ns : List ℕ) → eqb (length ns) 2 ≡ true → get_or ns 0 0 ∷ get_or ns 1 0 ∷ [] ≡ ns
    two [] h = absurd (omega (arith, eqb-true 0 2 h))
    two (m ∷ []) h = absurd (omega (arith, eqb-true 1 2 h))
    two (m ∷ k ∷ []) h = refl
    two (m ∷ k ∷ x ∷ ns) h = absurd (omega (arith, eqb-true (suc (suc (suc (length ns)))) 2 h))

    settings : Exact settings_form
    settings = shaped_exact (λ (s : Settings). s.maximum ∷ s.place ∷ []) (λ ns. record { maximum = get_or ns 0 0; place = get_or ns 1 0 }) (only (λ (ns : List ℕ). eqb (length ns) 2) (many 2 (num 8)))
        (only_exact (λ (ns : List ℕ). eqb (length ns) 2) (many 2 (num 8)) (many_exact 2 (num 8) (num_exact 8)))
        (λ ns h. two ns (and_right ((many 2 (num 8)).fits ns) (eqb (length ns) 2) h))

    recorded : Exact recorded_form
    recorded = shaped_exact (λ (r : Recorded). (r.asked, r.answer)) (λ (t : Asked × Given). record { asked = t.0; answer = t.1 }) (pair asked_form given_form)
        (pair_exact asked_form given_form asked_exact given_exact) (λ t h. refl)

-- of bytes, one pass that uses every byte reads the record, and nothing is taken that it does not
pub record_wholly : (bs : List ℕ) → are_bytes bs ≡ true → read_recording bs ≡ wholly (recording_form.read bs)
unfolding read_recording
record_wholly bs h = parsed_wholly recording_form record_exact bs h
