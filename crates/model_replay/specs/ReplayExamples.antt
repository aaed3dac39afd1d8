-- A recorded day, a wrong answer, damaged records, and a cut at equal smallest keys, by computation. Assumes nothing.
use Rattle.std.specs.Prelude.{ℕ, ◌≡◌, refl, Bool, true, false, List, [], ◌∷◌, ◌++◌, replicate, take}
use Rattle.std.proofs.Math.Option.{none, some}
use Rattle.std.specs.Float.Ieee.{to_bits, div, of_int, round, units, odd, size, span, climb}
use Rattle.lemmas.specs.Little.{bytes}
use Rattle.model.specs.Key.{Key, key}
use Rattle.model.specs.Answer.{gives, refused}
use Rattle.model.specs.File.{full, File, State, fresh}
use Rattle.model.specs.Edit.{Edit}
use Rattle.model.specs.Counters.{new}
use Rattle.model.specs.Score.{reported}
use Rattle.model.specs.Snapshot.{encode}
use Rattle.model.specs.History.{kept, kept_pick, after, run}
use Rattle.model_replay.specs.Given.{scored, by_hand, Choice, accepted, handed, picked, Given, why_of, choice_of, count_says, given, same_list, same_file, same_why, same_choice, same_said, same_given}
use Rattle.model_replay.specs.Form.{num, key_form, file_form, got, pair, shaped, many, unread, guarded, only, tagged, tag, taken, parsed}
use Rattle.model_replay.specs.Recording.{Asked, asks_edit, asks_size, asks_range, asks_count, Recorded, Recording, call_of, calls_of, trimmed, pointer_form, deletion_form, addition_form, first_number, log_form, edit_form, range_form, write_count, read_count, fits_count, count_form, write_asked, read_asked, fits_asked, asked_form, write_why, read_why, fits_why, why_form, choice_form, write_given, read_given, fits_given, given_form, recorded_form, settings_form, recording_form, write_recording, recordable, read_recording}
use Rattle.model_replay.specs.Replay.{ended, differs, replayed, go_on, replayed_from, concluded, replay_of, replay, leaves, recorded_day, first_part, rest_part, on_ended, resumed, replay_all, no_ties, cuttable}
use Rattle.model.specs.Examples.{computes}

-- everything above computes where this is unfolded
unfoldable pub computed : Bool
unfolding computes reported to_bits div of_int round units odd size span climb kept kept_pick after run why_of choice_of count_says given same_list same_file same_why same_choice same_said same_given num key_form file_form got pair shaped many unread guarded only tagged tag taken parsed call_of calls_of trimmed pointer_form deletion_form addition_form first_number log_form edit_form range_form write_count read_count fits_count count_form write_asked read_asked fits_asked asked_form write_why read_why fits_why why_form choice_form write_given read_given fits_given given_form recorded_form settings_form recording_form write_recording recordable read_recording replayed go_on replayed_from concluded replay_of replay leaves recorded_day first_part rest_part on_ended resumed replay_all no_ties cuttable
computed = true

-- user key of one letter, its sequence; a value
abbrev at : ℕ → ℕ → Key
at letter s = key (letter ∷ []) s 1

-- a file of a number, a size and two keys
abbrev file : ℕ → ℕ → Key → Key → File
file n z a b = record { number = n; size = z; smallest = a; largest = b }

-- an edit that adds one file at a level
abbrev adds1 : ℕ → File → Edit
adds1 l f = record { pointers = []; deletions = []; additions = record { level = l; file = f } ∷ []; log = none }

-- a call and its answer
abbrev call : Asked → Given → Recorded
call a g = record { asked = a; answer = g }

-- a record under the maximum file size 2097152, from a place on
abbrev from : ℕ → List Recorded → Recording
from k rs = record { settings = record { maximum = 2097152; place = k }; calls = rs }

-- ---- a day: an edit that makes level 1 due, the pick, a number, an edit that would collide
abbrev wide : File
wide = file 5 10485760 (at 97 9) (at 98 5)

-- what the size pick picks: its score is 1
abbrev wide_picked : Choice
wide_picked = record { level = 1; why = scored 0x3ff0_0000_0000_0000; maximum = 2097152; first = wide ∷ []; second = []; grand = [] }

-- its calls, the third with the number that it is said to have handed out
abbrev day : ℕ → List Recorded
day n = call (asks_edit (adds1 1 wide)) (gives accepted) ∷ call asks_size (gives (picked wide_picked)) ∷ call (asks_count new) (gives (handed n))
    ∷ call (asks_edit (adds1 1 (file 6 1 (at 98 5) (at 99 1)))) (refused 7) ∷ []

-- the state that it leaves
abbrev day_end : State
day_end = record {
  files = [] ∷ (wide ∷ []) ∷ [] ∷ [] ∷ [] ∷ [] ∷ [] ∷ [];
  pointers = none ∷ some (at 98 5) ∷ none ∷ none ∷ none ∷ none ∷ none ∷ [];
  counters = record { next = 3; manifest = 0; last = 0; log = 0; previous = 0 };
}

-- the bytes of a fresh store
abbrev start : List ℕ
start = encode (fresh full)

-- an edit of so many pointers
abbrev pointing : ℕ → Edit
pointing n = record { pointers = replicate n (record { level = 1; key = at 97 9 }); deletions = []; additions = []; log = none }

-- the day as it was, and the same with a wrong answer, in the middle of a longer record, and damaged
pub record Day : Type 0 where
  pub as_it_was : replay full start (write_recording (from 0 (day 2))) 25440 ≡ gives (ended (encode day_end))
  pub recorded : recorded_day full 2097152 (fresh full) (asks_edit (adds1 1 wide) ∷ asks_size ∷ asks_count new ∷ asks_edit (adds1 1 (file 6 1 (at 98 5) (at 99 1))) ∷ []) ≡ day 2
  pub wrong : replay full start (write_recording (from 0 (day 3))) 25440 ≡ gives (differs (record { place = 2; recorded = gives (handed 3); given = gives (handed 2) }))
  pub later : replay full start (write_recording (from 100 (day 3))) 25440 ≡ gives (differs (record { place = 102; recorded = gives (handed 3); given = gives (handed 2) }))
  pub short : replay full start (write_recording (from 0 (day 2))) 58 ≡ refused 13
  pub cut_off : replay full start (take 30 (write_recording (from 0 (day 2)))) 25440 ≡ refused 15
  pub more : replay full start (write_recording (from 0 (day 2)) ++ (0 ∷ [])) 25440 ≡ refused 15
  pub no_start : replay full (0 ∷ []) (0 ∷ []) 25440 ≡ refused 14
  pub resumed : resumed full (replay full start (write_recording (first_part 1 (from 0 (day 3)))) 25440) (write_recording (rest_part 1 (from 0 (day 3)))) 25440
      ≡ gives (differs (record { place = 2; recorded = gives (handed 3); given = gives (handed 2) }))
  pub too_many_lem : replay full start (write_recording (from 0 (call (asks_edit (trimmed full (pointing 300))) (refused 3) ∷ []))) 25440 ≡ gives (ended start)
  pub no_maximum : replay full start (write_recording (record { settings = record { maximum = 0; place = 0 }; calls = call asks_size (refused 9) ∷ [] })) 25440 ≡ gives (ended start)

-- by computation
pub day_computes : Day
unfolding computed
day_computes = record { as_it_was = refl; recorded = refl; wrong = refl; later = refl; short = refl; cut_off = refl; more = refl; no_start = refl; resumed = refl; too_many_lem = refl; no_maximum = refl }

-- a record of two counter calls, the second of them refused, as bytes: settings after their count, calls after theirs
pub small_record : write_recording (from 7 (call (asks_count new) (gives (handed 2)) ∷ call asks_size (refused 10) ∷ []))
    ≡ (2 ∷ 0 ∷ []) ++ (0 ∷ 0 ∷ 32 ∷ 0 ∷ 0 ∷ 0 ∷ 0 ∷ 0 ∷ []) ++ (7 ∷ 0 ∷ 0 ∷ 0 ∷ 0 ∷ 0 ∷ 0 ∷ 0 ∷ []) ++ (2 ∷ 0 ∷ 0 ∷ 0 ∷ []) ++ (3 ∷ 0 ∷ 1 ∷ 2 ∷ 0 ∷ 0 ∷ 0 ∷ 0 ∷ 0 ∷ 0 ∷ 0 ∷ []) ++ (1 ∷ 3 ∷ 10 ∷ [])
unfolding computed
small_record = refl

-- ---- a cut at equal smallest keys of level 0: the reading builds ties by rising number
abbrev nine : File
nine = file 9 1 (at 97 9) (at 98 5)

-- the same smallest key, added later
abbrev three : File
three = file 3 1 (at 97 9) (at 99 5)

-- a manual pick of both
abbrev both0 : List File → Given
both0 fs = gives (picked (record { level = 0; why = by_hand; maximum = 2097152; first = fs; second = []; grand = [] }))

-- two edits, then the pick
abbrev tied : Recording
tied = from 0 (call (asks_edit (adds1 0 nine)) (gives accepted) ∷ call (asks_edit (adds1 0 three)) (gives accepted) ∷ call (asks_range 0 (at 97 1) (at 97 1)) (both0 (nine ∷ three ∷ [])) ∷ [])

-- the state that the whole leaves
abbrev tied_end : State
tied_end = record {
  files = (nine ∷ three ∷ []) ∷ [] ∷ [] ∷ [] ∷ [] ∷ [] ∷ [] ∷ [];
  pointers = some (at 99 5) ∷ none ∷ none ∷ none ∷ none ∷ none ∷ none ∷ [];
  counters = record { next = 2; manifest = 0; last = 0; log = 0; previous = 0 };
}

-- the whole has no difference; cut before the pick, where a cut is not allowed, it has one; cut after the first edit it has none
pub record Tied : Type 0 where
  pub whole : replay full start (write_recording tied) 25440 ≡ gives (ended (encode tied_end))
  pub not_here : cuttable (run full (fresh full) (calls_of 2097152 (take 2 tied.calls))) ≡ false
  pub cut_there : resumed full (replay full start (write_recording (first_part 2 tied)) 25440) (write_recording (rest_part 2 tied)) 25440
      ≡ gives (differs (record { place = 2; recorded = both0 (nine ∷ three ∷ []); given = both0 (three ∷ nine ∷ []) }))
  pub cut_before : resumed full (replay full start (write_recording (first_part 1 tied)) 25440) (write_recording (rest_part 1 tied)) 25440 ≡ gives (ended (encode tied_end))

-- by computation: without the premise a resumed record may come to something else
pub tied_computes : Tied
unfolding computed
tied_computes = record { whole = refl; not_here = refl; cut_there = refl; cut_before = refl }
