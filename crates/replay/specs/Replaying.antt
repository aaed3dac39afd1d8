-- The answer of replaying a record: what code hands over. Assumes nothing.
use Rattle.std.specs.Prelude.{ℕ, zero, suc, ◌+◌, ◌*◌, ◌-◌, ◌≡◌, List, [], ◌∷◌, length, take, replicate, Result}
use Rattle.std.proofs.Math.Option.{Option, none, some}
use Rattle.lemmas.specs.Slices.{put}
use Rattle.model.specs.Answer.{Answer}
use Rattle.model.specs.File.{State, full}
use Rattle.model.specs.Snapshot.{count_long, number_long}
use Rattle.model_replay.specs.Recording.{calls_long, setting_count, Recorded, Recording, asked_form, recorded_form, read_recording}
use Rattle.model_replay.specs.Replay.{Mismatch, Outcome, ended, differs, replayed_from}
use Rattle.answers.specs.declared.Refusal.{Refusal}
use Rattle.answers.specs.Outcome.{result_of}
use Rattle.store.specs.declared.Store.{Store}
use Rattle.store.specs.Store.{state_of, store_of}
use Rattle.replay_given.specs.Given.{given_bytes, longest_given}
use Rattle.replay.specs.declared.Played.{Played}
use Rattle.replay.specs.declared.Played.TheVariants as played
use Rattle.replay.specs.declared.Difference.{Difference}
use Rattle.replay.specs.declared.Halt.{Halt}
use Rattle.replay.specs.declared.Halt.TheVariants as halt

-- where a record's parts stand: the maximum file size and the place after the count of settings, the count of calls, the first call
abbrev pub maximum_at : ℕ
maximum_at = count_long

abbrev pub place_at : ℕ
place_at = maximum_at + number_long

abbrev pub count_at : ℕ
count_at = count_long + setting_count * number_long

abbrev pub first_at : ℕ
first_at = count_at + calls_long

-- the place at which the answer of the call that i calls stand before begins, where the first call stands at a place
unfoldable pub answer_from : ℕ → List Recorded → ℕ → ℕ
answer_from at [] i = at
answer_from at (r ∷ rs) zero = at + length (asked_form.write r.asked)
answer_from at (r ∷ rs) (suc i) = answer_from (at + length (recorded_form.write r)) rs i

-- the calls that bytes hold, and how many stand before them
unfoldable pub held_calls : Option Recording → List Recorded
held_calls none = []
held_calls (some r) = r.calls

unfoldable pub held_place : Option Recording → ℕ
held_place none = 0
held_place (some r) = r.settings.place

-- the place at which the recorded answer of a mismatch begins, in the bytes of the record
unfoldable pub recorded_at : List ℕ → Mismatch → ℕ
recorded_at bs d = answer_from first_at (held_calls (read_recording bs)) (d.place - held_place (read_recording bs))

-- room for an answer, with these bytes at its start
unfoldable pub room_with : List ℕ → List ℕ
room_with bs = put (replicate longest_given 0) 0 bs

-- ---- how far a replay came
-- what the calls that bytes hold come to, made one by one from a state
unfoldable pub played_from : Option Recording → State → Outcome State
played_from none s = ended s
played_from (some r) s = replayed_from full s r

-- it ended with the store of the state that is left; or it stopped at a mismatch, with so many calls before it, its recorded answer at these places, and the answer that is given now at the start of the
-- room
unfoldable pub Halts : List ℕ → Outcome State → Halt → List ℕ → Type 0
Halts bs (ended t) (halt.Ended s) room = s ≡ store_of t
Halts bs (ended t) (halt.Differs h) room = ⊥
Halts bs (differs d) (halt.Ended s) room = ⊥
Halts bs (differs d) (halt.Differs h) room = (held_place (read_recording bs) + h.calls ≡ d.place) × (h.from ≡ recorded_at bs d) × (h.to ≡ recorded_at bs d + length (given_bytes d.recorded))
    × (h.length ≡ length (given_bytes d.given)) × (take h.length room ≡ given_bytes d.given)

-- the same of the calls that bytes hold, made on a store
unfoldable pub Plays : Store → List ℕ → Halt → List ℕ → Type 0
Plays s bs h room = Halts bs (played_from (read_recording bs) (state_of s)) h room

-- ---- the answer
-- the first mismatch, handed over: its place, where the recorded answer stands, and the bytes of the answer that is given now
unfoldable pub differs_by : ℕ → ℕ → ℕ → List ℕ → Difference
differs_by place from to answer = record { place = place; given = room_with answer; given_length = length answer; from = from; to = to }

-- what a replay comes to: the length of the final snapshot, or the first mismatch. Of a mismatch: its place in the whole record, where the recorded answer stands in these bytes, and the bytes of the answer
-- that is given now
unfoldable pub played_of : List ℕ → Outcome (List ℕ) → Played
played_of bs (ended out) = played.Ended (length out)
played_of bs (differs d) = played.Differs (differs_by d.place (recorded_at bs d) (recorded_at bs d + length (given_bytes d.recorded)) (given_bytes d.given))

-- the result of a replay
unfoldable pub replayed_of : List ℕ → Answer (Outcome (List ℕ)) → Result Played Refusal
replayed_of bs a = result_of (played_of bs) a
