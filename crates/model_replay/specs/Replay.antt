-- Replay of a recorded day: the first call whose answer differs, or what the calls leave. Assumes nothing.
use Rattle.std.specs.Prelude.{ℕ, suc, ◌+◌, Bool, cond, true, ◌&&◌, ◌||◌, List, [], ◌∷◌, length, take, drop}
use Rattle.std.proofs.Math.Option.{Option, none, some}
use Rattle.lemmas.specs.Lists.{all}
use Rattle.model.specs.Answer.{Answer, gives, refused, on_answer, lent}
use Rattle.model.specs.File.{Profile, File, State, by_smallest, level}
use Rattle.model.specs.Snapshot.{decode}
use Rattle.model.specs.Calls.{write}
use Rattle.model.specs.History.{after}
use Rattle.model_replay.specs.Given.{Given, given, same_given}
use Rattle.model_replay.specs.Recording.{Asked, Recorded, Recording, call_of, read_recording}

-- a call whose answer differs: its place in the whole record, from 0, the answer recorded and the answer that it gives now
pub record Mismatch : Type 0 where
  pub place : ℕ
  pub recorded : Given
  pub given : Given

-- what a replay comes to: the first difference, or what is left at the end
pub data Outcome (A : Type 0) : Type 0 where
  ended : A → Outcome A
  differs : Mismatch → Outcome A

-- the calls made one by one from a state, the first of them at place k of the whole record; it stops at the first answer that differs
unfoldable pub replayed : Profile → ℕ → ℕ → State → List Recorded → Outcome State
replayed p m k s [] = ended s
replayed p m k s (r ∷ rs) =
    let c = call_of m r.asked in
    let o = given p s c in
    cond (same_given r.answer o) (replayed p m (suc k) (after p s c) rs) (differs (record { place = k; recorded = r.answer; given = o }))

-- going on from what is left, if nothing differed
module _ {A B : Type 0} where
  unfoldable pub go_on : Outcome A → (A → Outcome B) → Outcome B
  go_on (ended a) f = f a
  go_on (differs d) f = differs d

-- a record from a state
unfoldable pub replayed_from : Profile → State → Recording → Outcome State
replayed_from p s r = replayed p r.settings.maximum r.settings.place s r.calls

-- the difference, or the final snapshot: 13 where the lent output is shorter
unfoldable pub concluded : Profile → ℕ → Outcome State → Answer (Outcome (List ℕ))
concluded p room (ended s) = on_answer (λ (bs : List ℕ). ended bs) (write p s room)
concluded p room (differs d) = gives (differs d)

-- both inputs are read before any call is made: 14 for the starting snapshot, then 15 for the record
unfoldable pub replay_of : Profile → ℕ → Option State → Option Recording → Answer (Outcome (List ℕ))
replay_of p room none o = refused 14
replay_of p room (some s) none = refused 15
replay_of p room (some s) (some r) = concluded p room (replayed_from p s r)

-- replay of a record from a snapshot, with so much room in the lent output
unfoldable pub replay : Profile → List ℕ → List ℕ → ℕ → Answer (Outcome (List ℕ))
replay p snapshot recording room = replay_of p room (decode p snapshot) (read_recording recording)

-- what a replay leaves in the lent output: the final snapshot, then what lay past it; at a difference or a refusal the old contents
unfoldable pub leaves : Answer (Outcome (List ℕ)) → List ℕ → List ℕ
leaves (gives (ended bs)) out = lent (gives bs) out
leaves (gives (differs d)) out = out
leaves (refused n) out = out

-- ---- recording
-- a day as the controller records it: its calls, each with the answer it gave
unfoldable pub recorded_day : Profile → ℕ → State → List Asked → List Recorded
recorded_day p m s [] = []
recorded_day p m s (a ∷ as') = record { asked = a; answer = given p s (call_of m a) } ∷ recorded_day p m (after p s (call_of m a)) as'

-- ---- cutting
-- the first n calls
unfoldable pub first_part : ℕ → Recording → Recording
first_part n r = record { settings = r.settings; calls = take n r.calls }

-- the calls after them; its place says how many stand before it
unfoldable pub rest_part : ℕ → Recording → Recording
rest_part n r = record { settings = record { maximum = r.settings.maximum; place = r.settings.place + length (take n r.calls) }; calls = drop n r.calls }

-- going on from the snapshot that a part ended with; a difference or a refusal stays
unfoldable pub on_ended : Answer (Outcome (List ℕ)) → (List ℕ → Answer (Outcome (List ℕ))) → Answer (Outcome (List ℕ))
on_ended (gives (ended bs)) f = f bs
on_ended (gives (differs d)) f = gives (differs d)
on_ended (refused n) f = refused n

-- the remaining calls, resumed from that snapshot
unfoldable pub resumed : Profile → Answer (Outcome (List ℕ)) → List ℕ → ℕ → Answer (Outcome (List ℕ))
resumed p o recording room = on_ended o (λ bs. replay p bs recording room)

-- a part, then the later ones, each resumed from the snapshot that the one before it ended with; between parts there is another room
unfoldable pub replay_all : Profile → ℕ → ℕ → List ℕ → List ℕ → List (List ℕ) → Answer (Outcome (List ℕ))
replay_all p between room snapshot recording [] = replay p snapshot recording room
replay_all p between room snapshot recording (next ∷ later) = on_ended (replay p snapshot recording between) (λ bs. replay_all p between room bs next later)

-- no two files of a list have smallest keys that are equal in the order
unfoldable pub no_ties : List File → Bool
no_ties [] = true
no_ties (f ∷ fs) = all (λ g. by_smallest f g || by_smallest g f) fs && no_ties fs

-- a cut is allowed where level 0 has no equal smallest keys
unfoldable pub cuttable : State → Bool
cuttable s = no_ties (level s 0)
