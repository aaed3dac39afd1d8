-- Histories: calls one after another on a store, and the files, pointers and counters they leave, read from the accepted calls alone. Assumes nothing.
use Rattle.std.specs.Prelude.{ℕ, ◌<◌, ◌≡◌, ◌↔◌, ◌⊎◌, cond, false, eqb}
use mathlib.Core.List.{List, [], ◌∷◌, ◌++◌, Memᴰ as In}
use Rattle.std.proofs.Math.Option.{Option, none, some}
use Rattle.model.specs.Key.{Key}
use Rattle.model.specs.Answer.{Answer, gives, refused}
use Rattle.model.specs.File.{Profile, File, Counters, State, fresh}
use Rattle.model.specs.Edit.{Pointer, Edit, added, deletes, logged, edit}
use Rattle.model.specs.Counters.{CounterCall, counted, counter}
use Rattle.model.specs.Range.{high_key}
use Rattle.model.specs.Pick.{Pick, size_pick, manual_pick}

-- the calls that can change a store
pub data Call : Type 0 where
  edits : Edit → Call
  picks_size : ℕ → Call
  picks_range : ℕ → ℕ → Key → Key → Call
  counts : CounterCall → Call

-- the effect of an accepted call
pub data Event : Type 0 where
  did_edit : Edit → Event
  did_point : ℕ → Key → Event
  did_count : CounterCall → Event

-- ---- making the calls. A refused call changes nothing
-- the state after an edit or a counter call
unfoldable pub kept : State → Answer State → State
kept s (gives t) = t
kept s (refused n) = s

-- the state after a pick
unfoldable pub kept_pick : State → Answer Pick → State
kept_pick s (gives k) = k.after
kept_pick s (refused n) = s

-- the state after a call
unfoldable pub after : Profile → State → Call → State
after p s (edits e) = kept s (edit p s e)
after p s (picks_size m) = kept_pick s (size_pick p s m)
after p s (picks_range m l a b) = kept_pick s (manual_pick p s m l a b)
after p s (counts c) = kept s (counter p s c)

-- the event of an edit or counter call, if accepted
unfoldable pub did : Answer State → Event → List Event
did (gives t) v = v ∷ []
did (refused n) v = []

-- the event of a pick, if accepted: it set a pointer
unfoldable pub did_pick : Answer Pick → List Event
did_pick (gives k) = did_point k.picked.level (high_key k.picked.first) ∷ []
did_pick (refused n) = []

-- the event of a call, if accepted
unfoldable pub event : Profile → State → Call → List Event
event p s (edits e) = did (edit p s e) (did_edit e)
event p s (picks_size m) = did_pick (size_pick p s m)
event p s (picks_range m l a b) = did_pick (manual_pick p s m l a b)
event p s (counts c) = did (counter p s c) (did_count c)

-- the state after a history
unfoldable pub run : Profile → State → List Call → State
run p s [] = s
run p s (c ∷ cs) = run p (after p s c) cs

-- the events of a history
unfoldable pub events : Profile → State → List Call → List Event
events p s [] = []
events p s (c ∷ cs) = event p s c ++ events p (after p s c) cs

-- ---- what is left, read from the events
-- no event deletes the number at the level
abbrev pub Unharmed : List Event → ℕ → ℕ → Type 0
Unharmed [] l n = Unit {0}
Unharmed (did_edit e ∷ vs) l n = (deletes e l n ≡ false) × Unharmed vs l n
Unharmed (did_point j k ∷ vs) l n = Unharmed vs l n
Unharmed (did_count c ∷ vs) l n = Unharmed vs l n

-- some edit added the file at the level, and none later deletes its number there
abbrev pub Stays : List Event → ℕ → File → Type 0
Stays [] l f = ⊥
Stays (did_edit e ∷ vs) l f = (In f (added e l) × Unharmed vs l f.number) ⊎ Stays vs l f
Stays (did_point j k ∷ vs) l f = Stays vs l f
Stays (did_count c ∷ vs) l f = Stays vs l f

-- the last pointer that the list sets for the level, else the old one
unfoldable pub last_of : List Pointer → ℕ → Option Key → Option Key
last_of [] l o = o
last_of (q ∷ qs) l o = last_of qs l (cond (eqb q.level l) (some q.key) o)

-- the level's pointer after these events
unfoldable pub pointer_left : List Event → ℕ → Option Key → Option Key
pointer_left [] l o = o
pointer_left (did_edit e ∷ vs) l o = pointer_left vs l (last_of e.pointers l o)
pointer_left (did_point j k ∷ vs) l o = pointer_left vs l (cond (eqb j l) (some k) o)
pointer_left (did_count c ∷ vs) l o = pointer_left vs l o

-- the counters after these events
unfoldable pub counters_left : List Event → Counters → Counters
counters_left [] c = c
counters_left (did_edit e ∷ vs) c = counters_left vs (logged e.log c)
counters_left (did_point j k ∷ vs) c = counters_left vs c
counters_left (did_count d ∷ vs) c = counters_left vs (counted d c)

-- two histories of a fresh store leave the same files, pointers and counters
pub record SameLeft (p : Profile) (h k : List Call) : Type 0 where
  pub files : (l : ℕ) → l < p.levels → (f : File) → Stays (events p (fresh p) h) l f ↔ Stays (events p (fresh p) k) l f
  pub pointers : (l : ℕ) → l < p.levels → pointer_left (events p (fresh p) h) l none ≡ pointer_left (events p (fresh p) k) l none
  pub counters : counters_left (events p (fresh p) h) (fresh p).counters ≡ counters_left (events p (fresh p) k) (fresh p).counters
