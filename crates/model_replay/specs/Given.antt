-- What the calls that change a store answer: the whole answer, so that two answers can be held against each other. Assumes nothing.
use Rattle.std.specs.Prelude.{ℕ, Bool, true, false, ◌&&◌, List, [], ◌∷◌, eqb}
use Rattle.std.specs.Float.{binary64}
use Rattle.std.specs.Float.Ieee.{to_bits}
use Rattle.model.specs.Answer.{Answer, gives, refused, on_answer}
use Rattle.model.specs.File.{Profile, File, State}
use Rattle.model.specs.Edit.{edit}
use Rattle.model.specs.Counters.{CounterCall, new, reuse, mark, last, manifest, previous, counter}
use Rattle.model.specs.Pick.{Cause, by_size, manual, Picked, Pick, size_pick, manual_pick}
use Rattle.model.specs.Snapshot.{same_bytes}
use Rattle.model.specs.History.{Call, edits, picks_size, picks_range, counts, after}

-- the cause of a pick: size with the bits of its score, or manual
pub data Why : Type 0 where
  scored : ℕ → Why
  by_hand : Why

-- a picked answer, whole: level, cause, maximum file size, first and second inputs, grandparents, each file with its contents
pub record Choice : Type 0 where
  pub level : ℕ
  pub why : Why
  pub maximum : ℕ
  pub first : List File
  pub second : List File
  pub grand : List File

-- what an accepted call says: nothing more, the number handed out, or what was picked
pub data Said : Type 0 where
  accepted : Said
  handed : ℕ → Said
  picked : Choice → Said

-- what a call gives: what it says, or the number of its refusal
abbrev pub Given : Type 0
Given = Answer Said

-- a cause, its score as bits
unfoldable pub why_of : Cause → Why
why_of (by_size f) = scored (to_bits binary64 f)
why_of manual = by_hand

-- a picked answer, its score as bits
unfoldable pub choice_of : Picked → Choice
choice_of c = record { level = c.level; why = why_of c.cause; maximum = c.maximum; first = c.first; second = c.second; grand = c.grand }

-- new says the number that it hands out; reuse, mark and the setters say nothing more
unfoldable pub count_says : CounterCall → State → Said
count_says new s = handed s.counters.next
count_says (reuse n) s = accepted
count_says (mark n) s = accepted
count_says (last n) s = accepted
count_says (manifest n) s = accepted
count_says (previous n) s = accepted

-- what a call gives on a state
unfoldable pub given : Profile → State → Call → Given
given p s (edits e) = on_answer (λ (t : State). accepted) (edit p s e)
given p s (picks_size m) = on_answer (λ (k : Pick). picked (choice_of k.picked)) (size_pick p s m)
given p s (picks_range m l a b) = on_answer (λ (k : Pick). picked (choice_of k.picked)) (manual_pick p s m l a b)
given p s (counts c) = on_answer (λ (t : State). count_says c s) (counter p s c)

-- what the calls of a history give, made one by one
unfoldable pub answers : Profile → State → List Call → List Given
answers p s [] = []
answers p s (c ∷ cs) = given p s c ∷ answers p (after p s c) cs

-- ---- whether two answers are the same
-- two lists are the same by a test of their parts
module _ {A : Type 0} where
  unfoldable pub same_list : (A → A → Bool) → List A → List A → Bool
  same_list t [] [] = true
  same_list t [] (y ∷ ys) = false
  same_list t (x ∷ xs) [] = false
  same_list t (x ∷ xs) (y ∷ ys) = t x y && same_list t xs ys

-- number, size and both keys, by their bytes
unfoldable pub same_file : File → File → Bool
same_file f g = eqb f.number g.number && eqb f.size g.size && same_bytes f.smallest g.smallest && same_bytes f.largest g.largest

-- both manual, or both by size with the same bits
unfoldable pub same_why : Why → Why → Bool
same_why (scored a) (scored b) = eqb a b
same_why (scored a) by_hand = false
same_why by_hand (scored b) = false
same_why by_hand by_hand = true

-- every part is the same
unfoldable pub same_choice : Choice → Choice → Bool
same_choice c d = eqb c.level d.level && same_why c.why d.why && eqb c.maximum d.maximum
    && same_list same_file c.first d.first && same_list same_file c.second d.second && same_list same_file c.grand d.grand

-- what accepted calls say
unfoldable pub same_said : Said → Said → Bool
same_said accepted accepted = true
same_said accepted (handed n) = false
same_said accepted (picked d) = false
same_said (handed n) accepted = false
same_said (handed n) (handed m) = eqb n m
same_said (handed n) (picked d) = false
same_said (picked c) accepted = false
same_said (picked c) (handed n) = false
same_said (picked c) (picked d) = same_choice c d

-- both accepted and saying the same, or both refused with one number
unfoldable pub same_given : Given → Given → Bool
same_given (gives a) (gives b) = same_said a b
same_given (gives a) (refused n) = false
same_given (refused n) (gives b) = false
same_given (refused n) (refused m) = eqb n m
