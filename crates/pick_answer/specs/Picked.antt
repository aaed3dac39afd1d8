-- The picked answer of the model that a record stands for, and calls on it. Assumes nothing.
use Rattle.std.specs.Prelude.{ℕ, zero, suc, ◌+◌, Bool, not, ◌&&◌, ◌||◌, cond, List, [], ◌∷◌, eqb, ltb, length, get_or, Result}
use Rattle.std.proofs.Math.Seq.{slice}
use Rattle.lemmas.specs.Lists.{all, distinct}
use Rattle.model.specs.Answer.{Answer, refused}
use Rattle.model.specs.File.{File, full, numbers}
use Rattle.model.specs.Pick as model
use Rattle.model.specs.Pick.{bad_maximum, good_picked}
use Rattle.answers.specs.Outcome.{result_of}
use Rattle.answers.specs.declared.Refusal.{Refusal}
use Rattle.levels.specs.Levels.{levels_of, laid_out, sound_levels}
use Rattle.store.specs.Store.{store_of}
use Rattle.pick_answer.specs.declared.Cause.{Cause}
use Rattle.pick_answer.specs.declared.Cause.TheVariants.{Size, Manual}
use Rattle.pick_answer.specs.declared.Picked.{Picked}
use Rattle.pick_answer.specs.declared.Pick.{Pick}

-- the cause that a record stands for: size with its score, or manual
unfoldable pub cause_of : Cause → model.Cause
cause_of (Size x) = model.by_size x
cause_of Manual = model.manual

-- the record of a cause
unfoldable pub cause_record : model.Cause → Cause
cause_record (model.by_size x) = Size x
cause_record model.manual = Manual

-- the numbers of first inputs, second inputs and grandparents
unfoldable pub counts_in : Picked → List ℕ
counts_in c = c.first ∷ c.second ∷ c.grand ∷ []

-- the three lists: the array cut by these counts
unfoldable pub lists_in : Picked → List (List File)
lists_in c = levels_of c.files (counts_in c)

-- the picked answer that a record stands for
unfoldable pub picked_of : Picked → model.Picked
picked_of c = record {
  level = c.level;
  cause = cause_of c.cause;
  maximum = c.maximum;
  first = get_or (lists_in c) 0 [];
  second = get_or (lists_in c) 1 [];
  grand = get_or (lists_in c) 2 [];
}

-- the three lists of a picked answer
unfoldable pub three_lists : model.Picked → List (List File)
three_lists p = p.first ∷ p.second ∷ p.grand ∷ []

-- the record of a picked answer: blank records filled in order
unfoldable pub picked_record : model.Picked → Picked
picked_record p = record {
  level = p.level;
  cause = cause_record p.cause;
  maximum = p.maximum;
  files = laid_out (three_lists p);
  first = length p.first;
  second = length p.second;
  grand = length p.grand;
}

-- the record of a pick: the picked answer, and the store of the new state
unfoldable pub pick_record : model.Pick → Pick
pick_record k = record { picked = picked_record k.picked; store = store_of k.after }

-- the result of a pick
unfoldable pub pick_of : Answer model.Pick → Result Pick Refusal
pick_of a = result_of pick_record a

-- a sound picked answer: no more files than the room, sound records, blank records in the empty places
unfoldable pub sound_picked : Picked → Bool
sound_picked c = sound_levels c.files (counts_in c)

-- a well-formed picked answer: sound, and good in the model
unfoldable pub well_picked : Picked → Bool
well_picked c = sound_picked c && good_picked full (picked_of c)

-- a call on a picked answer: 14 if its records are not sound, else the call's answer for what it stands for
unfoldable pub on_picked : {A : Type 0} → Picked → (model.Picked → Answer A) → Answer A
on_picked c call = cond (sound_picked c) (call (picked_of c)) (refused 14)

-- ---- the tests of a picked answer
-- all but its files: level 0 to 5, M in its range, at least one first input, no grandparents at level 5
unfoldable pub framed : ℕ → ℕ → ℕ → ℕ → Bool
framed level maximum first grand =
    ltb (suc level) full.levels && not (bad_maximum maximum) && not (eqb first 0) && (ltb (level + 2) full.levels || eqb grand 0)

-- the counts of three lists as counts of seven levels, from level 0 or level 1 on. All levels above 0 have the same order
unfoldable pub as_levels : ℕ → ℕ → ℕ → ℕ → List ℕ
as_levels zero first second grand = first ∷ second ∷ grand ∷ 0 ∷ 0 ∷ 0 ∷ 0 ∷ []
as_levels (suc l) first second grand = 0 ∷ first ∷ second ∷ grand ∷ 0 ∷ 0 ∷ 0 ∷ []

-- no number stands twice in any of three runs of a column
unfoldable pub distinct_runs : List ℕ → ℕ → ℕ → ℕ → Bool
distinct_runs ns first second grand =
    distinct (slice 0 first ns) && (distinct (slice first (first + second) ns) && distinct (slice (first + second) (first + second + grand) ns))

-- no number stands twice in any of the lists
unfoldable pub distinct_lists : List (List File) → Bool
distinct_lists fss = all (λ fs. distinct (numbers fs)) fss
