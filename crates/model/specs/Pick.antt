-- What to compact: the inputs of a size pick and of a manual pick, growth, grandparents, the two picks, and the calls on a picked answer. Assumes nothing.
use Rattle.std.specs.Prelude.{ℕ, zero, suc, ◌+◌, ◌*◌, ◌^◌, Bool, cond, true, false, not, ◌&&◌, ◌||◌, eqb, ltb, leb, length, Float}
use mathlib.Core.List.{List, [], ◌∷◌, ◌++◌, map, Option-to_list}
use Rattle.std.proofs.Math.Option.{Option, none, some, or_else}
use Rattle.lemmas.specs.Lists.{all, find, is_empty, distinct}
use Rattle.model.specs.Key.{Key, good_key, before}
use Rattle.model.specs.Answer.{Answer, ◌⇒◌, first_of}
use Rattle.model.specs.File.{Profile, File, State, level, pointer, total, numbers, good_file, in_order, well_formed, set_pointer}
use Rattle.model.specs.Edit.{Deletion}
use Rattle.model.specs.Score.{score, level_to_compact, due, reported}
use Rattle.model.specs.Range.{Range, between, overlapping, high_key, range_of}
use Rattle.model.specs.Completion.{completed, inputs}

-- ---- first inputs
-- the first file of a list, if any
unfoldable pub first_file : List File → Option File
first_file [] = none
first_file (f ∷ fs) = some f

-- the first file whose largest is after the level's pointer, or the first file if there is no pointer or none is after it
unfoldable pub start_file : Option Key → List File → Option File
start_file none fs = first_file fs
start_file (some k) fs = or_else (find (λ f. before k f.largest) fs) (first_file fs)

-- the first inputs of a size pick: that file, completed. At level 0 the files overlapping the widening of its range replace it
unfoldable pub size_inputs : ℕ → Option Key → List File → List File
size_inputs zero ptr fs = overlapping 0 fs (range_of (Option-to_list (start_file ptr fs)))
size_inputs (suc l) ptr fs = completed fs (Option-to_list (start_file ptr fs))

-- stops after the first file that brings the total, t so far, above m
unfoldable pub up_to : ℕ → ℕ → List File → List File
up_to m t [] = []
up_to m t (f ∷ fs) = f ∷ cond (ltb m (t + f.size)) [] (up_to m (t + f.size) fs)

-- the first inputs of a manual pick: the files overlapping its range. Above level 0 it stops at the maximum file size m, and what it has is completed
unfoldable pub manual_inputs : ℕ → ℕ → List File → Range → List File
manual_inputs m zero fs r = overlapping 0 fs r
manual_inputs m (suc l) fs r = completed fs (up_to m 0 (overlapping (suc l) fs r))

-- ---- the answer of a pick
-- its cause: size with the reported score, or manual
pub data Cause : Type 0 where
  by_size : Float → Cause
  manual : Cause

-- a picked answer: level, cause, maximum file size, first and second inputs, grandparents
pub record Picked : Type 0 where
  pub level : ℕ
  pub cause : Cause
  pub maximum : ℕ
  pub first : List File
  pub second : List File
  pub grand : List File

-- the picked answer, and the state that the call leaves
pub record Pick : Type 0 where
  pub picked : Picked
  pub after : State

-- grandparents overlap the range at level + 2. The last level but one has none
unfoldable pub grand_of : Profile → State → ℕ → Range → List File
grand_of p s l r = cond (ltb (l + 2) p.levels) (overlapping (l + 2) (level s (l + 2)) r) []

-- growth is allowed: there are second inputs, the grown files are more in number, their bytes and the second inputs' together are below 25 m, and their own range
-- gives equally many files of level + 1
unfoldable pub grows : ℕ → List File → List File → List File → List File → Bool
grows m first second grown again = not (is_empty second) && ltb (length first) (length grown)
    && ltb (total grown + total second) (25 * m) && eqb (length again) (length second)

-- the level's files overlapping the joint range, completed, replace the first inputs where growth is allowed. Both lists that are tested are completed
unfoldable pub grown_first : State → ℕ → ℕ → List File → List File → List File
grown_first s m l first second =
    let grown = inputs l (level s l) (range_of (first ++ second)) in
    let again = inputs (suc l) (level s (suc l)) (range_of grown) in
    cond (grows m first second grown again) grown first

-- a pick from its first inputs: second inputs are those of level + 1 that overlap, completed, and the level's pointer becomes the first inputs' largest key
unfoldable pub complete : Profile → State → ℕ → Cause → ℕ → List File → Pick
complete p s m c l first =
    let second = inputs (suc l) (level s (suc l)) (range_of first) in
    let first' = grown_first s m l first second in
    record {
      picked = record { level = l; cause = c; maximum = m; first = first'; second = second; grand = grand_of p s l (range_of (first' ++ second)) };
      after = set_pointer s l (high_key first');
    }

-- the largest maximum file size
abbrev pub largest_maximum : ℕ
largest_maximum = 2 ^ 32

-- the maximum file size is 0 or above the largest
unfoldable pub bad_maximum : ℕ → Bool
bad_maximum m = not (leb 1 m && leb m largest_maximum)

-- ---- the two picks
-- a size pick. Refusals: 14, 9, 10
unfoldable pub size_pick : Profile → State → ℕ → Answer Pick
size_pick p s m =
    let l = level_to_compact p s in
    first_of ((not (well_formed p s) ⇒ 14) ∷ (bad_maximum m ⇒ 9) ∷ (not (due (score s l)) ⇒ 10) ∷ [])
    (complete p s m (by_size (reported (score s l))) l (size_inputs l (pointer s l) (level s l)))

-- a manual pick. Refusals: 14, 1, 2, 9, 11, 10
unfoldable pub manual_pick : Profile → State → ℕ → ℕ → Key → Key → Answer Pick
manual_pick p s m l a b =
    let first = manual_inputs m l (level s l) (between a b) in
    first_of ((not (well_formed p s) ⇒ 14) ∷ (not (ltb l p.levels) ⇒ 1) ∷ (not (good_key p.longest a && good_key p.longest b) ⇒ 2)
    ∷ (bad_maximum m ⇒ 9) ∷ (eqb (suc l) p.levels ⇒ 11) ∷ (is_empty first ⇒ 10) ∷ [])
    (complete p s m manual l first)

-- ---- well-formed arguments
-- a list of one level
unfoldable pub good_level : Profile → ℕ → List File → Bool
good_level p l fs = all (λ f. good_file p f && ltb f.number (2 ^ 64)) fs && distinct (numbers fs) && leb (length fs) p.room && in_order l fs

-- a picked answer: level 0 to 5, M in its range, at least one first input, no grandparents at level 5,
-- lists that are well-formed levels, together no more files than a version has room for
unfoldable pub good_picked : Profile → Picked → Bool
good_picked p c = ltb (suc c.level) p.levels && not (bad_maximum c.maximum) && not (is_empty c.first)
    && (ltb (c.level + 2) p.levels || is_empty c.grand)
    && good_level p c.level c.first && good_level p (suc c.level) c.second && good_level p (c.level + 2) c.grand
    && leb (length c.first + length c.second + length c.grand) p.room

-- ---- calls on a picked answer
-- its cause is manual
unfoldable pub is_manual : Cause → Bool
is_manual (by_size c) = false
is_manual manual = true

-- a trivial move: not manual, one first input, no second, grandparents' bytes below 10 M
unfoldable pub trivial : Picked → Bool
trivial c = not (is_manual c.cause) && eqb (length c.first) 1 && is_empty c.second && ltb (total c.grand) (10 * c.maximum)

-- input deletions name exactly both input lists, in order, first inputs first
unfoldable pub input_deletions : Picked → List Deletion
input_deletions c = map (λ (f : File). record { level = c.level; number = f.number }) c.first
    ++ map (λ (f : File). record { level = suc c.level; number = f.number }) c.second
