-- One edit on one base: the survivors, and the first refusal that applies. Assumes nothing.
use Rattle.std.specs.Prelude.{ℕ, suc, Bool, false, not, ◌&&◌, ◌||◌, List, [], ◌∷◌, ◌++◌, map, eqb, ltb, leb, length, set}
use Rattle.std.proofs.Math.Option.{Option, none, some}
use Rattle.lemmas.specs.Lists.{keep, any, sort, join, distinct}
use Rattle.model.specs.Key.{Key, good_key, before}
use Rattle.model.specs.Answer.{Answer, Refusal, ◌⇒◌, first_of}
use Rattle.model.specs.File.{Profile, File, Counters, State, numbers, by_smallest, max_counter, max_size, no_collision, levelwise, well_formed}

-- a deletion names a level and a number
pub record Deletion : Type 0 where
  pub level : ℕ
  pub number : ℕ

-- an addition names a level and a file
pub record Addition : Type 0 where
  pub level : ℕ
  pub file : File

-- a pointer names a level and an internal key
pub record Pointer : Type 0 where
  pub level : ℕ
  pub key : Key

-- an edit: pointers, deletions, additions, perhaps a log number
pub record Edit : Type 0 where
  pub pointers : List Pointer
  pub deletions : List Deletion
  pub additions : List Addition
  pub log : Option ℕ

-- the edit with no entry and no log number
unfoldable pub empty_edit : Edit
empty_edit = record { pointers = []; deletions = []; additions = []; log = none }

-- ---- survivors
-- the files that the edit adds at a level, in edit order
unfoldable pub added : Edit → ℕ → List File
added e l = map (λ (a : Addition). a.file) (keep (λ a. eqb a.level l) e.additions)

-- the edit deletes the number at the level
unfoldable pub deletes : Edit → ℕ → ℕ → Bool
deletes e l n = any (λ d. eqb d.level l && eqb d.number n) e.deletions

-- the edit adds the number at the level
unfoldable pub adds : Edit → ℕ → ℕ → Bool
adds e l n = any (λ f. eqb f.number n) (added e l)

-- deleted at the level and not added there
unfoldable pub left_deleted : Edit → ℕ → ℕ → Bool
left_deleted e l n = deletes e l n && not (adds e l n)

-- the survivors: the base files not left deleted, then the added ones, sorted by smallest key. Equal keys stay in this order
unfoldable pub survivors : Edit → ℕ → List File → List File
survivors e l base = sort by_smallest (keep (λ f. not (left_deleted e l f.number)) base ++ added e l)

-- the survivors of each level, from level l on
unfoldable pub survivors_from : Edit → ℕ → List (List File) → List (List File)
survivors_from e l [] = []
survivors_from e l (fs ∷ rest) = survivors e l fs ∷ survivors_from e (suc l) rest

-- ---- pointers
-- the last pointer for a level counts
unfoldable pub pointed : List Pointer → List (Option Key) → List (Option Key)
pointed [] ps = ps
pointed (q ∷ qs) ps = pointed qs (set ps q.level (some q.key))

-- an accepted edit's log number becomes the store's
unfoldable pub logged : Option ℕ → Counters → Counters
logged none c = c
logged (some n) c = record { next = c.next; manifest = c.manifest; last = c.last; log = n; previous = c.previous }

-- ---- the accepted edit
-- the state that it leaves
unfoldable pub applied : Edit → State → State
applied e s = record {
  files = survivors_from e 0 s.files;
  pointers = pointed e.pointers s.pointers;
  counters = logged e.log s.counters;
}

-- ---- refusals
-- more entries than an edit may have
unfoldable pub too_many : Profile → Edit → Bool
too_many p e = not (leb (length e.deletions) p.deletions && leb (length e.additions) p.additions && leb (length e.pointers) p.pointers)

-- log number below the store's or not below next, or beyond 2^56 - 1
unfoldable pub bad_log : Counters → Option ℕ → Bool
bad_log c none = false
bad_log c (some n) = ltb n c.log || not (ltb n c.next) || ltb max_counter n

-- the refusals of each pointer, lowest number first
unfoldable pub pointer_refusals : Profile → List Pointer → List Refusal
pointer_refusals p [] = []
pointer_refusals p (q ∷ qs) = (not (ltb q.level p.levels) ⇒ 1) ∷ (not (good_key p.longest q.key) ⇒ 2) ∷ pointer_refusals p qs

-- the refusals of each deletion: only its level can be wrong
unfoldable pub deletion_refusals : Profile → List Deletion → List Refusal
deletion_refusals p [] = []
deletion_refusals p (d ∷ ds) = (not (ltb d.level p.levels) ⇒ 1) ∷ deletion_refusals p ds

-- the refusals of each addition: level, keys, smallest after largest, size
unfoldable pub addition_refusals : Profile → List Addition → List Refusal
addition_refusals p [] = []
addition_refusals p (a ∷ as') =
    (not (ltb a.level p.levels) ⇒ 1)
    ∷ (not (good_key p.longest a.file.smallest && good_key p.longest a.file.largest) ⇒ 2)
    ∷ (before a.file.largest a.file.smallest ⇒ 4)
    ∷ (ltb max_size a.file.size ⇒ 5)
    ∷ addition_refusals p as'

-- the refusals of all entries: pointers, deletions, additions, each in turn
unfoldable pub entry_refusals : Profile → Edit → List Refusal
entry_refusals p e = pointer_refusals p e.pointers ++ deletion_refusals p e.deletions ++ addition_refusals p e.additions

-- the refusals of the survivors: 6 (a number twice), 8 (more than the room), 7 (files that collide)
unfoldable pub result_refusals : Profile → List (List File) → List Refusal
result_refusals p fss =
    (not (distinct (numbers (join fss))) ⇒ 6)
    ∷ (ltb p.room (length (join fss)) ⇒ 8)
    ∷ (not (levelwise no_collision 0 fss) ⇒ 7)
    ∷ []

-- an edit on a state: 14, 3, 9, the entries, the result
unfoldable pub edit : Profile → State → Edit → Answer State
edit p s e = first_of
    ((not (well_formed p s) ⇒ 14) ∷ (too_many p e ⇒ 3) ∷ (bad_log s.counters e.log ⇒ 9)
    ∷ (entry_refusals p e ++ result_refusals p (survivors_from e 0 s.files)))
    (applied e s)
