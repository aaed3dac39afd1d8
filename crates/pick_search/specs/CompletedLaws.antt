-- Laws of files found at a level that are then completed by the files that share an edge key. Assumes nothing.
use Rattle.std.specs.Prelude.{ℕ, ◌+◌, ◌≤◌, ◌≡◌, refl, Bool, true, false, length}
use Rattle.std.proofs.Math.Path.{sym, ap}
use Rattle.std.proofs.Common.{◌∙◌, arith}
use mathlib.Core.List.{List, [], ◌∷◌, ◌++◌, append-nil}
use Rattle.lemmas.specs.Lists.{take_on, is_empty}
use Rattle.model.specs.Completion.{completed, follows}
use Rattle.model.proofs.CompletionLaws.{completed_on}
use Rattle.model.specs.File.{File}
use Rattle.model.proofs.LineLaws.{Line}
use Rattle.model.specs.Range.{high_key}
use Rattle.records.specs.Run.{run}
use Rattle.records.specs.declared.FileRecord.{FileRecord}
use Rattle.pick_found.specs.declared.FoundRun.{FoundRun}
use Rattle.pick_found.specs.ContiguousLaws.{run_parts}
use Rattle.pick_search.specs.declared.Question.{Question}
use Rattle.pick_search.specs.Search.{takes_after, Takes}

-- ---- files taken one after another
-- a rule that takes no file after xs takes none of a list
pub take_none : (p : List File → File → Bool) (xs fs : List File) → ((f : File) → p xs f ≡ false) → take_on p xs fs ≡ []
unfolding take_on
take_none p xs [] h = refl
take_none p xs (f ∷ fs) h = rw (h f)

-- rules that agree after some files take the same
take_same : (p o : List File → File → Bool) → ((x : File) (xs : List File) (f : File) → p (x ∷ xs) f ≡ o (x ∷ xs) f) → (x : File) (xs fs : List File) → take_on p (x ∷ xs) fs ≡ take_on o (x ∷ xs) fs
unfolding take_on
take_same p o h x xs [] = refl
take_same p o h x xs (f ∷ fs) = rw (h x xs f, take_same p o h x (xs ++ (f ∷ [])) fs)

-- ---- the rule of the edge
module _ (q : Question) where
  -- a question that does not complete takes none
  edge_off : q.edges ≡ false → (xs : List File) (f : File) → takes_after q true xs f ≡ false
  unfolding takes_after
  edge_off e xs f = rw e

  -- after no files none is taken
  edge_none : q.edges ≡ true → (f : File) → takes_after q true [] f ≡ false
  unfolding takes_after is_empty
  edge_none e f = rw e

  -- after some files one that follows their largest key
  edge_on : q.edges ≡ true → (x : File) (xs : List File) (f : File) → takes_after q true (x ∷ xs) f ≡ follows (high_key (x ∷ xs)) f
  unfolding takes_after is_empty
  edge_on e x xs f = rw e

-- files a found in a run of places that starts at from and ends where the question does, and r, those that the rule of the edge takes after them
module _ (files : List FileRecord) (from : ℕ) (q : Question) (a r : FoundRun) (size : q.to ≤ length files) (least : from ≤ a.from) (fits : a.from + a.count ≤ q.to) (g : Takes files q true a r) where
  -- the files found
  abbrev xs : List File
  xs = run a.from (a.from + a.count) files

  -- those to their left
  abbrev left : List File
  left = run from a.from files

  -- those to their right
  abbrev right : List File
  right = run (a.from + a.count) q.to files

  -- a question that does not complete leaves them as they are
  pub not_completed : q.edges ≡ false → run r.from (r.from + r.count) files ≡ run a.from (a.from + a.count) files
  not_completed e = g.takes ∙ ap (λ (zs : List File). xs ++ zs) (take_none (takes_after q true) xs right (edge_off q e xs)) ∙ append-nil xs

  -- they stand between those to the left and those to the right
  between : run from q.to files ≡ left ++ (xs ++ right)
  between = run_parts files from q.to size a.from least (omega arith) ∙ ap (λ (zs : List File). left ++ zs) (run_parts files a.from q.to size (a.from + a.count) (omega arith) fits)

  -- in a level in line they are completed
  pub is_completed : q.edges ≡ true → Line (run from q.to files) → run r.from (r.from + r.count) files ≡ completed (run from q.to files) (run a.from (a.from + a.count) files)
  unfolding completed
  is_completed e l = go xs g.takes between
    where
      go : (xs : List File) → run r.from (r.from + r.count) files ≡ xs ++ take_on (takes_after q true) xs right → run from q.to files ≡ left ++ (xs ++ right)
          → run r.from (r.from + r.count) files ≡ completed (run from q.to files) xs
      go [] t i = t ∙ take_none (takes_after q true) [] right (edge_none q e)
      go (x ∷ xs) t i =
          t ∙ ap (λ (zs : List File). (x ∷ xs) ++ zs) (take_same (takes_after q true) (λ ys f. follows (high_key ys) f) (edge_on q e) x xs right)
          ∙ sym (completed_on (run from q.to files) x xs l record { left = left; right = right; is = i })
