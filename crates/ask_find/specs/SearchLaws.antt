-- Laws of the search by halves: a step keeps the place where it ends and leaves fewer places. On a well-formed level above 0 that place is the number of files that
-- end before the key. Assumes nothing.
use Rattle.std.specs.Prelude.{ℕ, suc, ◌+◌, ◌-◌, ◌≤◌, ◌<◌, ◌≡◌, Bool, cond, not, List, [], ◌∷◌, map, length, get_or}
use Rattle.std.proofs.Math.Path.{refl, sym}
use Rattle.std.proofs.Common.{ap, ◌∙◌, arith}
use Rattle.std.proofs.Math.Bool.{true, false}
use Rattle.std.proofs.lemmas.List.{length-map}
use Rattle.lemmas.specs.Bisect.{bisect, met, fuel, turn_up, turn_down, bisect_list}
use Rattle.lemmas.specs.Loops.{before_first}
use Rattle.lemmas.specs.Maps.{first_map}
use Rattle.lemmas.specs.Slices.{get_or_map}
use Rattle.model.specs.Key.{before}
use Rattle.model.specs.KeyLaws.{before_order}
use Rattle.model.specs.File.{File, full}
use Rattle.model.proofs.Formed.{good_file_order}
use Rattle.model.specs.Question.{passed}
use Rattle.model.proofs.QuestionLaws.{ends_rise}
use Rattle.records.specs.Record.{file_of, past}
use Rattle.keys.specs.Key.{key_of}
use Rattle.records.specs.RecordLaws.{run_turn, run_ended}
use Rattle.records.specs.Run.{run}
use Rattle.records.specs.declared.FileRecord.{FileRecord}
use Rattle.bisect.specs.declared.Window.{Window}
use Rattle.bisect.specs.Window.{mid_of, half_of}
use Rattle.bisect.specs.WindowLaws.{half_nearer}
use Rattle.ask_find.specs.Finding.{narrow_of, probe_of, ends_before, halved, Deep}

-- ---- a step of the search

-- the state of a search: within the list, and it ends where the whole search does
pub record Standing (rs : List FileRecord) (k : List ℕ) (s : Window) : Type 0 where
  pub order : s.lo ≤ s.hi
  pub within : s.hi ≤ length rs
  pub ends : bisect (ends_before rs k) (s.hi - s.lo) s.lo s.hi ≡ halved k rs

module _ (rs : List FileRecord) (k : List ℕ) where
  -- at first it is among all places
  pub starts : Standing rs k (record { lo = 0; hi = length rs })
  unfolding halved
  starts = record {
    order = omega arith;
    within = omega arith;
    ends = fuel (ends_before rs k) (length rs - 0) (length rs) 0 (length rs) (omega arith) (omega arith);
  }

  -- when nothing is left, it has the answer
  pub ended : (s : Window) → Standing rs k s → s.hi ≤ s.lo → s.lo ≡ halved k rs
  ended s f h = sym (met (ends_before rs k) (s.hi - s.lo) s.lo s.hi h) ∙ f.ends

  -- a step by the test in the middle keeps this
  keeps_at : (s : Window) → Standing rs k s → s.lo < s.hi → (t : Bool) → ends_before rs k (mid_of s) ≡ t
      → Standing rs k (half_of s t)
  unfolding half_of
  keeps_at s f h true e = record { order = omega arith; within = f.within; ends = sym (turn_up (ends_before rs k) s.lo s.hi h e) ∙ f.ends }
  keeps_at s f h false e = record { order = omega arith; within = omega (arith, f.within); ends = sym (turn_down (ends_before rs k) s.lo s.hi h e) ∙ f.ends }

  -- a step on the list keeps this
  pub keeps : (s : Window) → Standing rs k s → s.lo < s.hi → Standing rs k (probe_of rs k s)
  unfolding narrow_of
  keeps s f h = keeps_at s f h (ends_before rs k (mid_of s)) refl

  -- it leaves fewer places
  pub nearer : (s : Window) → s.lo < s.hi → (probe_of rs k s).hi - (probe_of rs k s).lo < s.hi - s.lo
  unfolding narrow_of
  nearer s h = half_nearer s h (ends_before rs k (mid_of s))

-- ---- where it ends

-- the files passed are those before the first that does not end before the key
passed_is : (k : List ℕ) (fs : List File) → passed k fs ≡ before_first (λ f. not (before f.largest k)) fs
unfolding passed before_first
passed_is k [] = refl
passed_is k (f ∷ fs) = go (before f.largest k) (passed_is k fs)
  where
    go : (t : Bool) → passed k fs ≡ before_first (λ f. not (before f.largest k)) fs
        → cond t (suc (passed k fs)) 0 ≡ cond (not t) 0 (suc (before_first (λ f. not (before f.largest k)) fs))
    go true e = ap suc e
    go false e = refl

-- if the largest keys rise, the search by halves finds how many files end before the key
pub halved_passed : (k : List ℕ) (rs : List FileRecord) → Deep (map file_of rs) → halved k rs ≡ passed k (map file_of rs)
unfolding halved
halved_passed k rs d =
    bisect_list (λ r. before (file_of r).largest k) rs past back
    ∙ sym (first_map file_of (λ f. not (before f.largest k)) rs)
    ∙ sym (passed_is k (map file_of rs))
  where
    back : (i : ℕ) → i + 1 < length rs → before (file_of (get_or rs (i + 1) past)).largest k ≡ true → before (file_of (get_or rs i past)).largest k ≡ true
    back i h e =
        let below : i < length rs = omega arith in
        let rise = ends_rise (map file_of rs) (λ f m. good_file_order full f (d.good f m)) d.apart i (i + 1) (file_of past) (omega arith) (omega (arith, length-map rs file_of)) in
        before_order.trans (file_of (get_or rs i past)).largest (file_of (get_or rs (i + 1) past)).largest k
        (rw (get_or_map file_of rs i past (file_of past) below, get_or_map file_of rs (i + 1) past (file_of past) h) at rise) e

-- ---- file by file

module _ (k : List ℕ) (i e : ℕ) (files : List FileRecord) where
  -- the file at i does not end before the key: none is passed
  pub scan_stops : i < e → e ≤ length files → before (key_of (get_or files i past).largest) k ≡ false → passed k (run i e files) ≡ 0
  unfolding passed file_of
  scan_stops h g t = rw (run_turn i e files h g, t)

  -- it does: one more than from i + 1 on
  pub scan_goes_on : i < e → e ≤ length files → before (key_of (get_or files i past).largest) k ≡ true → passed k (run i e files) ≡ 1 + passed k (run (i + 1) e files)
  unfolding passed file_of
  scan_goes_on h g t = rw (run_turn i e files h g, t) (omega arith)

  -- none is left
  pub scan_ended : e ≤ i → passed k (run i e files) ≡ 0
  unfolding passed
  scan_ended h = rw (run_ended i e files h)
