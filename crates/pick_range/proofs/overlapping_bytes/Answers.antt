-- `pick_range::overlapping_bytes` meets its contract: sizes of the files that overlap, added with the largest u64 as a bound. Assumes nothing.
use Rattle.std.proofs.Common.{◌≡◌, ℕ, ◌+◌, ◌≤◌, min, Bool, true, false, List, [], ◌∷◌, map, fold, refl, ap, ◌∙◌, rules, tests, arith}
use Rattle.std.proofs.lemmas.Iterator.{YieldsList-from_slice}
use Rattle.std.proofs.lemmas.Iterator.Consumers.{YieldsList-from_filter, fold_from_yields_List}
use Rattle.std.specs.List.{filter}
use Rattle.lemmas.specs.Listed.{keep_listed}
use Rattle.lemmas.specs.Lists.{keep, sum, push}
use Rattle.model.specs.File.{File, total, max_word}
use Rattle.model.specs.Range.{overlaps}
use Rattle.records.specs.Record.{file_of}
use Rattle.records.specs.Run.{run}
use Rattle.records.specs.declared.FileRecord.{FileRecord}
use Rattle.pick_range.specs.Ranges.{span_of}
use Rattle.pick_range.proofs.overlapping_bytes.Goals as goal

-- the sum is bounded at the end, or at each step
bounded : (a : ℕ) (rs : List FileRecord) → a ≤ max_word → fold (λ s (r : FileRecord). min (s + r.size) max_word) a rs ≡ min (a + total (map file_of rs)) max_word
unfolding total sum file_of
bounded a [] h = omega arith
bounded a (r ∷ rs) h = let e = bounded (min (a + r.size) max_word) rs (omega arith) in omega (arith, e)

-- the files that records stand for, of those that pass
of_files : (p : File → Bool) (rs : List FileRecord) → map file_of (keep (λ (r : FileRecord). p (file_of r)) rs) ≡ keep p (map file_of rs)
unfolding keep push
of_files p [] = refl
of_files p (r ∷ rs) = go (p (file_of r)) (of_files p rs)
  where
    go : (t : Bool) → map file_of (keep (λ (r : FileRecord). p (file_of r)) rs) ≡ keep p (map file_of rs)
        → map file_of (push t r (keep (λ (r : FileRecord). p (file_of r)) rs)) ≡ push t (file_of r) (keep p (map file_of rs))
    go true e = rw e
    go false e = e

pub returns : goal.returns
unfolding run
returns c =
    let p : File → Bool = overlaps (span_of c.args.span) in
    let q : FileRecord → Bool = λ r. p (file_of r) in
    let rs = c.part.result.now in
    let e : c.fold.result ≡ fold (λ s (r : FileRecord). min (s + r.size) max_word) 0 (filter q rs) =
    fold_from_yields_List _ (λ s (r : FileRecord). min (s + r.size) max_word) 0 c.fold.result c.fold.ensures.ran
    (YieldsList-from_filter _ q (YieldsList-from_slice rs cc) c.filter.ensures.closure (λ x b p k. search (rules, tests)))
    (λ a x b p k. search (rules, tests)) in
    let kept = bounded 0 (filter q rs) (omega arith) in
    let same : map file_of (filter q rs) ≡ keep p (map file_of rs) = ap (map file_of) (keep_listed q rs) ∙ of_files p rs in
    rw (← c.part.ensures, ← same) (omega (arith, e, kept))
