-- `records::get_range` meets its contract: of keys equal in order the one so far is kept. Assumes nothing.
use Rattle.std.proofs.Common.{◌≡◌, ℕ, ◌+◌, ◌≤◌, ◌<◌, List, [], ◌∷◌, cond, refl, sym, ap, ◌∙◌, length, drop, map, get_or, drop_of_length-le, arith}
use Rattle.lemmas.specs.Lists.{find}
use Rattle.lemmas.specs.Slices.{rest_cons}
use Rattle.model.specs.Key.{before}
use Rattle.model.specs.Range.{low_key, high_key}
use Rattle.model.proofs.RangeLaws.{smallest_of, largest_of, low_fold, high_fold}
use Rattle.keys.specs.Key.{key_of, key_record}
use Rattle.records.specs.Record.{file_of, past}
use Rattle.records.specs.Run.{run, ends_of}
use Rattle.records.specs.declared.FileRecord.{FileRecord}
use Rattle.records.proofs.get_range.Goals as goal
use Rattle.records.proofs.get_range.Goals.{then-is_before, else-is_before, then-is_before-2, else-is_before-2}

-- the smallest and the largest key, after one file more
low_on : (rs : List FileRecord) (i : ℕ) (k : List ℕ) → i < length rs
    → smallest_of k (map file_of (drop i rs)) ≡ smallest_of (cond (before (key_of (get_or rs i past).smallest) k) (key_of (get_or rs i past).smallest) k) (map file_of (drop (i + 1) rs))
unfolding smallest_of file_of
low_on rs i k h = rw (rest_cons rs i past h)

high_on : (rs : List FileRecord) (i : ℕ) (k : List ℕ) → i < length rs
    → largest_of k (map file_of (drop i rs)) ≡ largest_of (cond (before k (key_of (get_or rs i past).largest)) (key_of (get_or rs i past).largest) k) (map file_of (drop (i + 1) rs))
unfolding largest_of file_of
high_on rs i k h = rw (rest_cons rs i past h)

-- a run of no files has blank keys
ends_none : (rs : List FileRecord) → length rs ≡ 0 → record { low = key_record []; high = key_record [] } ≡ ends_of (map file_of rs)
unfolding ends_of low_key high_key find
ends_none [] h = refl
ends_none (r ∷ rs) h = absurd (omega arith)

pub returns-in_default : goal.returns-in_default
unfolding run
returns-in_default c = rw (c.blank_key.ensures, c.blank_key-in_default.ensures, ← c.part.ensures) (ends_none c.part.result.now c.in_default.ensures.cases)

pub loop-f-init : goal.loop-f-init
unfolding run file_of
loop-f-init c =
    let all = sym c.part.ensures ∙ c.in-Some.ensures.cases.0 in
    let r = c.in-Some.first.now in
    let rest = map file_of c.in-Some.others.now in
    record {
      low = rw all (sym (low_fold (file_of r) rest));
      high = rw all (sym (high_fold (file_of r) rest));
    }

pub loop-f-preserved : goal.loop-f-preserved
loop-f-preserved c =
    let g = c.loop-f.invariant in
    let rest = c.in-Some.others.now in
    let i = c.loop-f.f-index in
    let r = get_or rest i past in
    let low : key_of c.if-is_before.low ≡ cond (before (key_of r.smallest) (key_of c.loop-f.low)) (key_of r.smallest) (key_of c.loop-f.low) =
    elim c.if-is_before.branch [
      | then-is_before w ↦ rw (sym c.is_before.ensures ∙ w.if-is_before.true) (ap key_of w.low-is)
      | else-is_before w ↦ rw (sym c.is_before.ensures ∙ w.if-is_before.false) (ap key_of w.low-is)
    ] in
    let high : key_of c.if-is_before-2.high ≡ cond (before (key_of c.loop-f.high) (key_of r.largest)) (key_of r.largest) (key_of c.loop-f.high) =
    elim c.if-is_before-2.branch [
      | then-is_before-2 w ↦ rw (sym c.is_before-in-loop-f.ensures ∙ w.if-is_before-2.true) (ap key_of w.high-is)
      | else-is_before-2 w ↦ rw (sym c.is_before-in-loop-f.ensures ∙ w.if-is_before-2.false) (ap key_of w.high-is)
    ] in
    record {
      low = rw low (sym (low_on rest i (key_of c.loop-f.low) (omega arith)) ∙ g.low);
      high = rw high (sym (high_on rest i (key_of c.loop-f.high) (omega arith)) ∙ g.high);
    }

pub returns : goal.returns
unfolding ends_of smallest_of largest_of
returns c =
    let g = c.loop-f.invariant in
    let end : length c.in-Some.others.now ≤ c.loop-f.f-index = omega arith in
    let none = drop_of_length-le c.in-Some.others.now end in
    rw (c.kept.ensures, c.kept-2.ensures, rw none at g.low, rw none at g.high)
