-- Steps towards the least widening: stretching over a file that sticks out stays within it and leaves fewer files outside, and if none sticks out it is reached.
-- Assumes nothing.
use Rattle.std.specs.Prelude.{ℕ, ◌+◌, ◌-◌, ◌≤◌, ◌<◌, ◌≡◌, ◌⊎◌, Bool, ◌||◌, cond}
use Rattle.std.proofs.Math.Path.{refl, ap, subst}
use Rattle.std.proofs.Common.{◌∙◌, inl, inr}
use Rattle.std.proofs.Math.Bool.{true, false, not}
use mathlib.Core.List.Memᴰ.{cases_cons}
use mathlib.Core.List.Memᴰ.{not-nil}
use mathlib.Core.List.{List, [], ◌∷◌, Memᴰ as In}
use Rattle.std.proofs.Math.Option.{none}
use native.Mathlib.Omega.{arith}
use Rattle.std.proofs.lemmas.Bool.{not-true}
use Rattle.std.proofs.Math.ListN.{length, get_or, length-map}
use Rattle.std.proofs.Math.Seq.{slice, length-slice}
use Rattle.lemmas.specs.Order.{clash}
use Rattle.lemmas.specs.Lists.{any, find}
use Rattle.lemmas.specs.ListLaws.{any_in, find_none, tally, tally_less, get_or_in}
use Rattle.lemmas.specs.Loops.{find_later}
use Rattle.lemmas.specs.Slices.{at_view}
use Rattle.model.specs.File.{File}
use Rattle.model.specs.Range.{Range, overlaps, inside, Within, Closed, LeastWidening, stretch, sticks_out, widen}
use Rattle.model.proofs.RangeLaws.{within_refl, within_trans, overlaps_mono, inside_mono, stretch_within, stretch_inside, stretch_least, sticks_overlaps, sticks_outside, no_stick, widen_least, one_widening}
use Rattle.records.specs.Record.{file_of, past}
use Rattle.records.specs.RecordLaws.{run_turn, run_ended}
use Rattle.records.specs.Run.{run}
use Rattle.records.specs.declared.FileRecord.{FileRecord}

-- if no item passes, each fails
none_pass : {A : Type 0} (p : A → Bool) (xs : List A) → any p xs ≡ false → (x : A) → In x xs → p x ≡ false
unfolding any
none_pass p [] e x m = absurd (not-nil m)
none_pass p (y ∷ ys) e x m = go (λ z k. none_pass p ys z x k) (p y) refl e (cases_cons m)
  where
    go : (any p ys ≡ false → In x ys → p x ≡ false) → (b : Bool) → p y ≡ b → (b || any p ys) ≡ false → (x ≡ y) ⊎ In x ys → p x ≡ false
    go ih true t z w = clash refl z
    go ih false t z (inl q) = ap p q ∙ t
    go ih false t z (inr k) = ih z k

-- `w` contains `r` and is within every closed range that contains `r`
pub record OnTheWay (fs : List File) (r w : Range) : Type 0 where
  pub contains : Within r w
  pub least : (v : Range) → Within r v → Closed fs v → Within w v

-- the number of files that do not lie inside
pub outsiders : List File → Range → ℕ
outsiders fs w = tally (λ f. not (inside w f)) fs

-- the first step: the range itself
pub way_start : (fs : List File) (r : Range) → OnTheWay fs r r
way_start fs r = record { contains = within_refl r; least = λ v h c. h }

module _ (fs : List File) (r w : Range) (f : File) (m : In f fs) (t : sticks_out w f ≡ true) where
  -- a step: stretched over a file that sticks out
  pub way_on : OnTheWay fs r w → OnTheWay fs r (stretch w f)
  way_on o = record {
    contains = within_trans r w (stretch w f) o.contains (stretch_within w f);
    least = λ v h c. let k = o.least v h c in stretch_least w v f k (c f m (overlaps_mono w v f k (sticks_overlaps w f t)));
  }

  -- a step leaves fewer files outside
  pub fewer : outsiders fs (stretch w f) < outsiders fs w
  unfolding outsiders
  fewer = tally_less (λ g. not (inside (stretch w f) g)) (λ g. not (inside w g)) fs f (λ g u. back g (inside w g) refl u) m (rw stretch_inside) (rw (sticks_outside w f t))
    where
      back : (g : File) (b : Bool) → inside w g ≡ b → not (inside (stretch w f) g) ≡ true → not (inside w g) ≡ true
      back g true e u = clash (inside_mono w (stretch w f) g (stretch_within w f) e) (not-true (inside (stretch w f) g) u)
      back g false e u = rw e

-- steps after steps are steps
pub way_trans : (fs : List File) (r w v : Range) → OnTheWay fs r w → OnTheWay fs w v → OnTheWay fs r v
way_trans fs r w v h k = record { contains = within_trans r w v h.contains k.contains; least = λ u i c. k.least u (h.least u i c) c }

-- if no file sticks out, the least widening is reached
pub way_end : (fs : List File) (r w : Range) → OnTheWay fs r w → find (sticks_out w) fs ≡ none → w ≡ widen fs r
way_end fs r w o e =
    one_widening fs r w (widen fs r) record { contains = o.contains; closed = λ f m h. no_stick w f (find_none (sticks_out w) fs f e m) h; least = o.least } (widen_least fs r)

-- some file overlaps the least widening exactly if some file overlaps the range
pub same_overlap : (fs : List File) (r : Range) → any (overlaps (widen fs r)) fs ≡ any (overlaps r) fs
same_overlap fs r = go (any (overlaps r) fs) refl
  where
    some_wide : (f : File) → In f fs → overlaps (widen fs r) f ≡ true → (b : Bool) → any (overlaps (widen fs r)) fs ≡ b → b ≡ true
    some_wide f m o true e = refl
    some_wide f m o false e = clash o (none_pass (overlaps (widen fs r)) fs e f m)

    go : (b : Bool) → any (overlaps r) fs ≡ b → any (overlaps (widen fs r)) fs ≡ b
    go true e =
        let x = any_in (overlaps r) fs e in
        some_wide x.0 x.1 (overlaps_mono r (widen fs r) x.0 (widen_least fs r).contains x.2) (any (overlaps (widen fs r)) fs) refl
    go false e =
        let own : LeastWidening fs r r = record { contains = within_refl r; closed = λ f m o. clash o (none_pass (overlaps r) fs e f m); least = λ v h c. h } in
        ap (λ (w : Range). any (overlaps w) fs) (one_widening fs r (widen fs r) r (widen_least fs r) own) ∙ e

-- ---- over the files of a run
module _ (from e : ℕ) (files : List FileRecord) where
  -- the file at a place of a run is one of the run
  pub run_in : (i : ℕ) → from ≤ i → i < e → e ≤ length files → In (file_of (get_or files i past)) (run from e files)
  unfolding run
  run_in i h k g =
      let fs = run from e files in
      let n : i - from < length fs = omega (arith, length-map (slice from e files) file_of, length-slice from e files g) in
      let place : from + (i - from) ≡ i = omega arith in
      let at : get_or fs (i - from) (file_of past) ≡ file_of (get_or files i past) =
      at_view file_of from e files (i - from) past (file_of past) (omega arith) g ∙ ap (λ (j : ℕ). file_of (get_or files j past)) place in
      subst (λ (f : File). In f fs) at (get_or_in fs (i - from) (file_of past) n)

module _ (p : File → Bool) (i e : ℕ) (files : List FileRecord) where
  -- looking for the first that passes: the file at i does not
  pub find_run_passed : i < e → e ≤ length files → p (file_of (get_or files i past)) ≡ false → find p (run i e files) ≡ find p (run (i + 1) e files)
  find_run_passed h k t = find_later p (run i e files) (run (i + 1) e files) (file_of (get_or files i past)) (run_turn i e files h k) t

  -- none is left
  pub find_run_ended : e ≤ i → find p (run i e files) ≡ none
  unfolding find
  find_run_ended h = rw (run_ended i e files h)

-- ---- one pass over a run
-- what is known at place i. While `settled`, no file passed sticks out. Once one did, fewer files lie outside
pub record Pass (from e : ℕ) (files : List FileRecord) (began w : Range) (settled : Bool) (i : ℕ) : Type 0 where
  pub place : from ≤ i
  pub way : OnTheWay (run from e files) began w
  pub still : settled ≡ true → find (sticks_out w) (run from e files) ≡ find (sticks_out w) (run i e files)
  pub less : outsiders (run from e files) w + cond settled 0 1 ≤ outsiders (run from e files) began

module _ (from e : ℕ) (files : List FileRecord) (began : Range) where
  -- at the start of the pass
  pub pass_start : Pass from e files began began true from
  pass_start = record { place = omega arith; way = way_start (run from e files) began; still = λ t. refl; less = omega arith }

  module _ (w : Range) (settled : Bool) (i : ℕ) (h : i < e) (k : e ≤ length files) (p : Pass from e files began w settled i) where
    -- the file at i sticks out: the range is stretched
    pub pass_stretched : sticks_out w (file_of (get_or files i past)) ≡ true → Pass from e files began (stretch w (file_of (get_or files i past))) false (i + 1)
    pass_stretched t =
        let fs = run from e files in
        let f = file_of (get_or files i past) in
        let place = p.place in
        let less = p.less in
        let m = run_in from e files i place h k in
        record {
          place = omega arith;
          way = way_trans fs began w (stretch w f) p.way (way_on fs w w f m t (way_start fs w));
          still = λ z. clash z refl;
          less = omega (arith, fewer fs w w f m t);
        }

    -- it does not: the range stays
    pub pass_kept : sticks_out w (file_of (get_or files i past)) ≡ false → Pass from e files began w settled (i + 1)
    pass_kept t =
        let place = p.place in
        record { place = omega arith; way = p.way; still = λ z. p.still z ∙ find_run_passed (sticks_out w) i e files h k t; less = p.less }

  -- at the end of a settled pass no file sticks out
  pub pass_end : (w : Range) (settled : Bool) (i : ℕ) → e ≤ i → Pass from e files began w settled i → settled ≡ true → find (sticks_out w) (run from e files) ≡ none
  pass_end w settled i h p t = p.still t ∙ find_run_ended (sticks_out w) i e files h
