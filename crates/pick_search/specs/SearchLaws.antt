-- Laws of one search over a lent store: by halves the invariant is kept and fewer places are left, and the same when files are taken one by one. Assumes nothing.
use Rattle.std.specs.Prelude.{ℕ, ◌+◌, ◌-◌, ◌^◌, ◌≤◌, ◌<◌, ◌≡◌, Bool, not, ◌&&◌, eqb, length, get_or}
use Rattle.std.proofs.Math.Path.{refl, ap, subst}
use Rattle.std.proofs.Common.{sym, ◌∙◌}
use Rattle.std.proofs.Math.Bool.{true, false, cond}
use mathlib.Core.List.{List, [], ◌∷◌, ◌++◌, append_assoc, append-nil}
use native.Mathlib.Omega.{arith}
use Rattle.std.proofs.Math.Dec.{ltb}
use borrow.Author.Tests.{ltb-true, ltb-false, ne_eqb}
use Rattle.lemmas.specs.Lists.{is_empty, take_on}
use Rattle.lemmas.specs.Order.{clash}
use Rattle.model.specs.File.{File, total, max_files}
use Rattle.model.specs.Key.{user, user_before}
use Rattle.keys.specs.Key.{key_of, user_of}
use Rattle.records.specs.Record.{file_of, past}
use Rattle.records.specs.RecordLaws.{run_turn, run_ended, total_turn}
use Rattle.records.specs.Run.{run}
use Rattle.records.specs.declared.FileRecord.{FileRecord}
use Rattle.pick_range.specs.Ranges.{span_of}
use Rattle.pick_found.specs.declared.FoundRun.{FoundRun}
use Rattle.pick_found.specs.FoundRun.{file_at, ends_before, none_at, Summed, Contiguous, Passed}
use Rattle.pick_found.specs.FoundLaws.{summed_more}
use Rattle.pick_found.specs.ContiguousLaws.{Halving, halving_up, halving_down, run_length, run_more, takes_by, none_summed, taken_overlap, rest_small}
use Rattle.pick_search.specs.Choice.{Widest}
use Rattle.bisect.specs.declared.Window.{Window}
use Rattle.bisect.specs.Window.{mid_of, half_of}
use Rattle.bisect.specs.WindowLaws.{mid_least, mid_below}
use Rattle.pick_search.specs.declared.Question.{Question}
use Rattle.pick_search.specs.declared.Sweep.{Sweep}
use Rattle.pick_search.specs.CompletedLaws.{take_none}
use Rattle.pick_search.specs.Search.{may_take, sweep_from, takes_next, takes_after, spanning, Grows, Sweeps, Takable, Takes, Findable, Overlaps}

-- ---- by halves
module _ (files : List FileRecord) (q : Question) (s : Contiguous files q.from q.to (span_of q.span)) (size : length files ≡ max_files) where
  -- the invariant of a search by halves
  abbrev pub Among : Window → Type 0
  Among p = Halving files q.from q.to (span_of q.span) p.lo p.hi

  -- it holds in the half that is left
  pub among_next : (p : Window) → Among p → p.lo < p.hi → (f : FileRecord) → f ≡ get_or files (mid_of p) past → Among (half_of p (user_before (user (key_of f.largest)) (user_of q.span.start)))
  unfolding half_of file_at file_of ends_before span_of
  among_next p g h f e = go (user_before (user (key_of f.largest)) (user_of q.span.start)) refl
    where
      go : (b : Bool) → user_before (user (key_of f.largest)) (user_of q.span.start) ≡ b → Among (half_of p b)
      go true t =
          halving_up files q.from q.to (span_of q.span) s size p.lo p.hi (mid_of p) g (mid_least p) (mid_below p h) (ap (λ (r : FileRecord). user_before (user (key_of r.largest)) (user_of q.span.start)) (sym e) ∙ t)
      go false t =
          halving_down files q.from q.to (span_of q.span) s size p.lo p.hi (mid_of p) g (mid_least p) (mid_below p h) (ap (λ (r : FileRecord). user_before (user (key_of r.largest)) (user_of q.span.start)) (sym e) ∙ t)

-- ---- file by file
-- the next place of a search
abbrev pub next_of : Sweep → ℕ
next_of w = w.found.from + w.found.count

-- the measure: the places that are left, and one more while the search goes on
unfoldable pub left_of : Question → Sweep → ℕ
left_of q w = q.to - next_of w + cond w.goes 1 0

module _ (files : List FileRecord) where
  -- the files found, as a list
  abbrev files_of : FoundRun → List File
  files_of a = run a.from (a.from + a.count) files

  -- of the files after them, those that a rule takes
  abbrev more_of : Question → Bool → FoundRun → List File
  more_of q edge a = take_on (takes_after q edge) (files_of a) (run (a.from + a.count) q.to files)

-- a search that goes on from a: the files found so far and those still to be taken are those of a and all to be taken after it. When it ends none is left to be taken
pub record Sweeping (files : List FileRecord) (q : Question) (edge : Bool) (a : FoundRun) (w : Sweep) : Type 0 where
  pub found : Takable files q.to w.found
  starts : w.found.from ≡ a.from
  pub below : w.goes ≡ true → next_of w < q.to
  rest : files_of files w.found ++ more_of files q edge w.found ≡ files_of files a ++ more_of files q edge a
  ended : w.goes ≡ false → more_of files q edge w.found ≡ []

-- ---- the items taken one after another
module _ {A : Type 0} (p : List A → A → Bool) (xs : List A) (y : A) (ys : List A) where
  -- the next item is taken, and the search goes on with it
  take_here : p xs y ≡ true → (xs ++ (y ∷ [])) ++ take_on p (xs ++ (y ∷ [])) ys ≡ xs ++ take_on p xs (y ∷ ys)
  unfolding take_on
  take_here e = rw e (append_assoc xs (y ∷ []) (take_on p (xs ++ (y ∷ [])) ys))

  -- it is not taken, and none after it
  take_ends : p xs y ≡ false → take_on p xs (y ∷ ys) ≡ []
  unfolding take_on
  take_ends e = rw e

-- ---- the rule by a record is the rule by files
-- a list has no items exactly if their number is 0
empty_count : (xs : List File) (n : ℕ) → length xs ≡ n → eqb n 0 ≡ is_empty xs
unfolding is_empty
empty_count [] n e = rw (← e)
empty_count (x ∷ xs) n e = ne_eqb n 0 (λ z. absurd (omega (arith, e, z)))

-- the next file is taken by its record exactly if it is taken after the files found
rule_is : (q : Question) (edge : Bool) (a : FoundRun) (xs : List File) (f : FileRecord) → length xs ≡ a.count → Summed xs a.ends a.bytes → takes_next q edge a f ≡ takes_after q edge xs (file_of f)
unfolding may_take takes_next takes_after file_of
rule_is q true a xs f n s = rw (empty_count xs a.count n, s.high)
rule_is q false a xs f n s = rw s.bytes_are

-- a rule that may take no file after some takes no file
may_not : (q : Question) (edge : Bool) (a : FoundRun) (xs : List File) → length xs ≡ a.count → may_take q edge a ≡ false → (f : File) → takes_after q edge xs f ≡ false
unfolding may_take takes_after
may_not q true a xs n e f = let z : (q.edges && not (is_empty xs)) ≡ false = rw (← empty_count xs a.count n) e in rw z
may_not q false a xs n e f = clash refl e

-- ---- the files found with the next file
module _ (files : List FileRecord) (size : length files ≡ max_files) (to : ℕ) (a : FoundRun) (h : Takable files to a) where
  -- there are as many files as the count says
  count_is : length (files_of files a) ≡ a.count
  count_is =
      let fits = h.fits in
      let room = h.room in
      omega (arith, run_length files a.from (a.from + a.count) (omega arith))

  module _ (below : a.from + a.count < to) (f : FileRecord) (e : f ≡ get_or files (a.from + a.count) past) where
    -- the files after them begin with it
    next_first : run (a.from + a.count) to files ≡ file_of f ∷ run (a.from + a.count + 1) to files
    next_first =
        let room = h.room in
        rw e (run_turn (a.from + a.count) to files below (omega arith))

    -- so do their bytes
    next_bytes : total (run (a.from + a.count) to files) ≡ f.size + total (run (a.from + a.count + 1) to files)
    next_bytes =
        let room = h.room in
        rw e (total_turn (a.from + a.count) to files below (omega arith))

    module _ (b : FoundRun) (m : Grows a f b) where
      -- the place after it is the next one
      grown_place : b.from + b.count ≡ a.from + a.count + 1
      grown_place = omega (arith, m.from, m.count)

      -- it stands after the files found
      grown_files : files_of files b ≡ files_of files a ++ (file_of f ∷ [])
      unfolding file_at
      grown_files =
          let room = h.room in
          ap (λ (i : ℕ). run b.from i files) grown_place ∙ ap (λ (i : ℕ). run i (a.from + a.count + 1) files) m.from ∙ rw e (run_more files a.from (a.from + a.count) (omega arith) (omega arith))

      -- files can be taken after it
      grown_takable : Takable files to b
      unfolding file_of
      grown_takable =
          let small = h.small in
          record {
            fits = omega (arith, grown_place);
            room = h.room;
            sums = rw (grown_files, m.bytes) (summed_more (files_of files a) a.count (file_of f) a.ends b.ends a.bytes count_is h.sums m.low m.high);
            small = rw (grown_place, m.bytes) (omega (arith, next_bytes));
          }

-- ---- the invariant
module _ (files : List FileRecord) (q : Question) (edge : Bool) (a : FoundRun) (size : length files ≡ max_files) where
  -- a search that goes on exactly if there is a next place
  stands : (b : FoundRun) (t : Bool) → Takable files q.to b → b.from ≡ a.from → t ≡ ltb (b.from + b.count) q.to
      → files_of files b ++ more_of files q edge b ≡ files_of files a ++ more_of files q edge a → Sweeping files q edge a (record { found = b; goes = t })
  unfolding take_on
  stands b t h s e r = record {
    found = h;
    starts = s;
    below = λ x. ltb-true (b.from + b.count) q.to (sym e ∙ x);
    rest = r;
    ended = λ x. rw (run_ended (b.from + b.count) q.to files (ltb-false (b.from + b.count) q.to (sym e ∙ x)));
  }

  -- a rule that may take no file takes none
  none_more : Takable files q.to a → may_take q edge a ≡ false → more_of files q edge a ≡ []
  none_more h e = take_none (takes_after q edge) (files_of files a) (run (a.from + a.count) q.to files) (may_not q edge a (files_of files a) (count_is files size q.to a h) e)

  -- at first only the files of a are found
  pub sweeping_start : Takable files q.to a → (w : Sweep) → w ≡ sweep_from q edge a → Sweeping files q edge a w
  unfolding sweep_from
  sweeping_start h w e = subst (Sweeping files q edge a) (sym e) (go (may_take q edge a) refl)
    where
      go : (t : Bool) → may_take q edge a ≡ t → Sweeping files q edge a (record { found = a; goes = t && ltb (a.from + a.count) q.to })
      go true m = stands a (ltb (a.from + a.count) q.to) h refl refl refl
      go false m = record { found = h; starts = refl; below = λ x. clash x refl; rest = refl; ended = λ x. none_more h m }

  -- the bytes with the next file's fit 64 bits
  pub sweeping_small : (w : Sweep) → Sweeping files q edge a w → w.goes ≡ true → (f : FileRecord) → f ≡ get_or files (next_of w) past → w.found.bytes + f.size < 2 ^ 64
  sweeping_small w g t f e =
      let small = g.found.small in
      omega (arith, next_bytes files size q.to w.found g.found (g.below t) f e)

  module _ (w : Sweep) (g : Sweeping files q edge a w) (t : w.goes ≡ true) (f : FileRecord) (e : f ≡ get_or files (next_of w) past) (r : Sweep) (h : Sweeps w q edge f r) where
    -- the invariant holds after the next file
    pub sweeping_next : Sweeping files q edge a r
    sweeping_next = go (takes_next q edge w.found f) refl
      where
        first : run (next_of w) q.to files ≡ file_of f ∷ run (next_of w + 1) q.to files
        first = next_first files size q.to w.found g.found (g.below t) f e

        rule : takes_next q edge w.found f ≡ takes_after q edge (files_of files w.found) (file_of f)
        rule = rule_is q edge w.found (files_of files w.found) f (count_is files size q.to w.found g.found) g.found.sums

        go : (b : Bool) → takes_next q edge w.found f ≡ b → Sweeping files q edge a r
        go true x =
            let m = h.grows x in
            let fs = files_of files w.found in
            let n = grown_place files size q.to w.found g.found (g.below t) f e r.found m in
            let all = grown_files files size q.to w.found g.found (g.below t) f e r.found m in
            let more = grown_takable files size q.to w.found g.found (g.below t) f e r.found m in
            stands r.found r.goes more (m.from ∙ g.starts) (h.goes_on x ∙ ap (λ (i : ℕ). ltb i q.to) (sym n))
            (rw (all, n) (take_here (takes_after q edge) fs (file_of f) (run (next_of w + 1) q.to files) (sym rule ∙ x) ∙ rw (← first) g.rest))
        go false x =
            subst (Sweeping files q edge a) (sym (h.ends x))
            (record {
              found = g.found;
              starts = g.starts;
              below = λ z. clash z refl;
              rest = g.rest;
              ended = λ z. ap (take_on (takes_after q edge) (files_of files w.found)) first ∙ take_ends (takes_after q edge) (files_of files w.found) (file_of f) (run (next_of w + 1) q.to files) (sym rule ∙ x);
            })

    -- the measure falls
    pub sweeping_nearer : left_of q r < left_of q w
    unfolding left_of
    sweeping_nearer = go (takes_next q edge w.found f) refl
      where
        bit : (b : Bool) → cond b 1 0 ≤ 1
        bit true = omega arith
        bit false = omega arith

        now : left_of q w ≡ q.to - next_of w + 1
        now = rw t

        go : (b : Bool) → takes_next q edge w.found f ≡ b → left_of q r < left_of q w
        go true x =
            let m = h.grows x in
            omega (arith, m.from, m.count, bit r.goes, now, g.below t)
        go false x = subst (λ (v : Sweep). left_of q v < left_of q w) (sym (h.ends x)) (omega (arith, now))

  -- when it ends it has taken all
  pub sweeping_ends : (w : Sweep) → Sweeping files q edge a w → w.goes ≡ false → Takes files q edge a w.found
  sweeping_ends w g t = record {
    starts = g.starts;
    fits = g.found.fits;
    sums = g.found.sums;
    takes = sym (append-nil (files_of files w.found)) ∙ ap (λ (fs : List File). files_of files w.found ++ fs) (sym (g.ended t)) ∙ g.rest;
  }

-- ---- the files that overlap a range: w is the question with the range to search by
module _ (files : List FileRecord) (size : length files ≡ max_files) (q : Question) (z : Findable files q) (w : Question) (v : (w ≡ spanning q w.span) × Widest q files (span_of w.span)) where
  -- the places start where the question's do
  same_from : w.from ≡ q.from
  unfolding spanning
  same_from = ap (λ (x : Question). x.from) v.0

  -- they end where the question's do
  same_to : w.to ≡ q.to
  unfolding spanning
  same_to = ap (λ (x : Question). x.to) v.0

  -- the limit is the question's
  same_most : w.most ≡ q.most
  unfolding spanning
  same_most = ap (λ (x : Question). x.most) v.0

  -- they stand side by side
  pub overlap_contiguous : Contiguous files w.from w.to (span_of w.span)
  overlap_contiguous = rw (same_from, same_to) (z.side (span_of w.span) v.1)

  module _ (lo : ℕ) (p : Passed files w.from w.to (span_of w.span) lo) (a : FoundRun) (e : a ≡ none_at lo) where
    -- at first the next place is the one reached
    none_next : a.from + a.count ≡ lo
    unfolding none_at
    none_next =
        let from : a.from ≡ lo = ap (λ (b : FoundRun). b.from) e in
        let count : a.count ≡ 0 = ap (λ (b : FoundRun). b.count) e in
        omega arith

    -- and no files are found
    none_found : run a.from (a.from + a.count) files ≡ []
    unfolding none_at
    none_found =
        let from : a.from ≡ lo = ap (λ (b : FoundRun). b.from) e in
        let next = none_next in
        run_ended a.from (a.from + a.count) files (omega arith)

    -- files can be taken from the place on that is reached
    pub overlap_takable : Takable files w.to a
    unfolding none_at
    overlap_takable =
        let next = none_next in
        let last = p.most in
        let bytes : a.bytes ≡ 0 = ap (λ (b : FoundRun). b.bytes) e in
        record {
          fits = omega arith;
          room = overlap_contiguous.room;
          sums = rw (none_found, e) (none_summed lo);
          small = rw next (omega (arith, rest_small files w.from w.to (span_of w.span) overlap_contiguous size lo p));
        }

    -- those taken by the range are the ones that overlap
    pub overlap_found : (r : FoundRun) → Takes files w false a r → Overlaps files q r
    unfolding none_at takes_after span_of
    overlap_found r g =
        let from = same_from in
        let to = same_to in
        let least = p.least in
        let starts : r.from ≡ lo = g.starts ∙ ap (λ (b : FoundRun). b.from) e in
        let fits = g.fits in
        let takes : run r.from (r.from + r.count) files ≡ take_on (takes_by w.most (span_of w.span).stop) [] (run lo w.to files) = rw (none_found, none_next) at g.takes in
        record {
          wide = span_of w.span;
          widest = v.1;
          finds = (
            record { starts = omega arith; fits = omega arith; sums = g.sums },
            takes ∙ taken_overlap files w.from w.to (span_of w.span) overlap_contiguous size lo p w.most ∙ rw (from, to, same_most),
          );
        }
