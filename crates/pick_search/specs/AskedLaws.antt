-- Laws of one search of a pick: its places are a level's, or none past the last level, and its result takes the pick to the next search. Assumes nothing.
use Rattle.std.specs.Prelude.{ℕ, zero, suc, ◌+◌, ◌≤◌, ◌<◌, ◌≡◌, Bool, cond, ◌⊎◌, eqb, length}
use Rattle.std.proofs.Math.Path.{refl, sym, ap, subst}
use Rattle.std.proofs.Common.{◌∙◌}
use Rattle.std.proofs.Math.Bool.{true, false}
use Rattle.std.proofs.Math.Logic.{inl, inr, ⊎_elim}
use mathlib.Core.List.{List, [], map}
use native.Mathlib.Omega.{arith}
use Rattle.std.proofs.Math.Dec.{ltb}
use borrow.Author.Tests.{lt-ltb, le-ltb, ltb-true, ltb-false, eqb-true, eqb-false}
use Rattle.std.proofs.Math.ListN.{get_or, length-map, get_or-eq_default}
use Rattle.lemmas.specs.Lists.{keep, sum}
use Rattle.lemmas.specs.ListLaws.{neither_left}
use Rattle.lemmas.specs.Slices.{parts, length_parts}
use Rattle.model.specs.Completion.{completed}
use Rattle.model.specs.File.{File, full, level, total, level_count, max_files}
use Rattle.model.proofs.Formed.{formed_says}
use Rattle.model.proofs.LineLaws.{Line, level_line}
use Rattle.model.specs.Pick.{up_to}
use Rattle.model.specs.Range.{Range, overlaps, overlapping, widen}
use Rattle.records.specs.Record.{file_of}
use Rattle.records.specs.RecordLaws.{run_ended, total_ended}
use Rattle.records.specs.Run.{run}
use Rattle.records.specs.declared.FileRecord.{FileRecord}
use Rattle.levels.specs.Levels.{levels_of}
use Rattle.counters.specs.declared.Counters.{Counters}
use Rattle.store.specs.declared.Pointer.{Pointer}
use Rattle.store.specs.declared.Store.{Store}
use Rattle.store.specs.Store.{state_of, well_store}
use Rattle.store.specs.StoreLaws as store
use Rattle.pick_range.specs.Ranges.{span_of}
use Rattle.pick_found.specs.declared.FoundRun.{FoundRun}
use Rattle.pick_found.specs.FoundRun.{start_at, end_at, inputs_of, Contiguous, Gathered, Known}
use Rattle.pick_found.specs.FoundLaws.{level_known, total_joined, overlapping_first, overlapping_deeper}
use Rattle.pick_found.specs.ContiguousLaws.{run_parts, contiguous_deeper, contiguous_widened}
use Rattle.pick_found.specs.CallsLaws.{level_run_lem, level_ends, files_room}
use Rattle.pick_search.specs.declared.Choice.{Choice}
use Rattle.pick_search.specs.declared.Question.{Question}
use Rattle.pick_search.specs.Choice.{asked_level, asked_span, asked_most, asked_edges, over_by, found_by, question_of, filled_with, firsts, SearchInvariant, Widest, Finds}
use Rattle.pick_search.specs.Search.{Takable, Takes, Findable, Overlaps}
use Rattle.pick_search.specs.CompletedLaws.{not_completed, is_completed}
use Rattle.pick_search.specs.InvariantLaws.{invariant_next, filled_level, filled_maximum}

-- ---- the levels that are completed
-- a search completes only above level 0
edges_deeper : (n k : ℕ) → asked_edges n k ≡ true → n ≡ 0 → ⊥
unfolding asked_edges
edges_deeper n k e = eqb-false n 0 (neither_left (eqb n 0) (eqb k 4) e)

-- a level above 0 of a well-formed store stands in line
pub deeper_line : (s : Store) (n : ℕ) → well_store s ≡ true → (n ≡ 0 → ⊥) → Line (level (state_of s) n)
deeper_line s zero h z = absurd (z refl)
deeper_line s (suc n) h z = level_line full (state_of s) n ((formed_says full (state_of s)).0 ((store.well_says s).0 h).formed)

-- ---- the places of a search
module _ (s : Store) (c : Choice) (k : ℕ) where
  -- its level
  abbrev n : ℕ
  n = asked_level c.level k

  -- its range
  abbrev r : Range
  r = span_of (asked_span c k)

  -- its question
  abbrev a : Question
  a = question_of c k s.counts

  -- its places start with the level
  from_level : n < level_count → a.from ≡ start_at s n
  unfolding question_of
  from_level l = rw (lt-ltb n level_count l)

  -- they end with the level
  to_level_lem : n < level_count → a.to ≡ end_at s n
  unfolding question_of
  to_level_lem l = rw (lt-ltb n level_count l)

  -- its limit is the pick's
  most : a.most ≡ asked_most c k
  unfolding question_of
  most = refl

  -- past the last level it starts at 0
  from_past : level_count ≤ n → a.from ≡ 0
  unfolding question_of
  from_past l = rw (le-ltb n level_count l)

  -- its places are within the room
  pub asked_ends : sum s.counts ≤ max_files → a.to ≤ max_files
  unfolding question_of
  asked_ends h = go (ltb n level_count) refl
    where
      go : (t : Bool) → ltb n level_count ≡ t → a.to ≤ max_files
      go true t = rw t (omega (arith, level_ends s n))
      go false t = rw t (omega (arith, level_ends s n))

  module _ (p : length s.counts ≡ level_count) where
    -- past the last level it has no places
    to_past : level_count ≤ n → a.to ≡ 0
    unfolding question_of
    to_past l = let none : get_or s.counts n 0 ≡ 0 = get_or-eq_default s.counts 0 (omega arith) in rw (le-ltb n level_count l) (omega arith)

    -- past the last level there are no files
    level_past : level_count ≤ n → level (state_of s) n ≡ []
    unfolding level state_of levels_of
    level_past l =
        get_or-eq_default (levels_of s.files s.counts) [] (omega (arith, length-map (parts s.files s.counts) (map file_of), length_parts s.files s.counts))

    -- its files are the level's
    is_level : n < level_count → run a.from a.to s.files ≡ level (state_of s) n
    is_level l = rw (from_level l, to_level_lem l) (sym (level_run_lem s n (omega arith)))

    -- also past the last level, where there are none
    is_all : run a.from a.to s.files ≡ level (state_of s) n
    is_all = go (ltb n level_count) refl
      where
        go : (t : Bool) → ltb n level_count ≡ t → run a.from a.to s.files ≡ level (state_of s) n
        go true t = is_level (ltb-true n level_count t)
        go false t =
            let l = ltb-false n level_count t in
            let ends = to_past l in
            run_ended a.from a.to s.files (omega arith) ∙ sym (level_past l)

    -- files found in its places are files of the level, or none past the last
    asked_known : (f : FoundRun) → Gathered s.files a.from a.to f → Known s n f
    unfolding inputs_of
    asked_known f g = go (ltb n level_count) refl
      where
        go : (t : Bool) → ltb n level_count ≡ t → Known s n f
        go true t = let l = ltb-true n level_count t in level_known s n f (rw (from_level l, to_level_lem l) at g)
        go false t =
            let l = ltb-false n level_count t in
            let ends = to_past l in
            let fits = g.fits in
            record { held = record { few = omega arith; below = omega arith }; sums = g.sums }

    -- at level 0 its range is the least widening, deeper the range itself
    wide_level : n < level_count → (w : Range) → Widest a s.files w → ((n ≡ 0) × (w ≡ widen (level (state_of s) n) r)) ⊎ ((n ≡ 0 → ⊥) × (w ≡ r))
    unfolding question_of
    wide_level l w =
        ⊎_elim (λ x. inl (eqb-true n 0 x.0, x.1 ∙ ap (λ (fs : List File). widen fs r) (is_level l))) (λ x. inr (eqb-false n 0 x.0, x.1))

    module _ (h : well_store s ≡ true) (q : length s.files ≡ max_files) (w : Range) (v : Widest a s.files w) where
      -- the files that overlap stand side by side
      asked_contiguous : Contiguous s.files a.from a.to w
      asked_contiguous = go (ltb n level_count) refl
        where
          go : (t : Bool) → ltb n level_count ≡ t → Contiguous s.files a.from a.to w
          go true t =
              let l = ltb-true n level_count t in
              let to : Range → Type 0 = λ r. Contiguous s.files (start_at s n) (end_at s n) r in
              rw (from_level l, to_level_lem l)
              (⊎_elim (λ x. subst to (sym x.1) (contiguous_widened s n h l q p r)) (λ x. subst to (sym x.1) (contiguous_deeper s n h l q p x.0 r)) (wide_level l w v))
          go false t =
              let l = ltb-false n level_count t in
              let none = total_ended 0 0 s.files (omega arith) in
              rw (from_past l, to_past l)
              record { within = omega arith; room = omega arith; small = omega arith; none_before = λ i j x y z. absurd (omega arith); all_after = λ i j x y z. absurd (omega arith) }

      -- the files found are the overlapping files of the level, up to the limit
      asked_found : (f : FoundRun) → Finds a s.files w f → Known s n f × (inputs_of s f ≡ up_to (asked_most c k) 0 (overlapping n (level (state_of s) n) r))
      unfolding inputs_of keep
      asked_found f g =
          (asked_known f g.0, g.1 ∙ ap (λ (gs : List File). up_to a.most 0 (keep (overlaps w) gs)) is_all ∙ rw most (ap (up_to (asked_most c k) 0) (over (ltb n level_count) refl)))
        where
          over : (t : Bool) → ltb n level_count ≡ t → keep (overlaps w) (level (state_of s) n) ≡ overlapping n (level (state_of s) n) r
          over true t =
              let l = ltb-true n level_count t in
              let fs = level (state_of s) n in
              ⊎_elim (λ x. overlapping_first n fs r w x.0 x.1) (λ x. ap (λ (x : Range). keep (overlaps x) fs) x.1 ∙ overlapping_deeper n fs r x.0) (wide_level l w v)
          over false t =
              let l = ltb-false n level_count t in
              let none = level_past l in
              ap (keep (overlaps w)) none ∙ sym (ap (keep (overlaps r)) none) ∙ overlapping_deeper n (level (state_of s) n) r (λ z. omega arith)

    module _ (h : well_store s ≡ true) (q : length s.files ≡ max_files) where
      -- its places are within the room, and the files that overlap stand side by side
      pub asked_findable : Findable s.files a
      asked_findable = record { room = asked_ends (files_room s n h); side = λ w v. asked_contiguous h q w v }

      -- its places hold records
      asked_size : a.to ≤ length s.files
      asked_size = omega (arith, asked_ends (files_room s n h))

      module _ (f : FoundRun) (o : Overlaps s.files a f) where
        -- the files found are those of the level that overlap, up to the limit
        pub asked_overlap : Known s n f × (inputs_of s f ≡ over_by s c k)
        asked_overlap = asked_found h q o.wide o.widest f o.finds

        -- files can be taken after them
        pub asked_takable : Takable s.files a.to f
        asked_takable =
            let found = o.finds.0 in
            let starts = found.starts in
            let fits = found.fits in
            let small = (asked_contiguous h q o.wide o.widest).small in
            let next = f.from + f.count in
            let left = ap total (run_parts s.files a.from a.to asked_size f.from starts (omega arith)) ∙ total_joined (run a.from f.from s.files) (run f.from a.to s.files) in
            let right = ap total (run_parts s.files f.from a.to asked_size next (omega arith) fits) ∙ total_joined (run f.from next s.files) (run next a.to s.files) in
            record { fits = fits; room = asked_ends (files_room s n h); sums = found.sums; small = omega (arith, found.sums.bytes_are) }

        module _ (l : FoundRun) (g : Takes s.files a true f l) where
          -- if the search does not complete, they stay as they are
          asked_kept : asked_edges n k ≡ false → inputs_of s l ≡ inputs_of s f
          unfolding question_of inputs_of
          asked_kept e = not_completed s.files a.from a f l asked_size o.finds.0.starts o.finds.0.fits g e

          -- if it does, they are completed in the level
          asked_closed : asked_edges n k ≡ true → inputs_of s l ≡ completed (level (state_of s) n) (inputs_of s f)
          unfolding question_of inputs_of
          asked_closed e =
              let line = subst Line (sym is_all) (deeper_line s n h (edges_deeper n k e)) in
              is_completed s.files a.from a f l asked_size o.finds.0.starts o.finds.0.fits g e line ∙ ap (λ (fs : List File). completed fs (inputs_of s f)) is_all

        -- the same completed, if the search completes
        pub asked_completed : (l : FoundRun) → Takes s.files a true f l → Known s n l × (inputs_of s l ≡ found_by s c k)
        asked_completed l g =
            let starts = g.starts in
            let least = o.finds.0.starts in
            (asked_known l record { starts = omega arith; fits = g.fits; sums = g.sums }, go (asked_edges n k) refl)
          where
            go : (t : Bool) → asked_edges n k ≡ t → inputs_of s l ≡ cond t (completed (level (state_of s) n) (over_by s c k)) (over_by s c k)
            go true e = asked_closed l g e ∙ ap (completed (level (state_of s) n)) asked_overlap.1
            go false e = asked_kept l g e ∙ asked_overlap.1

-- ---- from one search to the next
-- a store with these files, counts, pointers and counters
abbrev pub store_with : List FileRecord → List ℕ → List Pointer → Counters → Store
store_with files counts ps t = record { files = files; counts = counts; pointers = ps; counters = t }

-- the pick started at c and has reached its k-th search at d. In any well-formed store with these files the invariant holds at d if it held at c
pub record Goes (files : List FileRecord) (counts : List ℕ) (start : ℕ) (c : Choice) (k : ℕ) (d : Choice) : Type 0 where
  pub order : k ≤ 5
  pub level : d.level ≡ c.level
  pub maximum : d.maximum ≡ c.maximum
  pub stands : (ps : List Pointer) (t : Counters) → well_store (store_with files counts ps t) ≡ true
      → SearchInvariant (store_with files counts ps t) (firsts (store_with files counts ps t) start c) start c
      → SearchInvariant (store_with files counts ps t) (firsts (store_with files counts ps t) start c) k d

-- the k-th search takes the pick to the next
pub goes_next : (files : List FileRecord) (counts : List ℕ) (start : ℕ) (c : Choice) (k : ℕ) (d : Choice) → length files ≡ max_files → length counts ≡ level_count → c.level < level_count
    → Goes files counts start c k d → k < 5 → (f : FoundRun) → Overlaps files (question_of d k counts) f → (l : FoundRun) → Takes files (question_of d k counts) true f l
    → (e : Choice) → e ≡ filled_with d k l → Goes files counts start c (k + 1) e
goes_next files counts start c k d q p few g h f o l b e is =
    let same = g.level in
    rw is
    record {
      order = omega arith;
      level = filled_level d k l ∙ g.level;
      maximum = filled_maximum d k l ∙ g.maximum;
      stands = λ ps t well z.
          let s = store_with files counts ps t in
          let found = asked_completed s d k p well q f o l b in
          invariant_next s well q p (firsts s start c) k d h (omega arith) (g.stands ps t well z) l found.0 found.1;
    }
