-- Laws of one search over a lent store, and of all searches one after another. Assumes nothing.
use Rattle.std.specs.Prelude.{ℕ, ◌+◌, ◌≤◌, ◌<◌, ◌≡◌, refl, true, List}
use Rattle.std.proofs.Common.{sym, ap, subst, ◌∙◌, arith}
use Rattle.model.specs.File.{File, level, level_count, max_word}
use Rattle.model.specs.Range.{overlapping}
use Rattle.model.specs.Pick.{largest_maximum}
use Rattle.store.specs.declared.Store.{Store}
use Rattle.store.specs.Store.{state_of, well_store, StoreShape}
use Rattle.pick_range.specs.declared.Span.{Span}
use Rattle.pick_range.specs.Ranges.{span_of}
use Rattle.pick_found.specs.declared.FoundRun.{FoundRun}
use Rattle.pick_found.specs.FoundRun.{inputs_of}
use Rattle.pick_found.specs.FoundLaws.{all_taken}
use Rattle.pick_search.specs.declared.Choice.{Choice}
use Rattle.pick_search.specs.declared.Question.{Question}
use Rattle.pick_search.specs.Choice.{begun, asked_level, asked_span, asked_most, question_of, filled_with, firsts, SearchInvariant}
use Rattle.pick_search.specs.Search.{Takable, Takes, Findable, Overlaps, Weighed, Searched, Ready, Chooses}
use Rattle.pick_search.specs.InvariantLaws.{invariant_one}
use Rattle.pick_search.specs.AskedLaws.{asked_findable, asked_takable, asked_overlap, Goes, goes_next}

-- ---- one search, by its question
module _ (s : Store) (d : Choice) (k : ℕ) (shape : StoreShape s) (h : well_store s ≡ true) (q : Question) (e : q ≡ question_of d k s.counts) where
  -- its places are within the room, and the files that overlap stand side by side
  pub search_findable : Findable s.files q
  search_findable = subst (Findable s.files) (sym e) (asked_findable s d k shape.counts h shape.files)

  module _ (f : FoundRun) (o : Overlaps s.files q f) where
    -- the files found can be completed
    pub search_takable : Takable s.files q.to f
    search_takable =
        let over = subst (λ (x : Question). Overlaps s.files x f) e o in
        subst (λ (x : Question). Takable s.files x.to f) (sym e) (asked_takable s d k shape.counts h shape.files f over)

    -- the files found and completed are kept
    pub search_kept : (l : FoundRun) → Takes s.files q true f l → (r : Choice) → r ≡ filled_with d k l → Searched s d k r
    search_kept l g r is = record {
      found = f;
      list = l;
      overlaps = subst (λ (x : Question). Overlaps s.files x f) e o;
      completes = subst (λ (x : Question). Takes s.files x true f l) e g;
      kept = is;
    }

-- ---- the files that overlap a range, not completed
-- they are the first inputs of a choice with no other files
pub listed : (s : Store) → StoreShape s → well_store s ≡ true → (n : ℕ) → n < level_count → (r : Span) (c : Choice) → c ≡ begun n 0 r max_word → (q : Question) → q ≡ question_of c 0 s.counts
    → (f : FoundRun) → Overlaps s.files q f → (d : Choice) → d ≡ filled_with c 0 f → SearchInvariant s (overlapping n (level (state_of s) n) (span_of r)) 1 d
unfolding begun asked_level asked_most asked_span
listed s shape h n below r c is q e f o d kept =
    let b = begun n 0 r max_word in
    let same : q ≡ question_of b 0 s.counts = e ∙ ap (λ (x : Choice). question_of x 0 s.counts) is in
    let over = subst (λ (x : Question). Overlaps s.files x f) same o in
    let found = asked_overlap s b 0 shape.counts h shape.files f over in
    let all = all_taken s n h below (inputs_of s f) (span_of r) (span_of r) found.1 refl in
    let kept_is : d ≡ filled_with b 0 f = kept ∙ ap (λ (x : Choice). filled_with x 0 f) is in
    subst (SearchInvariant s (overlapping n (level (state_of s) n) (span_of r)) 1) (sym kept_is)
    (subst (λ (fs : List File). SearchInvariant s fs 1 (filled_with b 0 f)) all (invariant_one s n 0 max_word r f found.0))

-- ---- all searches
module _ (s : Store) (c : Choice) (start : ℕ) (z : Ready s c start) where
  -- at the start
  pub choose_starts : Goes s.files s.counts start c start c
  choose_starts = record { order = z.order; level = refl; maximum = refl; stands = λ ps t h y. y }

  module _ (k : ℕ) (d : Choice) (g : Goes s.files s.counts start c k d) where
    -- the invariant holds before the k-th search
    choose_stands : SearchInvariant s (firsts s start c) k d
    choose_stands = g.stands s.pointers s.counters z.well z.stands

    -- its level is one of the seven
    pub choose_level : d.level < level_count
    choose_level = subst (λ (n : ℕ). n < level_count) (sym g.level) z.level

    -- it has made at most five searches
    pub choose_search : k ≤ 5
    choose_search = g.order

    -- M and the bytes are within their bounds
    pub choose_weighed : Weighed d
    choose_weighed =
        record { maximum = subst (λ (n : ℕ). n ≤ largest_maximum) (sym g.maximum) z.maximum; grown = choose_stands.few_grown; second = choose_stands.few_second }

    -- the k-th search takes it to the next
    pub choose_goes : StoreShape s → k < 5 → (r : Choice) → Searched s d k r → Goes s.files s.counts start c (k + 1) r
    choose_goes y l r x = goes_next s.files s.counts start c k d y.files y.counts z.level g l x.found x.overlaps x.list x.completes r x.kept

    -- after the last search it has the result of all
    pub choose_ends : 5 ≤ k → Chooses s c start d
    choose_ends l =
        let order = g.order in
        let same : k ≡ 5 = omega arith in
        record { stands = subst (λ (n : ℕ). SearchInvariant s (firsts s start c) n d) same choose_stands; level = g.level; maximum = g.maximum }
