-- Laws of a search for the files that overlap a range. In every level of a well-formed store they stand side by side. The search passes the files that end before
-- the range by halves, then takes files up to the first that begins after it. Assumes nothing.
use Rattle.std.specs.Prelude.{ℕ, zero, suc, ◌+◌, ◌-◌, ◌^◌, ◌≤◌, ◌<◌, ◌≡◌, Bool, cond, ◌&&◌, ◌⊎◌, ltb, length, get_or}
use Rattle.std.proofs.Math.Path.{refl, sym, ap}
use Rattle.std.proofs.Common.{subst, ◌∙◌, inl, inr, le-ltb}
use Rattle.std.proofs.Math.Bool.{true, false, not}
use mathlib.Core.List.Memᴰ.{tail as there}
use mathlib.Core.List.{List, [], ◌∷◌, ◌++◌, map, map-append, Memᴰ as In}
use native.Mathlib.Omega.{arith}
use Rattle.std.proofs.lemmas.Bool.{not-true}
use Rattle.std.proofs.Math.Seq.{slice}
use Rattle.lemmas.specs.Lists.{chain, keep, push, sum, find, take_on}
use Rattle.lemmas.specs.ListLaws.{chain_rest, chain_first, get_or_in, keep_append, sub_all}
use Rattle.lemmas.specs.Loops.{compare, keep_later}
use Rattle.lemmas.specs.Slices.{run_join, length_view, at_view}
use Rattle.lemmas.specs.Order.{clash, asym, lt_le, le_lt}
use Rattle.model.specs.File.{File, full, level, total, by_smallest, in_order, apart, level_count, max_bytes, max_files}
use Rattle.model.proofs.Formed.{good_file_order, levels_sorted}
use Rattle.model.specs.Key.{user, user_before, before}
use Rattle.model.specs.KeyLaws.{before_order, user_before_order, before_user}
use Rattle.model.specs.Pick.{up_to}
use Rattle.model.proofs.PickedLaws.{GoodLevel}
use Rattle.model.specs.Range.{Range, overlaps, inside, widen, low_key, high_key}
use Rattle.model.proofs.RangeLaws.{overlaps_says, inside_says, widen_least}
use Rattle.keys.specs.KeyLaws.{key_of_record}
use Rattle.records.specs.Record.{file_of, past}
use Rattle.records.specs.RecordLaws.{run_turn, run_ended}
use Rattle.records.specs.Run.{run}
use Rattle.records.specs.declared.FileRecord.{FileRecord}
use Rattle.store.specs.declared.Store.{Store}
use Rattle.store.specs.Store.{state_of, well_store}
use Rattle.pick_found.specs.CallsLaws.{level_run_lem, level_ends, files_room}
use Rattle.pick_found.specs.FoundRun.{start_at, end_at, file_at, none_at, Summed, ends_before, begins_after, Contiguous, reached, Passed}
use Rattle.pick_found.specs.FoundLaws.{level_part, total_joined}

-- ---- places and lists
-- if neighbours stand in r, which is transitive through good items, so do any two items
pair : {A : Type 0} (r : A → A → Bool) (Good : A → Type 0) → ((f g h : A) → Good g → r f g ≡ true → r g h ≡ true → r f h ≡ true)
    → (xs : List A) → ((f : A) → In f xs → Good f) → chain r xs ≡ true → (i j : ℕ) (d : A) → i < j → j < length xs → r (get_or xs i d) (get_or xs j d) ≡ true
pair r Good through [] g c i j d h k = absurd (omega arith)
pair r Good through (x ∷ xs) g c zero zero d h k = absurd (omega arith)
pair r Good through (x ∷ xs) g c zero (suc j) d h k = chain_first r Good through x (get_or xs j d) xs (λ f m. g f (there m)) c (get_or_in xs j d (omega arith))
pair r Good through (x ∷ xs) g c (suc i) zero d h k = absurd (omega arith)
pair r Good through (x ∷ xs) g c (suc i) (suc j) d h k = pair r Good through xs (λ f m. g f (there m)) (chain_rest r x xs c) i j d (omega arith) (omega arith)

module _ (files : List FileRecord) (from to : ℕ) where
  module _ (q : to ≤ length files) where
    -- the file at a place of a run
    run_at : (i : ℕ) → from ≤ i → i < to → get_or (run from to files) (i - from) (file_of past) ≡ file_at files i
    unfolding run file_at
    run_at i h k =
        let e : from + (i - from) ≡ i = omega arith in
        at_view file_of from to files (i - from) past (file_of past) (omega arith) q ∙ ap (λ (j : ℕ). file_of (get_or files j past)) e

    -- there are as many files as places
    pub run_length : length (run from to files) ≡ to - from
    unfolding run
    run_length = length_view file_of from to files q

    -- it is one of the run
    run_in : (i : ℕ) → from ≤ i → i < to → In (file_at files i) (run from to files)
    run_in i h k = subst (λ (f : File). In f (run from to files)) (run_at i h k) (get_or_in (run from to files) (i - from) (file_of past) (omega (arith, run_length)))

    -- if neighbours of a run stand in r, so do any two files
    run_pair : (r : File → File → Bool) (Good : File → Type 0) → ((f g h : File) → Good g → r f g ≡ true → r g h ≡ true → r f h ≡ true)
        → ((f : File) → In f (run from to files) → Good f) → chain r (run from to files) ≡ true
        → (i j : ℕ) → from ≤ i → i < j → j < to → r (file_at files i) (file_at files j) ≡ true
    run_pair r Good through g c i j h k l =
        let two = pair r Good through (run from to files) g c (i - from) (j - from) (file_of past) (omega arith) (omega (arith, run_length)) in
        subst (λ (f : File). r f (file_at files j) ≡ true) (run_at i h (omega arith)) (subst (λ (f : File). r (get_or (run from to files) (i - from) (file_of past)) f ≡ true) (run_at j (omega arith) l) two)

    -- a run in two parts
    pub run_parts : (m : ℕ) → from ≤ m → m ≤ to → run from to files ≡ run from m files ++ run m to files
    unfolding run
    run_parts m h k = ap (λ (rs : List FileRecord). map file_of rs) (run_join from m to files h k q) ∙ map-append file_of (slice from m files) (slice m to files)

-- if no file of a run passes, none is kept
none_kept : (p : File → Bool) (files : List FileRecord) (n i e : ℕ) → i + n ≡ e → e ≤ length files → ((j : ℕ) → i ≤ j → j < e → p (file_at files j) ≡ false) → keep p (run i e files) ≡ []
unfolding keep file_at
none_kept p files zero i e s q h = ap (keep p) (run_ended i e files (omega arith))
none_kept p files (suc n) i e s q h =
    keep_later p (run i e files) (run (i + 1) e files) (file_of (get_or files i past)) (run_turn i e files (omega arith) q) (h i (omega arith) (omega arith))
    ∙ none_kept p files n (i + 1) e (omega arith) q (λ j k l. h j (omega arith) l)

-- tests that agree on the files of a run keep the same files
kept_same : (p o : File → Bool) (files : List FileRecord) (n i e : ℕ) → i + n ≡ e → e ≤ length files → ((j : ℕ) → i ≤ j → j < e → p (file_at files j) ≡ o (file_at files j))
    → keep p (run i e files) ≡ keep o (run i e files)
unfolding keep file_at
kept_same p o files zero i e s q h = rw (run_ended i e files (omega arith))
kept_same p o files (suc n) i e s q h =
    rw (run_turn i e files (omega arith) q, h i (omega arith) (omega arith), kept_same p o files n (i + 1) e (omega arith) q (λ j k l. h j (omega arith) l))

-- a run with one file more
pub run_more : (files : List FileRecord) (from i : ℕ) → from ≤ i → i < length files → run from (i + 1) files ≡ run from i files ++ (file_at files i ∷ [])
unfolding file_at
run_more files from i h k =
    run_parts files from (i + 1) (omega arith) i h (omega arith)
    ∙ ap (λ (fs : List File). run from i files ++ fs) (run_turn i (i + 1) files (omega arith) (omega arith) ∙ ap (λ (fs : List File). file_of (get_or files i past) ∷ fs) (run_ended (i + 1) (i + 1) files (omega arith)))

module _ (r : Range) where
  -- a file that ends before the range does not overlap
  ends_apart : (f : File) → ends_before r f ≡ true → overlaps r f ≡ false
  unfolding overlaps ends_before
  ends_apart f h = rw h

  -- a file that begins after it does not overlap
  begins_apart : (f : File) → begins_after r f ≡ true → overlaps r f ≡ false
  unfolding overlaps begins_after
  begins_apart f h = rw h (go (not (user_before (user f.largest) r.start)))
    where
      go : (b : Bool) → (b && false) ≡ false
      go true = refl
      go false = refl

  -- a file that does neither overlaps
  neither_overlaps : (f : File) → ends_before r f ≡ false → begins_after r f ≡ false → overlaps r f ≡ true
  unfolding overlaps ends_before begins_after
  neither_overlaps f a b = rw (a, b)

  -- so a file that does not end before the range overlaps exactly if it does not begin after it
  reached_overlaps : (f : File) → (begins_after r f ≡ false → ends_before r f ≡ false) → overlaps r f ≡ reached r.stop f
  unfolding begins_after
  reached_overlaps f n = go (begins_after r f) refl
    where
      go : (t : Bool) → begins_after r f ≡ t → overlaps r f ≡ reached r.stop f
      go true e = begins_apart f e ∙ sym (rw e)
      go false e = neither_overlaps f (n e) e ∙ sym (rw e)

-- ---- a level of a well-formed store
-- the file's largest key is not before its smallest
abbrev Sound : File → Type 0
Sound f = before f.largest f.smallest ≡ false

-- above level 0 each file ends strictly before the next begins
deeper : (n : ℕ) (fs : List File) → (n ≡ 0 → ⊥) → in_order n fs ≡ true → apart fs ≡ true
unfolding in_order
deeper zero fs z o = absurd (z refl)
deeper (suc n) fs z o = o

module _ (s : Store) (n : ℕ) (h : well_store s ≡ true) (k : n < level_count) (q : length s.files ≡ max_files) (c : length s.counts ≡ level_count) where
  -- the place where it starts
  abbrev from : ℕ
  from = start_at s n

  -- the place where it ends
  abbrev to : ℕ
  to = end_at s n

  -- its places are within the room
  fits : to ≤ max_files
  fits = omega (arith, level_ends s n, files_room s n h)

  -- its files are the run of its places
  is_run : level (state_of s) n ≡ run from to s.files
  is_run = level_run_lem s n (omega arith)

  -- they are a well-formed level, with no more bytes than a full version
  parts : GoodLevel full n (level (state_of s) n) × (total (level (state_of s) n) ≤ max_bytes)
  parts = level_part s n h k (level (state_of s) n) (sub_all (level (state_of s) n))

  -- none of them ends before it begins
  sound : (f : File) → In f (level (state_of s) n) → Sound f
  sound f m = good_file_order full f (parts.0.good f m)

  -- the same for the run
  sound_run : (f : File) → In f (run from to s.files) → Sound f
  sound_run f m = sound f (subst (λ (fs : List File). In f fs) (sym is_run) m)

  module _ (i j : ℕ) (a : from ≤ i) (b : i < j) (e : j < to) where
    -- the earlier of two files
    abbrev first : File
    first = file_at s.files i

    -- the later of two files
    abbrev second : File
    second = file_at s.files j

    -- the later does not end before it begins
    second_sound : Sound second
    second_sound = sound_run second (run_in s.files from to (omega (arith, fits)) j (omega arith) e)

    -- it does not begin before the earlier
    rises : user_before (user second.smallest) (user first.smallest) ≡ false
    unfolding by_smallest
    rises =
        let order = levels_sorted n (level (state_of s) n) sound parts.0.ordered in
        let two = run_pair s.files from to (omega (arith, fits)) (λ f g. not (before g.smallest f.smallest)) Sound
        (λ f g h i x y. rw (before_order.ntrans h.smallest g.smallest f.smallest (not-true (before h.smallest g.smallest) y) (not-true (before g.smallest f.smallest) x)))
        sound_run (subst (λ (fs : List File). chain (λ f g. not (before g.smallest f.smallest)) fs ≡ true) is_run order) i j a b e in
        before_user first.smallest second.smallest (not-true (before second.smallest first.smallest) two)

    -- so it begins after a range if the earlier does
    follows : (r : Range) → begins_after r first ≡ true → begins_after r second ≡ true
    unfolding begins_after
    follows r x = lt_le user_before user_before_order r.stop (user first.smallest) (user second.smallest) x rises

    -- if the earlier lies inside a range, the later does not end before it
    inside_stays : (r : Range) → inside r first ≡ true → ends_before r second ≡ false
    unfolding ends_before
    inside_stays r x =
        let own = before_user second.smallest second.largest second_sound in
        let begins = user_before_order.ntrans (user second.largest) (user second.smallest) (user first.smallest) own rises in
        user_before_order.ntrans (user second.largest) (user first.smallest) r.start begins ((inside_says r first).0 x).left

    -- above level 0, if the earlier overlaps a range, the later does not end before it
    deeper_stays : (n ≡ 0 → ⊥) → (r : Range) → overlaps r first ≡ true → ends_before r second ≡ false
    unfolding ends_before
    deeper_stays z r x =
        let order = deeper n (level (state_of s) n) z parts.0.ordered in
        let two = run_pair s.files from to (omega (arith, fits)) (λ f g. before f.largest g.smallest) Sound
        (λ f g h i x y. before_order.trans f.largest g.smallest h.smallest x (le_lt before before_order g.smallest g.largest h.smallest i y))
        sound_run (subst (λ (fs : List File). apart fs ≡ true) is_run order) i j a b e in
        let ends = asym before before_order first.largest second.largest (lt_le before before_order first.largest second.smallest second.largest two second_sound) in
        user_before_order.ntrans (user second.largest) (user first.largest) r.start (before_user first.largest second.largest ends) ((overlaps_says r first).0 x).left

  -- above level 0 the files that overlap a range stand side by side
  pub contiguous_deeper : (n ≡ 0 → ⊥) → (r : Range) → Contiguous s.files from to r
  contiguous_deeper z r = record {
    within = omega arith;
    room = fits;
    small = subst (λ (fs : List File). total fs ≤ max_bytes) is_run parts.1;
    none_before = λ i j a b e. deeper_stays i j a b e z r;
    all_after = λ i j a b e. follows i j a b e r;
  }

  -- at any level the files that overlap the least widening of a range stand side by side
  pub contiguous_widened : (r : Range) → Contiguous s.files from to (widen (level (state_of s) n) r)
  contiguous_widened r =
      let fs = level (state_of s) n in
      let w = widen fs r in
      record {
        within = omega arith;
        room = fits;
        small = subst (λ (gs : List File). total gs ≤ max_bytes) is_run parts.1;
        none_before = λ i j a b e o. inside_stays i j a b e w (closed i a (omega arith) o);
        all_after = λ i j a b e. follows i j a b e w;
      }
    where
      closed : (i : ℕ) → from ≤ i → i < to → overlaps (widen (level (state_of s) n) r) (file_at s.files i) ≡ true → inside (widen (level (state_of s) n) r) (file_at s.files i) ≡ true
      closed i a b = (widen_least (level (state_of s) n) r).closed (file_at s.files i) (subst (λ (gs : List File). In (file_at s.files i) gs) (sym is_run) (run_in s.files from to (omega (arith, fits)) i a b))

-- ---- passing the files that end before the range, by halves
-- a search among the places from lo up to hi: no file before lo overlaps, and the file at hi does not end before the range
pub record Halving (files : List FileRecord) (from to : ℕ) (r : Range) (lo hi : ℕ) : Type 0 where
  pub least : from ≤ lo
  pub order : lo ≤ hi
  pub most : hi ≤ to
  passed : keep (overlaps r) (run from lo files) ≡ []
  stays : hi < to → ends_before r (file_at files hi) ≡ false

module _ (files : List FileRecord) (from to : ℕ) (r : Range) (s : Contiguous files from to r) (q : length files ≡ max_files) where
  -- at first the search is among all places
  pub halving_start : Halving files from to r from to
  unfolding keep
  halving_start = record {
    least = omega arith;
    order = s.within;
    most = omega arith;
    passed = ap (keep (overlaps r)) (run_ended from from files (omega arith));
    stays = λ h. absurd (omega arith);
  }

  module _ (lo hi m : ℕ) (g : Halving files from to r lo hi) (h : lo ≤ m) (k : m < hi) where
    -- no file overlaps before one that ends before the range
    before_none : ends_before r (file_at files m) ≡ true → (j : ℕ) → from ≤ j → j < m → overlaps r (file_at files j) ≡ false
    before_none e j a b = go (overlaps r (file_at files j)) refl
      where
        go : (t : Bool) → overlaps r (file_at files j) ≡ t → overlaps r (file_at files j) ≡ false
        go true o = let most = g.most in clash e (s.none_before j m a b (omega arith) o)
        go false o = o

    -- the file at m ends before the range: on past it
    pub halving_up : ends_before r (file_at files m) ≡ true → Halving files from to r (m + 1) hi
    halving_up e =
        let least = g.least in
        let most = g.most in
        let room = s.room in
        record {
          least = omega arith;
          order = omega arith;
          most = most;
          passed = none_kept (overlaps r) files (m + 1 - from) from (m + 1) (omega arith) (omega arith) (λ j a b. none j a b (compare j m));
          stays = g.stays;
        }
      where
        none : (j : ℕ) → from ≤ j → j < m + 1 → (j ≡ m) ⊎ ((j < m) ⊎ (m < j)) → overlaps r (file_at files j) ≡ false
        none j a b (inl x) = rw x (ends_apart r (file_at files m) e)
        none j a b (inr (inl x)) = before_none e j a x
        none j a b (inr (inr x)) = absurd (omega arith)

    -- it does not: up to it
    pub halving_down : ends_before r (file_at files m) ≡ false → Halving files from to r lo m
    halving_down e =
        let most = g.most in
        record { least = g.least; order = h; most = omega arith; passed = g.passed; stays = λ x. e }

  -- when lo and hi meet, the files that end before the range have been passed
  pub halving_end : (lo hi : ℕ) → Halving files from to r lo hi → hi ≤ lo → Passed files from to r lo
  halving_end lo hi g h =
      let order = g.order in
      let last = g.most in
      let least = g.least in
      let room = s.room in
      let e : hi ≡ lo = omega arith in
      let stays : lo < to → ends_before r (file_at files lo) ≡ false = λ k. subst (λ (j : ℕ). ends_before r (file_at files j) ≡ false) e (g.stays (omega arith)) in
      record {
        least = least;
        most = omega arith;
        kept = ap (keep (overlaps r)) (run_parts files from to (omega arith) lo least (omega arith)) ∙ keep_append (overlaps r) (run from lo files) (run lo to files)
            ∙ ap (λ (fs : List File). fs ++ keep (overlaps r) (run lo to files)) g.passed
            ∙ kept_same (overlaps r) (reached r.stop) files (to - lo) lo to (omega arith) (omega arith) (λ j a b. same least stays j a b (compare lo j));
      }
    where
      same : from ≤ lo → (lo < to → ends_before r (file_at files lo) ≡ false) → (j : ℕ) → lo ≤ j → j < to → (lo ≡ j) ⊎ ((lo < j) ⊎ (j < lo)) → overlaps r (file_at files j) ≡ reached r.stop (file_at files j)
      same least stays j a b (inl e) = reached_overlaps r (file_at files j) (λ n. subst (λ (k : ℕ). ends_before r (file_at files k) ≡ false) e (stays (omega arith)))
      same least stays j a b (inr (inl e)) = reached_overlaps r (file_at files j) (λ n. go n (begins_after r (file_at files lo)) refl)
        where
          go : begins_after r (file_at files j) ≡ false → (t : Bool) → begins_after r (file_at files lo) ≡ t → ends_before r (file_at files j) ≡ false
          go n true x = clash (s.all_after lo j least e b x) n
          go n false x = s.none_before lo j least e b (neither_overlaps r (file_at files lo) (stays (omega arith)) x)
      same least stays j a b (inr (inr e)) = absurd (omega arith)

-- ---- taking files one after another up to the first that begins after the range
-- one file more is taken: the bytes so far are not above the limit, and it does not begin after the range
abbrev pub takes_by : ℕ → List ℕ → List File → File → Bool
takes_by most stop xs f = not (ltb most (total xs)) && reached stop f

-- the files taken of the rest, with t bytes so far: none if t is above the limit
rest_to : ℕ → ℕ → List File → List File
rest_to m t fs = cond (ltb m t) [] (up_to m t fs)

-- the next file is taken, then the rest
up_next : (m t : ℕ) (f : File) (fs : List File) → up_to m t (f ∷ fs) ≡ f ∷ rest_to m (t + f.size) fs
unfolding up_to rest_to
up_next m t f fs = refl

-- above the limit none is taken
rest_above : (m t : ℕ) (fs : List File) → ltb m t ≡ true → rest_to m t fs ≡ []
unfolding rest_to
rest_above m t fs h = rw h

-- up to the limit, what `up_to` takes
rest_below : (m t : ℕ) (fs : List File) → ltb m t ≡ false → rest_to m t fs ≡ up_to m t fs
unfolding rest_to
rest_below m t fs h = rw h

-- of no files none is taken
rest_none : (m t : ℕ) → rest_to m t [] ≡ []
unfolding rest_to up_to
rest_none m t = go (ltb m t)
  where
    go : (b : Bool) → ◌≡◌ {A = List File} (cond b [] []) []
    go true = refl
    go false = refl

-- the bytes with one file more
total_more : (xs : List File) (f : File) → total (xs ++ (f ∷ [])) ≡ total xs + f.size
unfolding total sum
total_more xs f = let one : total (f ∷ []) ≡ f.size = omega arith in total_joined xs (f ∷ []) ∙ ap (λ (n : ℕ). total xs + n) one

-- one file more: if it begins after the range, so do all files after it
taken_step : (most : ℕ) (r : Range) (f : File) (fs : List File) → (begins_after r f ≡ true → keep (reached r.stop) fs ≡ [])
    → ((xs : List File) → take_on (takes_by most r.stop) xs fs ≡ rest_to most (total xs) (keep (reached r.stop) fs))
    → (xs : List File) → take_on (takes_by most r.stop) xs (f ∷ fs) ≡ rest_to most (total xs) (keep (reached r.stop) (f ∷ fs))
unfolding take_on keep push begins_after
taken_step most r f fs h ih xs = go (ltb most (total xs)) (begins_after r f) refl refl
  where
    go : (u v : Bool) → ltb most (total xs) ≡ u → begins_after r f ≡ v
        → cond (not u && not v) (f ∷ take_on (takes_by most r.stop) (xs ++ (f ∷ [])) fs) [] ≡ rest_to most (total xs) (push (not v) f (keep (reached r.stop) fs))
    go true v e b = sym (rest_above most (total xs) (push (not v) f (keep (reached r.stop) fs)) e)
    go false true e b = sym (ap (rest_to most (total xs)) (h b) ∙ rest_none most (total xs))
    go false false e b =
        ap (λ (gs : List File). f ∷ gs) (ih (xs ++ (f ∷ [])) ∙ ap (λ (n : ℕ). rest_to most n (keep (reached r.stop) fs)) (total_more xs f))
        ∙ sym (up_next most (total xs) f (keep (reached r.stop) fs)) ∙ sym (rest_below most (total xs) (f ∷ keep (reached r.stop) fs) e)

-- where all files after one that begins after the range do so too, those taken after xs are the others, up to the limit
taken_rest : (most : ℕ) (r : Range) (files : List FileRecord) (n i e : ℕ) → i + n ≡ e → e ≤ length files
    → ((j k : ℕ) → i ≤ j → j < k → k < e → begins_after r (file_at files j) ≡ true → begins_after r (file_at files k) ≡ true)
    → (xs : List File) → take_on (takes_by most r.stop) xs (run i e files) ≡ rest_to most (total xs) (keep (reached r.stop) (run i e files))
unfolding take_on keep begins_after file_at
taken_rest most r files zero i e s q h xs = rw (run_ended i e files (omega arith)) (sym (rest_none most (total xs)))
taken_rest most r files (suc n) i e s q h xs =
    rw (run_turn i e files (omega arith) q)
    (taken_step most r (file_at files i) (run (i + 1) e files)
    (λ b. none_kept (reached r.stop) files n (i + 1) e (omega arith) q (λ j k l. rw (h i j (omega arith) (omega arith) l b)))
    (taken_rest most r files n (i + 1) e (omega arith) q (λ j k a. h j k (omega arith))) xs)

-- the ends and bytes of no files
pub none_summed : (i : ℕ) → Summed [] (none_at i).ends (none_at i).bytes
unfolding none_at low_key high_key find total sum
none_summed i = record { low = key_of_record [] (omega arith); high = key_of_record [] (omega arith); bytes_are = refl }

-- from the place on that a search by halves has reached
module _ (files : List FileRecord) (from to : ℕ) (r : Range) (s : Contiguous files from to r) (q : length files ≡ max_files) (lo : ℕ) (p : Passed files from to r lo) where
  -- the files taken one after another are those that overlap, up to the limit
  pub taken_overlap : (most : ℕ) → take_on (takes_by most r.stop) [] (run lo to files) ≡ up_to most 0 (keep (overlaps r) (run from to files))
  unfolding total sum
  taken_overlap most =
      let least = p.least in
      let last = p.most in
      let room = s.room in
      taken_rest most r files (to - lo) lo to (omega arith) (omega arith) (λ j k a. s.all_after j k (omega arith)) []
      ∙ rest_below most 0 (keep (reached r.stop) (run lo to files)) (le-ltb most 0 (omega arith)) ∙ ap (up_to most 0) (sym p.kept)

  -- the bytes of the files after it are bounded
  pub rest_small : total (run lo to files) ≤ max_bytes
  rest_small =
      let least = p.least in
      let last = p.most in
      let room = s.room in
      let small = s.small in
      let sizes : total (run from to files) ≡ total (run from lo files) + total (run lo to files) = ap total (run_parts files from to (omega arith) lo least (omega arith)) ∙ total_joined (run from lo files) (run lo to files) in
      omega arith
