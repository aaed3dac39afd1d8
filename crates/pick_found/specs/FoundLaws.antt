-- Laws of files found: the ends of two lists joined, their bytes, and files found at a level of a well-formed store. Assumes nothing.
use Prim.Native.Nat.{ℕ, zero, suc, ◌+◌, ◌^◌, ◌≤◌, ◌<◌}
use Rattle.std.specs.Prelude.{◌≡◌, Bool, true, false, length}
use Rattle.std.proofs.Math.Path.{refl, ap}
use Rattle.std.proofs.Common.{sym, ◌∙◌, le-ltb}
use Rattle.std.proofs.Math.Bool.{cond}
use mathlib.Core.List.{List, [], ◌∷◌, ◌++◌, map, map-append, append-nil}
use native.Mathlib.Omega.{arith}
use Rattle.lemmas.specs.Lists.{keep, sum}
use Rattle.lemmas.specs.ListLaws.{Sub}
use Rattle.lemmas.specs.Slices.{sum_append, length_view}
use Rattle.lemmas.specs.Order.{StrictWeak, clash, lt_le, flip_order}
use Rattle.model.specs.File.{File, full, level, total, max_size, level_count, max_bytes, max_files, max_word}
use Rattle.model.proofs.Formed.{formed_says, good_file_says}
use Rattle.model.specs.Key.{Key, before}
use Rattle.model.specs.KeyLaws.{before_order}
use Rattle.model.specs.Pick.{up_to}
use Rattle.model.proofs.PickLaws.{overlapping_sub}
use Rattle.model.proofs.PickedLaws.{GoodLevel, good_level_says, part_good}
use Rattle.model.proofs.ScoreLaws.{total_most}
use Rattle.model.specs.Range.{Range, between, overlaps, widen, overlapping, low_key, high_key, range_of}
use Rattle.model.proofs.RangeLaws.{smallest_of, largest_of, low_fold, high_fold}
use Rattle.keys.specs.declared.Key as keys
use Rattle.keys.specs.Key.{key_of}
use Rattle.records.specs.Record.{file_of}
use Rattle.records.specs.Run.{run}
use Rattle.records.specs.declared.Ends.{Ends}
use Rattle.records.specs.declared.FileRecord.{FileRecord}
use Rattle.store.specs.declared.Store.{Store}
use Rattle.store.specs.Store.{state_of, well_store}
use Rattle.store.specs.StoreLaws as store
use Rattle.pick_range.specs.Ranges.{span_of, span_record}
use Rattle.pick_range.specs.RangesLaws.{span_between}
use Rattle.pick_found.specs.declared.FoundRun.{FoundRun}
use Rattle.pick_found.specs.CallsLaws.{level_ends, files_room}
use Rattle.pick_found.specs.FoundRun.{low_with, high_with, start_at, end_at, Summed, Gathered, inputs_of, HeldAt, Known, range_found, joint_found}

-- ---- the first of the least of three, in either grouping
module _ {A : Type 0} (lt : A → A → Bool) (o : StrictWeak lt) where
  -- the first of the least of two
  abbrev least : A → A → A
  least a b = cond (lt b a) b a

  -- it is associative
  least_assoc : (a b c : A) → least (least a b) c ≡ least a (least b c)
  least_assoc a b c = go (lt b a) (lt c b) (lt c a) refl refl refl
    where
      go : (p q r : Bool) → lt b a ≡ p → lt c b ≡ q → lt c a ≡ r → cond (lt c (cond (lt b a) b a)) c (cond (lt b a) b a) ≡ cond (lt (cond (lt c b) c b) a) (cond (lt c b) c b) a
      go true true true e f g = rw (e, f, g)
      go true true false e f g = clash (o.trans c b a f e) g
      go true false r e f g = rw (e, f, e)
      go false true r e f g = rw (e, f)
      go false false true e f g = clash (lt_le lt o c a b g e) f
      go false false false e f g = rw (e, f, g, e)

-- ---- the first of the least keys of files, in one pass
module _ (lt : Key → Key → Bool) (part : File → Key) where
  -- the least key, k so far
  unfoldable least_from : Key → List File → Key
  least_from k [] = k
  least_from k (f ∷ fs) = least_from (cond (lt (part f) k) (part f) k) fs

  -- over two lists joined
  from_append : (k : Key) (fs gs : List File) → least_from k (fs ++ gs) ≡ least_from (least_from k fs) gs
  unfolding least_from
  from_append k [] gs = refl
  from_append k (f ∷ fs) gs = from_append (cond (lt (part f) k) (part f) k) fs gs

  module _ (o : StrictWeak lt) where
    -- the first key can be compared last
    from_least : (a b : Key) (fs : List File) → least_from (cond (lt b a) b a) fs ≡ cond (lt (least_from b fs) a) (least_from b fs) a
    unfolding least_from
    from_least a b [] = refl
    from_least a b (f ∷ fs) = ap (λ (k : Key). least_from k fs) (least_assoc lt o a b (part f)) ∙ from_least a (cond (lt (part f) b) (part f) b) fs

    -- the least of two lists joined, by the least of each
    from_joined : (f g : File) (fs gs : List File) (x y : Key) → least_from (part f) fs ≡ x → least_from (part g) gs ≡ y → least_from (part f) (fs ++ (g ∷ gs)) ≡ cond (lt y x) y x
    unfolding least_from
    from_joined f g fs gs x y d e = from_append (part f) fs (g ∷ gs) ∙ from_least (least_from (part f) fs) (part g) gs ∙ rw (d, e)

-- the smallest key is the least one
smallest_is : (k : Key) (fs : List File) → smallest_of k fs ≡ least_from before (λ f. f.smallest) k fs
unfolding smallest_of least_from
smallest_is k [] = refl
smallest_is k (f ∷ fs) = smallest_is (cond (before f.smallest k) f.smallest k) fs

-- the largest key is the least one in the reversed order
largest_is : (k : Key) (fs : List File) → largest_of k fs ≡ least_from (λ a b. before b a) (λ f. f.largest) k fs
unfolding largest_of least_from
largest_is k [] = refl
largest_is k (f ∷ fs) = largest_is (cond (before k f.largest) f.largest k) fs

-- for a list with a file this is its smallest key
low_is : (f : File) (fs : List File) → least_from before (λ f. f.smallest) f.smallest fs ≡ low_key (f ∷ fs)
low_is f fs = sym (low_fold f fs ∙ smallest_is f.smallest fs)

-- and in the reversed order its largest
high_is : (f : File) (fs : List File) → least_from (λ a b. before b a) (λ f. f.largest) f.largest fs ≡ high_key (f ∷ fs)
high_is f fs = sym (high_fold f fs ∙ largest_is f.largest fs)

-- the smallest key of two lists joined, by those of both
pub low_joined : (fs gs : List File) → low_key (fs ++ gs) ≡ low_with (length fs) (low_key fs) (length gs) (low_key gs)
unfolding low_with
low_joined fs [] = ap low_key (append-nil fs)
low_joined [] (g ∷ gs) = refl
low_joined (f ∷ fs) (g ∷ gs) =
    sym (low_is f (fs ++ (g ∷ gs))) ∙ from_joined before (λ f. f.smallest) before_order f g fs gs (low_key (f ∷ fs)) (low_key (g ∷ gs)) (low_is f fs) (low_is g gs)

-- the largest key of two lists joined, by those of both
pub high_joined : (fs gs : List File) → high_key (fs ++ gs) ≡ high_with (length fs) (high_key fs) (length gs) (high_key gs)
unfolding high_with
high_joined fs [] = ap high_key (append-nil fs)
high_joined [] (g ∷ gs) = refl
high_joined (f ∷ fs) (g ∷ gs) =
    sym (high_is f (fs ++ (g ∷ gs))) ∙ from_joined (λ a b. before b a) (λ f. f.largest) (flip_order before before_order) f g fs gs (high_key (f ∷ fs)) (high_key (g ∷ gs)) (high_is f fs) (high_is g gs)

-- the ends of n files and some files after them
module _ (a b : Key) (m : ℕ) (k : m ≡ 0 → ⊥) where
  -- no files before: the smallest key is that of the files after
  pub low_only : low_with 0 a m b ≡ b
  unfolding low_with
  low_only = go m k
    where
      go : (m : ℕ) → (m ≡ 0 → ⊥) → low_with 0 a m b ≡ b
      go zero k = absurd (k refl)
      go (suc m) k = refl

  -- and so is the largest
  pub high_only : high_with 0 a m b ≡ b
  unfolding high_with
  high_only = go m k
    where
      go : (m : ℕ) → (m ≡ 0 → ⊥) → high_with 0 a m b ≡ b
      go zero k = absurd (k refl)
      go (suc m) k = refl

  -- files before and after: the smallest key is the lesser, or that of the files before on a tie
  pub low_both : (n : ℕ) → (n ≡ 0 → ⊥) → low_with n a m b ≡ cond (before b a) b a
  unfolding low_with
  low_both = go m k
    where
      go : (m : ℕ) → (m ≡ 0 → ⊥) → (n : ℕ) → (n ≡ 0 → ⊥) → low_with n a m b ≡ cond (before b a) b a
      go zero k n h = absurd (k refl)
      go (suc m) k zero h = absurd (h refl)
      go (suc m) k (suc n) h = refl

  -- the largest key is the greater, or that of the files before on a tie
  pub high_both : (n : ℕ) → (n ≡ 0 → ⊥) → high_with n a m b ≡ cond (before a b) b a
  unfolding high_with
  high_both = go m k
    where
      go : (m : ℕ) → (m ≡ 0 → ⊥) → (n : ℕ) → (n ≡ 0 → ⊥) → high_with n a m b ≡ cond (before a b) b a
      go zero k n h = absurd (k refl)
      go (suc m) k zero h = absurd (h refl)
      go (suc m) k (suc n) h = refl

-- the smallest key of one file is its own
low_one : (f : File) → low_key (f ∷ []) ≡ f.smallest
unfolding smallest_of
low_one f = low_fold f []

-- so is its largest
high_one : (f : File) → high_key (f ∷ []) ≡ f.largest
unfolding largest_of
high_one f = high_fold f []

-- ---- files up to a total
-- if all together are not above the limit, all are taken
pub up_all : (m t : ℕ) (fs : List File) → t + total fs ≤ m → up_to m t fs ≡ fs
unfolding up_to total sum
up_all m t [] h = refl
up_all m t (f ∷ fs) h = ap (λ (gs : List File). f ∷ gs) (rw (le-ltb m (t + f.size) (omega arith)) (up_all m (t + f.size) fs (omega arith)))

-- ---- the bytes of two lists joined
-- they are the sum of both
pub total_joined : (fs gs : List File) → total (fs ++ gs) ≡ total fs + total gs
unfolding total
total_joined fs gs = ap sum (map-append (λ (f : File). f.size) fs gs) ∙ sum_append (map (λ (f : File). f.size) fs) (map (λ (f : File). f.size) gs)

-- the ends and bytes with one file more
pub summed_more : (fs : List File) (n : ℕ) (f : File) (ends more : Ends) (bytes : ℕ) → length fs ≡ n → Summed fs ends bytes
    → key_of more.low ≡ low_with n (key_of ends.low) 1 f.smallest → key_of more.high ≡ high_with n (key_of ends.high) 1 f.largest → Summed (fs ++ (f ∷ [])) more (bytes + f.size)
unfolding total sum
summed_more fs n f ends more bytes e s l h =
    let one : total (f ∷ []) ≡ f.size = omega arith in
    record {
      low = l ∙ ap (λ (k : Key). low_with n k 1 f.smallest) s.low ∙ ap (λ (m : ℕ). low_with m (low_key fs) 1 f.smallest) (sym e)
          ∙ ap (low_with (length fs) (low_key fs) 1) (sym (low_one f)) ∙ sym (low_joined fs (f ∷ []));
      high = h ∙ ap (λ (k : Key). high_with n k 1 f.largest) s.high ∙ ap (λ (m : ℕ). high_with m (high_key fs) 1 f.largest) (sym e)
          ∙ ap (high_with (length fs) (high_key fs) 1) (sym (high_one f)) ∙ sym (high_joined fs (f ∷ []));
      bytes_are = omega (arith, total_joined fs (f ∷ []), s.bytes_are);
    }

-- the ends and bytes of one file alone
pub summed_one : (f : FileRecord) → Summed (file_of f ∷ []) (record { low = f.smallest; high = f.largest }) f.size
unfolding total sum file_of
summed_one f = record { low = sym (low_one (file_of f)); high = sym (high_one (file_of f)); bytes_are = omega arith }

-- ---- files found at a level of a well-formed store
module _ (s : Store) (n : ℕ) where
  module _ (h : well_store s ≡ true) (k : n < level_count) where
    -- some files of the level are a well-formed level, with no more bytes than a full version
    pub level_part : (fs : List File) → Sub fs (level (state_of s) n) → GoodLevel full n fs × (total fs ≤ max_bytes)
    unfolding full
    level_part fs b =
        let w = (formed_says full (state_of s)).0 ((store.well_says s).0 h).formed in
        let g = (good_level_says full n fs).0 (part_good full (state_of s) n fs w (omega arith) b) in
        let room = g.room in
        (g, omega (arith, total_most fs (λ f m. ((good_file_says full f).0 (g.good f m)).size)))

    -- with the largest number as limit, all files that overlap are taken
    level_all : (r : Range) → up_to max_word 0 (overlapping n (level (state_of s) n) r) ≡ overlapping n (level (state_of s) n) r
    level_all r =
        let few = (level_part (overlapping n (level (state_of s) n) r) (overlapping_sub n (level (state_of s) n) r)).1 in
        up_all max_word 0 (overlapping n (level (state_of s) n) r) (omega arith)

    -- the same for an equal range
    pub all_taken : (fs : List File) (r w : Range) → fs ≡ up_to max_word 0 (overlapping n (level (state_of s) n) r) → r ≡ w → fs ≡ overlapping n (level (state_of s) n) w
    all_taken fs r w e q = e ∙ ap (λ (x : Range). up_to max_word 0 (overlapping n (level (state_of s) n) x)) q ∙ level_all w

  -- the files found by a search over the level are known to be its files
  pub level_known : (r : FoundRun) → Gathered s.files (start_at s n) (end_at s n) r → Known s n r
  unfolding inputs_of
  level_known r g =
      let starts = g.starts in
      let fits = g.fits in
      record { held = record { few = omega arith; below = omega (arith, level_ends s n) }; sums = g.sums }

  -- there are as many files as the count says
  pub held_count : (a : FoundRun) → well_store s ≡ true → length s.files ≡ max_files → HeldAt s n a → length (inputs_of s a) ≡ a.count
  unfolding inputs_of run
  held_count a h q k =
      let below = k.below in
      let size = length_view file_of a.from (a.from + a.count) s.files (omega (arith, files_room s n h)) in
      omega arith

-- at level 0 the files that overlap the least widening are the overlapping ones
pub overlapping_first : (n : ℕ) (fs : List File) (r w : Range) → n ≡ 0 → w ≡ widen fs r → keep (overlaps w) fs ≡ overlapping n fs r
unfolding overlapping
overlapping_first n fs r w e f = rw (e, f)

-- deeper the files that overlap the range itself are
pub overlapping_deeper : (n : ℕ) (fs : List File) (r : Range) → (n ≡ 0 → ⊥) → keep (overlaps r) fs ≡ overlapping n fs r
unfolding overlapping
overlapping_deeper zero fs r e = absurd (e refl)
overlapping_deeper (suc n) fs r e = refl

-- ---- ranges from ends
-- the range of files found is that of their ends
pub known_range : (a : FoundRun) (s : Store) (n : ℕ) → Known s n a → span_of (range_found a) ≡ range_of (inputs_of s a)
unfolding range_found range_of
known_range a s n k = span_between a.ends.low a.ends.high ∙ rw (k.sums.low, k.sums.high)

-- a record that holds the key
record HeldBy (k : Key) : Type 0 where
  holder : keys.Key
  holds : key_of holder ≡ k

-- one of two records' keys is held by a record
one : (t : Bool) (a b : keys.Key) → HeldBy (cond t (key_of b) (key_of a))
one true a b = record { holder = b; holds = refl }
one false a b = record { holder = a; holds = refl }

-- the smaller of two records' keys is held by one of them
low_held : (n m : ℕ) (a b : keys.Key) → HeldBy (low_with n (key_of a) m (key_of b))
unfolding low_with
low_held n zero a b = record { holder = a; holds = refl }
low_held zero (suc m) a b = record { holder = b; holds = refl }
low_held (suc n) (suc m) a b = one (before (key_of b) (key_of a)) a b

-- so is the larger
high_held : (n m : ℕ) (a b : keys.Key) → HeldBy (high_with n (key_of a) m (key_of b))
unfolding high_with
high_held n zero a b = record { holder = a; holds = refl }
high_held zero (suc m) a b = record { holder = b; holds = refl }
high_held (suc n) (suc m) a b = one (before (key_of a) (key_of b)) a b

-- the range of the joined ends is the joint range
pub joint_is : (a b : FoundRun) (e : Ends)
    → key_of e.low ≡ low_with a.count (key_of a.ends.low) b.count (key_of b.ends.low)
    → key_of e.high ≡ high_with a.count (key_of a.ends.high) b.count (key_of b.ends.high)
    → span_record (between (key_of e.low) (key_of e.high)) ≡ joint_found a b
unfolding joint_found
joint_is a b e l h = rw (l, h)

-- the joint range of files found is the range of both lists joined
pub known_joint : (a b : FoundRun) (s : Store) (n m : ℕ) → well_store s ≡ true → length s.files ≡ max_files → Known s n a → Known s m b → span_of (joint_found a b) ≡ range_of (inputs_of s a ++ inputs_of s b)
unfolding joint_found range_of
known_joint a b s n m w q k j =
    let fs = inputs_of s a in
    let gs = inputs_of s b in
    let f = held_count s n a w q k.held in
    let g = held_count s m b w q j.held in
    let x = low_held a.count b.count a.ends.low b.ends.low in
    let y = high_held a.count b.count a.ends.high b.ends.high in
    let low : key_of x.holder ≡ low_key (fs ++ gs) = rw (low_joined fs gs, f, g, ← k.sums.low, ← j.sums.low) x.holds in
    let high : key_of y.holder ≡ high_key (fs ++ gs) = rw (high_joined fs gs, f, g, ← k.sums.high, ← j.sums.high) y.holds in
    rw (← x.holds, ← y.holds) (span_between x.holder y.holder ∙ rw (low, high))
