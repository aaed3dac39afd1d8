-- Laws of the cutter: the grandparents as runs of places, a count from the place down, the files that a key passes, and the answer of a step. Assumes nothing.
use Prim.Native.Nat.{ℕ, suc, ◌+◌, ◌-◌, ◌*◌, ◌≤◌, ◌<◌}
use Rattle.std.specs.Prelude.{◌≡◌, refl, true, false, ◌&&◌, ◌||◌, List, [], ◌∷◌, map, leb, length, take, Ok}
use Rattle.std.proofs.Common.{sym, ◌∙◌, drop-drop, take-take}
use Rattle.std.proofs.Math.Path.{ap}
use Rattle.std.proofs.Math.Bool.{Bool}
use native.Mathlib.Omega.{arith}
use Rattle.std.proofs.Math.Nat.{zero-add, add-zero}
use Rattle.std.proofs.Math.Dec.{eqb}
use borrow.Author.Tests.{le-leb, leb-true, eqb-true, eq-eqb, ne_eqb}
use Rattle.std.proofs.Math.ListN.{drop}
use Rattle.std.proofs.Math.Seq.{slice}
use Rattle.lemmas.specs.Lists.{any, sum, up_from}
use Rattle.lemmas.specs.ListLaws.{and_left, and_right, up_from_in, up_from_any}
use Rattle.lemmas.specs.UpFrom.{up_from_snoc}
use Rattle.lemmas.specs.Maps.{any_same, any_append}
use Rattle.lemmas.specs.Merge.{all_take, all_drop}
use Rattle.lemmas.specs.Slices.{take_drop, take_map, drop_map, sum_take}
use Rattle.model.specs.Answer.{Answer, gives, refused, ◌⇒◌, first_of}
use Rattle.model.specs.Key as model_key
use Rattle.model.specs.Key.{before, good_key}
use Rattle.model.specs.File.{File, full, total, good_file, max_files, max_bytes}
use Rattle.model.specs.Pick.{good_picked}
use Rattle.model.proofs.PickedLaws.{good_picked_says, cutter_keeps}
use Rattle.model.specs.Question as model
use Rattle.model.specs.Question.{passed, cut_step}
use Rattle.model.specs.Calls as calls
use Rattle.model.specs.Calls.{counts_up_to, good_cutter}
use Rattle.answers.specs.Outcome.{result_of}
use Rattle.keys.specs.Key.{key_of}
use Rattle.keys.specs.declared.Key.{Key}
use Rattle.records.specs.Record.{file_of}
use Rattle.records.specs.RecordLaws.{total_bound}
use Rattle.records.specs.Run.{run}
use Rattle.records.specs.declared.FileRecord.{FileRecord}
use Rattle.pick_answer.specs.declared.Picked.{Picked}
use Rattle.pick_answer.specs.Picked.{picked_of, well_picked}
use Rattle.pick_answer.specs.PickedLaws as picked
use Rattle.compact_cutter.specs.declared.Cutter.{Cutter}
use Rattle.compact_cutter.specs.declared.Cut.{Cut}
use Rattle.compact_cutter.specs.declared.Passing.{Passing}
use Rattle.compact_cutter.specs.Cutter.{cutter_of, cutter_record, cut_record, good_memory, stopping, cut_by, left_by, passing_from, counted_with, cut_after}

-- ---- runs

-- a run without its first j files
run_drop : (j from to : ℕ) (files : List FileRecord) → drop j (run from to files) ≡ run (from + j) to files
unfolding run
run_drop j from to files = drop_map file_of j (slice from to files) ∙ ap (map file_of) (drop-drop j from (take to files))

-- the first files of a run are a shorter run
run_take : (n from to : ℕ) (files : List FileRecord) → from + n ≤ to → take n (run from to files) ≡ run from (from + n) files
unfolding run
run_take n from to files h =
    take_map file_of n (slice from to files)
    ∙ ap (map file_of) (take_drop from n (take to files) ∙ ap (drop from) (take-take (from + n) to files h))

-- a front of files has no more bytes than all
total_take : (n : ℕ) (fs : List File) → total (take n fs) ≤ total fs
unfolding total
total_take n fs =
    let size : File → ℕ = λ f. f.size in
    omega (arith, ap sum (take_map size n fs), sum_take n (map size fs))

module _ (c : Picked) (h : well_picked c ≡ true) where
  -- the place where the grandparents start
  abbrev pub start : ℕ
  start = c.first + c.second

  -- the place where they end
  abbrev pub stop : ℕ
  stop = c.first + c.second + c.grand

  -- the grandparents from a place on
  pub ahead_run : (place : ℕ) → drop place (picked_of c).grand ≡ run (start + place) stop c.files
  ahead_run place = ap (drop place) (picked.grand_run c) ∙ run_drop place start stop c.files

  -- the grandparents from one place up to another
  pub between_run : (j place : ℕ) → place ≤ c.grand → drop j (take place (picked_of c).grand) ≡ run (start + j) (start + place) c.files
  between_run j place k =
      ap (λ (gs : List File). drop j (take place gs)) (picked.grand_run c)
      ∙ ap (drop j) (run_take place start stop c.files (omega arith)) ∙ run_drop j start (start + place) c.files

  module _ (q : length c.files ≡ max_files) where
    -- their bytes are no more than a full version's
    pub between_bound : (j place : ℕ) → place ≤ c.grand → total (run (start + j) (start + place) c.files) ≤ max_bytes
    unfolding picked_of
    between_bound j place k =
        let gs = (picked_of c).grand in
        let good = picked.level_good (c.level + 2) gs ((picked.well_says c).0 h).good.grand in
        let some = all_drop (good_file full) j (take place gs) (all_take (good_file full) place gs good) in
        total_bound (start + j) (start + place) c.files q (omega (arith, picked.well_room c h)) (rw (between_run j place k) at some)

-- ---- a count from the place down

-- a number below n + 1 passes if one below n does, or n does
any_last : (p : ℕ → Bool) (n : ℕ) → any p (up_from 0 (suc n)) ≡ (any p (up_from 0 n) || (p n || false))
unfolding any
any_last p n = ap (any p) (up_from_snoc 0 n) ∙ any_append p (up_from 0 n) ((0 + n) ∷ []) ∙ rw (zero-add n)

-- a disjunction with what is false
or_false : (b : Bool) → (b || false) ≡ b
or_false true = refl
or_false false = refl

module _ (files : List FileRecord) (from end count : ℕ) where
  -- the count is the bytes from some place that is not after i
  unfoldable pub counts_from : ℕ → Bool
  counts_from i = any (λ j. eqb (total (run (from + j) end files)) count) (up_from 0 (suc (i - from)))

  module _ (i : ℕ) (h : from ≤ i) where
    -- the place i, written from the start
    here : eqb (total (run (from + (i - from)) end files)) count ≡ eqb (total (run i end files)) count
    here = let n : from + (i - from) ≡ i = omega arith in rw n

    -- the bytes from i are the count: yes
    pub counts_here : total (run i end files) ≡ count → counts_from i ≡ true
    unfolding counts_from
    counts_here e = up_from_any (λ j. eqb (total (run (from + j) end files)) count) 0 (suc (i - from)) (i - from) (omega arith) (omega arith) (here ∙ eq-eqb (total (run i end files)) count e)

  -- they are not: the places before i decide
  pub counts_earlier : (i : ℕ) → from < i → (total (run i end files) ≡ count → ⊥) → counts_from i ≡ counts_from (i - 1)
  unfolding counts_from
  counts_earlier i h n =
      let p : ℕ → Bool = λ j. eqb (total (run (from + j) end files)) count in
      let k : i - from ≡ suc (i - 1 - from) = omega arith in
      any_last p (i - from) ∙ rw (here i (omega arith), ne_eqb (total (run i end files)) count n, k) (or_false (any p (up_from 0 (suc (i - 1 - from)))))

  -- no place is before i: the bytes from i decide
  pub counts_first : (i : ℕ) → i ≡ from → counts_from i ≡ eqb (total (run i end files)) count
  unfolding counts_from up_from any
  counts_first i e =
      let z : i - from ≡ 0 = omega arith in
      let n : from + 0 ≡ i = omega arith in
      rw (z, n) (or_false (eqb (total (run i end files)) count))

-- the test of the memory's count, from its place down
pub counts_are : (c : Picked) → well_picked c ≡ true → (place count : ℕ) → place ≤ c.grand
    → counts_from c.files (c.first + c.second) (c.first + c.second + place) count (c.first + c.second + place) ≡ counts_up_to (picked_of c).grand place count
unfolding counts_from counts_up_to
counts_are c h place count k =
    let s = c.first + c.second in
    let n : s + place - s ≡ place = omega arith in
    rw n (any_same (λ j. eqb (total (run (s + j) (s + place) c.files)) count) (λ j. leb j place && eqb (total (drop j (take place (picked_of c).grand))) count) (up_from 0 (suc place))
    (λ j m. let below = ((up_from_in 0 (suc place) j).0 m).1 in rw (le-leb j place (omega arith), between_run c h j place k)))

-- ---- the files that a key passes

-- the place after a key and the bytes passed, from a place on with bytes passed before
unfoldable pub passing_with : ℕ → ℕ → List File → model_key.Key → Passing
passing_with place bytes fs k = record { place = place + passed k fs; bytes = bytes + total (take (passed k fs) fs) }

module _ (place bytes : ℕ) (k : model_key.Key) where
  -- by the first file that is left
  module _ (fs gs : List File) (f : File) (e : fs ≡ f ∷ gs) where
    -- it ends before the key and is passed
    pub passing_on : before f.largest k ≡ true → passing_with place bytes fs k ≡ passing_with (place + 1) (bytes + f.size) gs k
    unfolding passing_with passed total sum
    passing_on t =
        let n = passed k gs in
        let p : place + suc n ≡ place + 1 + n = omega arith in
        let b : bytes + (f.size + total (take n gs)) ≡ bytes + f.size + total (take n gs) = omega arith in
        rw (e, t) (λ i. record { place = p i; bytes = b i })

    -- it does not: nothing more is passed
    pub passing_stops : before f.largest k ≡ false → passing_with place bytes fs k ≡ record { place = place; bytes = bytes }
    unfolding passing_with passed total sum
    passing_stops t = rw (e, t, add-zero place, add-zero bytes)

  -- no file is left
  pub passing_ends : (fs : List File) → fs ≡ [] → passing_with place bytes fs k ≡ record { place = place; bytes = bytes }
  unfolding passing_with passed total sum
  passing_ends fs e = rw (e, add-zero place, add-zero bytes)

module _ (c : Picked) (h : well_picked c ≡ true) (place : ℕ) (k : model_key.Key) where
  -- at the start nothing has been passed
  pub passing_starts : passing_with place 0 (run (c.first + c.second + place) (c.first + c.second + c.grand) c.files) k ≡ passing_from place (picked_of c).grand k
  unfolding passing_with passing_from
  passing_starts = rw (← ahead_run c h place, zero-add (total (take (passed k (drop place (picked_of c).grand)) (drop place (picked_of c).grand))))

  -- the bytes passed are no more than a full version's
  pub passing_bound : length c.files ≡ max_files → (passing_from place (picked_of c).grand k).bytes ≤ max_bytes
  unfolding passing_from
  passing_bound q =
      let ahead = drop place (picked_of c).grand in
      omega (arith, total_take (passed k ahead) ahead, ap total (ahead_run c h place), between_bound c h q place c.grand (omega arith))

-- ---- the answer of a step

-- the cut after the grandparents passed is the model's
pub cut_is : (m : Cutter) (most : ℕ) (gs : List File) (k : model_key.Key) → cut_after m (10 * most) (passing_from m.place gs k) ≡ cut_record (cut_step most gs (cutter_of m) k)
unfolding cut_after cut_record counted_with passing_from cut_step cutter_of cutter_record
cut_is m most gs k = refl

module _ (c : Picked) (m : Cutter) where
  -- a memory that has seen a key
  pub good_seen : m.seen ≡ true → good_memory c m ≡ (leb m.place (length (picked_of c).grand) && leb m.count (10 * c.maximum) && counts_up_to (picked_of c).grand m.place m.count)
  unfolding good_memory good_cutter cutter_of picked_of
  good_seen e = rw e

  -- a memory that has not
  pub good_fresh : m.seen ≡ false → good_memory c m ≡ (eqb m.place 0 && eqb m.count 0)
  unfolding good_memory good_cutter cutter_of
  good_fresh e = rw e

  -- a well-formed memory's place is within the grandparents, its count at most 10 M
  pub good_within : length c.files ≡ max_files → well_picked c ≡ true → good_memory c m ≡ true → (m.place ≤ c.grand) × (m.count ≤ 10 * c.maximum)
  good_within q h g = go m.seen refl
    where
      go : (t : Bool) → m.seen ≡ t → (m.place ≤ c.grand) × (m.count ≤ 10 * c.maximum)
      go true e =
          let a = leb m.place (length (picked_of c).grand) in
          let b = leb m.count (10 * c.maximum) in
          let d = counts_up_to (picked_of c).grand m.place m.count in
          let s = and_left (a && b) d (sym (good_seen e) ∙ g) in
          (omega (arith, leb-true m.place (length (picked_of c).grand) (and_left a b s), picked.grand_length c q (picked.well_room c h)), leb-true m.count (10 * c.maximum) (and_right a b s))
      go false e =
          let s = sym (good_fresh e) ∙ g in
          (omega (arith, eqb-true m.place 0 (and_left (eqb m.place 0) (eqb m.count 0) s)), omega (arith, eqb-true m.count 0 (and_right (eqb m.place 0) (eqb m.count 0) s)))

module _ (c : Picked) (m : Cutter) (k : Key) where
  -- the answer of the model
  abbrev asked : Answer model.Cut
  asked = calls.should_stop full (picked_of c) (cutter_of m) (key_of k)

  -- a picked answer that is not well-formed: 14
  pub stop_ill : well_picked c ≡ false → stopping c m k ≡ refused 14
  unfolding stopping calls.should_stop first_of ◌⇒◌
  stop_ill h = picked.on_picked_ill c (λ p. calls.should_stop full p (cutter_of m) (key_of k)) (λ e. rw e) h

  module _ (h : well_picked c ≡ true) where
    -- on a well-formed picked answer the call is the model's
    on_good : stopping c m k ≡ asked
    unfolding stopping
    on_good = picked.on_picked_well c (λ p. calls.should_stop full p (cutter_of m) (key_of k)) h

    -- that picked answer is good in the model
    good : good_picked full (picked_of c) ≡ true
    good = (good_picked_says full (picked_of c)).1 ((picked.well_says c).0 h).good

    -- a memory that is not well-formed: 14
    pub stop_bad : good_memory c m ≡ false → stopping c m k ≡ refused 14
    unfolding calls.should_stop first_of ◌⇒◌ good_memory
    stop_bad g = on_good ∙ rw (good, g)

    -- a key of wrong length or type: 2
    pub stop_key : good_memory c m ≡ true → good_key full.longest (key_of k) ≡ false → stopping c m k ≡ refused 2
    unfolding calls.should_stop first_of ◌⇒◌ good_memory
    stop_key g l = on_good ∙ rw (good, g, l)

    -- none of these: the step
    pub stop_done : good_memory c m ≡ true → good_key full.longest (key_of k) ≡ true → stopping c m k ≡ gives (cut_step c.maximum (picked_of c).grand (cutter_of m) (key_of k))
    unfolding calls.should_stop first_of ◌⇒◌ good_memory picked_of
    stop_done g l = on_good ∙ rw (good, g, l)

-- ---- the cutter accepts the memory that it returns

-- a fresh memory is well-formed
pub fresh_good : (c : Picked) → good_memory c (cutter_record model.fresh_cutter) ≡ true
unfolding good_memory good_cutter cutter_of cutter_record model.fresh_cutter
fresh_good c = refl

-- a well-formed memory stays so after a key
pub advance_keeps : (c : Picked) (m : Cutter) (k : Key) → good_memory c m ≡ true
    → good_memory c (cut_record (cut_step c.maximum (picked_of c).grand (cutter_of m) (key_of k))).memory ≡ true
unfolding good_memory cut_record cutter_of cutter_record picked_of
advance_keeps c m k g = cutter_keeps (picked_of c) (cutter_of m) (key_of k) g

-- a well-formed memory stays so after a call, accepted or refused
pub step_keeps : (c : Picked) (m : Cutter) (k : Key) → good_memory c m ≡ true → good_memory c (left_by m (stopping c m k)) ≡ true
unfolding left_by cut_record
step_keeps c m k g = by_picked (well_picked c) refl
  where
    by_key : well_picked c ≡ true → (t : Bool) → good_key full.longest (key_of k) ≡ t → good_memory c (left_by m (stopping c m k)) ≡ true
    by_key h true l = rw (stop_done c m k h g l) (advance_keeps c m k g)
    by_key h false l = rw (stop_key c m k h g l) g

    by_picked : (t : Bool) → well_picked c ≡ t → good_memory c (left_by m (stopping c m k)) ≡ true
    by_picked true h = by_key h (good_key full.longest (key_of k)) refl
    by_picked false h = rw (stop_ill c m k h) g

-- the memory that an accepted call by value returns is the one that a step leaves
pub step_leaves : (m : Cutter) (a : Answer model.Cut) (x : Cut) → cut_by a ≡ Ok x → x.memory ≡ left_by m a
unfolding cut_by result_of cut_record left_by
step_leaves m (gives y) x e = cc
step_leaves m (refused n) x e = cc

-- so it is well-formed
pub step_well : (c : Picked) (m : Cutter) (k : Key) → good_memory c m ≡ true → (x : Cut) → cut_by (stopping c m k) ≡ Ok x → good_memory c x.memory ≡ true
step_well c m k g x e = ap (good_memory c) (step_leaves m (stopping c m k) x e) ∙ step_keeps c m k g
