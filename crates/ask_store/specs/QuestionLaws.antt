-- Laws of questions by value: live files, the level of a memory table. Assumes nothing.
use Prim.Native.Nat.{ℕ, ◌+◌, ◌-◌, ◌≤◌, ◌<◌, min}
use Rattle.std.specs.Prelude.{◌≡◌, Bool, true, false, length, get_or, take, replicate}
use Rattle.std.proofs.Math.Path.{refl, ap}
use Rattle.std.proofs.Common.{sym, ◌∙◌, lt-ltb, le-ltb}
use mathlib.Core.List.{List, map}
use native.Mathlib.Omega.{arith}
use Rattle.std.proofs.Math.Dec.{ltb}
use Rattle.std.proofs.Math.ListN.{length-map}
use Rattle.lemmas.specs.Lists.{any, keep, sum, sort}
use Rattle.lemmas.specs.Merge.{front_laid}
use Rattle.lemmas.specs.Slices.{put, sum_next, sum_upto}
use Rattle.model.specs.Answer.{gives, refused, ◌⇒◌, first_of}
use Rattle.model.specs.Key.{good_user}
use Rattle.model.specs.File.{File, State, full, level, total, numbers, all_files, level_count, max_files, max_word}
use Rattle.model.specs.Range.{Range, overlaps}
use Rattle.model.specs.Question.{descend, deepest, memtable_level, live_files}
use Rattle.model.specs.Calls.{memtable, live}
use Rattle.records.specs.Record.{file_of}
use Rattle.records.specs.Run.{run}
use Rattle.records.specs.declared.FileRecord.{FileRecord}
use Rattle.levels.specs.LevelsLaws as levels
use Rattle.store.specs.Store.{state_of, well_store, on_store}
use Rattle.store.specs.StoreLaws as store
use Rattle.store.specs.declared.Store.{Store}
use Rattle.ask_lookup.specs.Lookup.{fitting}
use Rattle.ask_lookup.specs.LookupLaws.{run_long_lem}

-- ---- live files

module _ (s : Store) (room_out : ℕ) where
  -- a store that is not well-formed: 14
  pub live_ill : well_store s ≡ false → on_store s (λ t. live full t room_out) ≡ refused 14
  unfolding live first_of ◌⇒◌
  live_ill h = store.on_store_ill s (λ t. live full t room_out) (λ e. rw e) h

  module _ (w : well_store s ≡ true) (q : length s.files ≡ max_files) where
    -- the files are within the room
    few : sum s.counts ≤ max_files
    few = ((levels.well_says s.files s.counts).0 (store.well_levels_lem s w)).sound.room

    -- else all numbers, rising, if they fit the output
    pub live_is : on_store s (λ t. live full t room_out) ≡ fitting room_out (sort ltb (numbers (run 0 (min (sum s.counts) (max_files + 1)) s.files)))
    unfolding live live_files all_files first_of ◌⇒◌ fitting state_of run
    live_is =
        let e : min (sum s.counts) (max_files + 1) ≡ sum s.counts = omega (arith, few) in
        store.on_store_well s (λ t. live full t room_out) w
        ∙ rw ((store.well_says s).0 w).formed
        (ap (λ (fs : List File). fitting room_out (sort ltb (numbers fs)))
        (levels.files_of_levels s.files s.counts (omega (arith, few)) ∙ ap (λ (n : ℕ). map file_of (take n s.files)) (sym e)))

-- ---- the level of a memory table

module _ (s : Store) (a b : List ℕ) where
  -- a store that is not well-formed: 14
  pub table_ill : well_store s ≡ false → on_store s (λ t. memtable full t a b) ≡ refused 14
  unfolding memtable first_of ◌⇒◌
  table_ill h = store.on_store_ill s (λ t. memtable full t a b) (λ e. rw e) h

  module _ (w : well_store s ≡ true) where
    -- a bad start: 2
    pub table_start : good_user full.longest a ≡ false → on_store s (λ t. memtable full t a b) ≡ refused 2
    unfolding memtable first_of ◌⇒◌
    table_start g = store.on_store_well s (λ t. memtable full t a b) w ∙ rw (((store.well_says s).0 w).formed, g)

    -- a bad stop: 2
    pub table_stop : good_user full.longest a ≡ true → good_user full.longest b ≡ false → on_store s (λ t. memtable full t a b) ≡ refused 2
    unfolding memtable first_of ◌⇒◌
    table_stop g h = store.on_store_well s (λ t. memtable full t a b) w ∙ rw (((store.well_says s).0 w).formed, g, h)

    -- else the level of the model
    pub table_gives : good_user full.longest a ≡ true → good_user full.longest b ≡ true → on_store s (λ t. memtable full t a b) ≡ gives (memtable_level full (state_of s) (record { start = a; stop = b }))
    unfolding memtable first_of ◌⇒◌
    table_gives g h = store.on_store_well s (λ t. memtable full t a b) w ∙ rw (((store.well_says s).0 w).formed, g, h)

-- a level is the run from its start to its end
pub level_at : (s : Store) → length s.counts ≡ level_count → (l a b : ℕ) → l < level_count → sum (take l s.counts) ≡ a → a + get_or s.counts l 0 ≡ b → level (state_of s) l ≡ run a b s.files
unfolding level state_of
level_at s c l a b h e f =
    levels.level_run_lem s.files s.counts l (omega arith) ∙ ap (λ (i : ℕ). run i (i + get_or s.counts l 0) s.files) e ∙ ap (λ (j : ℕ). run a j s.files) f

-- where the first levels start and end
module _ (s : Store) where
  -- level 0 starts at 0
  pub starts_first : sum (take 0 s.counts) ≡ 0
  unfolding sum
  starts_first = refl

  -- it ends with its count
  pub ends_first : sum (take 1 s.counts) ≡ get_or s.counts 0 0
  unfolding sum
  ends_first = sum_next 0 s.counts ∙ omega arith

  -- each level starts where the one before ends
  pub ends_next : (k a : ℕ) → sum (take k s.counts) ≡ a → sum (take (k + 1) s.counts) ≡ a + get_or s.counts k 0
  ends_next k a e = sum_next k s.counts ∙ ap (λ (n : ℕ). n + get_or s.counts k 0) e

  -- they end within the room
  pub ends_within : well_store s ≡ true → (k a : ℕ) → sum (take k s.counts) ≡ a → a + get_or s.counts k 0 ≤ max_files
  ends_within w k a e =
      let r = ((levels.well_says s.files s.counts).0 (store.well_levels_lem s w)).sound.room in
      omega (arith, sum_upto k s.counts)

-- how far down a memory table goes
module _ (t : State) (r : Range) where
  -- some file of the level overlaps
  abbrev pub meets : ℕ → Bool
  meets l = any (overlaps r) (level t l)

  -- the level has more than 20971520 overlapping bytes
  abbrev pub heavy : ℕ → Bool
  heavy l = ltb 20971520 (total (keep (overlaps r) (level t l)))

  -- level 0 overlaps: 0
  pub table_stays : meets 0 ≡ true → memtable_level full t r ≡ 0
  unfolding memtable_level
  table_stays a = rw a

  module _ (a : meets 0 ≡ false) where
    -- level 1 overlaps: 0
    pub table_next : meets 1 ≡ true → memtable_level full t r ≡ 0
    unfolding memtable_level descend deepest full
    table_next b = rw (a, b)

    module _ (b : meets 1 ≡ false) where
      -- level 2 has too many bytes: 0
      pub table_heavy : heavy 2 ≡ true → memtable_level full t r ≡ 0
      unfolding memtable_level descend deepest full
      table_heavy c = rw (a, b, c)

      module _ (c : heavy 2 ≡ false) where
        -- level 2 overlaps: 1
        pub table_second : meets 2 ≡ true → memtable_level full t r ≡ 1
        unfolding memtable_level descend deepest full
        table_second d = rw (a, b, c, d)

        module _ (d : meets 2 ≡ false) where
          -- level 3 has too many bytes: 1
          pub table_heavier : heavy 3 ≡ true → memtable_level full t r ≡ 1
          unfolding memtable_level descend deepest full
          table_heavier e = rw (a, b, c, d, e)

          -- none of these: 2
          pub table_deepest : heavy 3 ≡ false → memtable_level full t r ≡ 2
          unfolding memtable_level descend deepest full
          table_deepest e = rw (a, b, c, d, e)

-- comparing bytes that are cut at the largest u64 gives the same answer
module _ (n m : ℕ) (e : m ≡ min n max_word) where
  -- more than the limit
  pub heavy_yes : 20971520 < m → ltb 20971520 n ≡ true
  heavy_yes h = lt-ltb 20971520 n (omega arith)

  -- not more
  pub heavy_no : m ≤ 20971520 → ltb 20971520 n ≡ false
  heavy_no h = le-ltb 20971520 n (omega arith)

-- ---- the column of a store's numbers

module _ (n : ℕ) (files : List FileRecord) (h : n ≤ length files) where
  -- there are as many as files
  pub numbers_long : length (numbers (run 0 n files)) ≡ n
  unfolding numbers
  numbers_long = length-map (run 0 n files) (λ (f : File). f.number) ∙ run_long_lem n files h

  -- they are in front
  pub numbers_front : (column : List ℕ) → column ≡ put (replicate max_files 0) 0 (numbers (run 0 n files)) → take (n - 0) column ≡ numbers (run 0 n files)
  numbers_front column e =
      let m : n - 0 ≡ n = omega arith in
      rw m (front_laid (replicate max_files 0) column (numbers (run 0 n files)) n numbers_long e)
