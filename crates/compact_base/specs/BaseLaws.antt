-- Laws of base-level questions by value: their memory, the files from a level on, and their refusals in order. Assumes nothing.
use Prim.Native.Nat.{ℕ, zero, suc, ◌+◌, ◌-◌, ◌≤◌, ◌<◌, min}
use Rattle.std.proofs.Math.Path.{◌≡◌, refl, ap}
use Rattle.std.proofs.Common.{sym, ◌∙◌, arith, length-drop, take_all, drop-drop}
use Rattle.std.specs.Prelude.{Bool, ◌&&◌, ◌||◌, cond, eqb, ltb, length, get_or, take, drop}
use Rattle.std.proofs.Math.Bool.{true, false, not}
use mathlib.Core.List.{List, [], ◌∷◌, map}
use Rattle.std.proofs.Math.Option.{some}
use Rattle.std.proofs.Math.Seq.{slice}
use borrow.Author.Tests.{lt-ltb, le-ltb}
use Rattle.lemmas.specs.Lists.{all, any, join, sum, up_from}
use Rattle.lemmas.specs.ListLaws.{and_true, and_left, and_right}
use Rattle.lemmas.specs.Maps.{all_map, any_join, any_same}
use Rattle.lemmas.specs.Slices.{parts, take_drop, drop_map}
use Rattle.lemmas.specs.UpFrom.{up_from_run, up_from_end}
use Rattle.model.specs.Answer.{Answer, gives, refused, ◌⇒◌, first_of}
use Rattle.model.specs.Key.{user_before, user, good_user}
use Rattle.model.specs.File.{File, State, full, level, well_formed, level_count, max_files}
use Rattle.model.specs.Range.{overlaps}
use Rattle.model.specs.Question.{holds, is_base, not_before}
use Rattle.model.specs.Calls as calls
use Rattle.model.specs.Calls.{good_memory, is_base_level}
use Rattle.keys.specs.Key.{user_of, sound_user}
use Rattle.records.specs.Record.{file_of}
use Rattle.records.specs.Run.{run}
use Rattle.records.specs.declared.FileRecord.{FileRecord}
use Rattle.levels.specs.Levels.{levels_of}
use Rattle.levels.specs.LevelsLaws as levels
use Rattle.store.specs.Store.{state_of, well_store, on_store}
use Rattle.store.specs.StoreLaws as store
use Rattle.store.specs.declared.Store.{Store}
use Rattle.compact_base.specs.declared.Asked.{Asked}
use Rattle.compact_base.specs.Base.{asked_of, sound_asked, well_asked, on_asked}

-- ---- the memory

-- the test of a memory, in its three cases
module _ (m : Asked) where
  -- its record is not sound: not well-formed
  pub memory_unsound : sound_user m.user ≡ false → well_asked m ≡ false
  unfolding well_asked sound_asked
  memory_unsound t = rw t

  -- a key was asked: that key decides
  pub memory_some : sound_user m.user ≡ true → m.any ≡ true → well_asked m ≡ good_user full.longest (user_of m.user)
  unfolding well_asked sound_asked asked_of good_memory
  memory_some t e = rw (t, e)

  -- none was: the key has no bytes
  pub memory_none : sound_user m.user ≡ true → m.any ≡ false → well_asked m ≡ eqb m.user.len 0
  unfolding well_asked sound_asked asked_of good_memory
  memory_none t e = rw (t, e) (and_true (eqb m.user.len 0))

  -- a key was asked: whether the user key is before it
  pub before_asked : (u : List ℕ) → m.any ≡ true → not (not_before (asked_of m) u) ≡ user_before u (user_of m.user)
  unfolding asked_of not_before
  before_asked u e = rw e (not_not (user_before u (user_of m.user)))
    where
      not_not : (b : Bool) → not (not b) ≡ b
      not_not true = refl
      not_not false = refl

  -- none was: no
  pub none_asked : (u : List ℕ) → m.any ≡ false → not (not_before (asked_of m) u) ≡ false
  unfolding asked_of not_before
  none_asked u e = rw e

-- ---- the files from a level on

-- the parts from k on are the parts of the rest
drop_parts : {A : Type 0} (l : List A) (cs : List ℕ) (k : ℕ) → drop k (parts l cs) ≡ parts (drop (sum (take k cs)) l) (drop k cs)
unfolding parts sum
drop_parts l cs zero = refl
drop_parts l [] (suc k) = refl
drop_parts l (c ∷ cs) (suc k) = drop_parts (drop c l) cs k ∙ ap (λ (r : List _). parts r (drop k cs)) (drop-drop (sum (take k cs)) c l)

-- the sum before k and that from k on
sum_split : (k : ℕ) (cs : List ℕ) → sum (take k cs) + sum (drop k cs) ≡ sum cs
unfolding sum
sum_split zero cs = omega arith
sum_split (suc k) [] = refl
sum_split (suc k) (c ∷ cs) = omega (arith, sum_split k cs)

-- the levels from k on are those of the array from their start on
levels_cut : (files : List FileRecord) (counts : List ℕ) (k : ℕ) → drop k (levels_of files counts) ≡ levels_of (drop (sum (take k counts)) files) (drop k counts)
unfolding levels_of
levels_cut files counts k = drop_map (map file_of) k (parts files counts) ∙ ap (map (map file_of)) (drop_parts files counts k)

-- the files from a level on are one run
pub files_from_lem : (files : List FileRecord) (counts : List ℕ) (k : ℕ) → sum counts ≤ length files → join (drop k (levels_of files counts)) ≡ run (sum (take k counts)) (sum counts) files
unfolding run
files_from_lem files counts k h =
    let from = sum (take k counts) in
    let s = sum_split k counts in
    let fits : sum (drop k counts) ≤ length (drop from files) = omega (arith, length-drop from files, s) in
    ap join (levels_cut files counts k) ∙ levels.files_of_levels (drop from files) (drop k counts) fits
    ∙ ap (map file_of) (take_drop from (sum (drop k counts)) files ∙ ap (λ (e : ℕ). slice from e files) s)

-- all fail exactly if none passes
all_not : {A : Type 0} (p : A → Bool) (xs : List A) → all (λ x. not (p x)) xs ≡ not (any p xs)
unfolding all any
all_not p [] = refl
all_not p (x ∷ xs) = go (p x) (all_not p xs)
  where
    go : (t : Bool) → all (λ x. not (p x)) xs ≡ not (any p xs) → (not t && all (λ x. not (p x)) xs) ≡ not (t || any p xs)
    go true e = refl
    go false e = e

-- no list from k on has an item that passes, exactly if none does in their join
lists_from_lem : {A : Type 0} (p : A → Bool) (ls : List (List A)) (k n : ℕ) → length ls ≡ n → k ≤ n
    → all (λ j. not (any p (get_or ls j []))) (up_from k (n - k)) ≡ not (any p (join (drop k ls)))
lists_from_lem p ls k n l h =
    sym (all_map (λ j. get_or ls j []) (λ fs. not (any p fs)) (up_from k (n - k)))
    ∙ ap (all (λ fs. not (any p fs))) (up_from_run ls [] k (n - k) (omega arith) ∙ take_all (n - k) (drop k ls) (omega (arith, length-drop k ls)))
    ∙ all_not (any p) (drop k ls)
    ∙ ap not (sym (any_join p (drop k ls)))

-- a file holds a user key exactly if it overlaps the range of that key alone
holds_overlaps : (u : List ℕ) (f : File) → holds u f ≡ overlaps (record { start = u; stop = u }) f
unfolding holds overlaps
holds_overlaps u f = and_swap (not (user_before u (user f.smallest))) (not (user_before (user f.largest) u))
  where
    and_swap : (a b : Bool) → (a && b) ≡ (b && a)
    and_swap true true = refl
    and_swap true false = refl
    and_swap false true = refl
    and_swap false false = refl

module _ (s : Store) (w : well_store s ≡ true) (q : length s.files ≡ max_files) (c : length s.counts ≡ level_count) (l : ℕ) (u : List ℕ) where
  -- the files are within the room
  room : sum s.counts ≤ max_files
  room = ((levels.well_says s.files s.counts).0 (store.well_levels_lem s w)).sound.room

  -- no level is two below: yes
  pub base_last : level_count ≤ l + 2 → is_base full (state_of s) l u ≡ true
  unfolding is_base full all
  base_last h = rw (up_from_end (l + 2) level_count h)

  -- else no file from two levels below on overlaps the key
  pub base_is : l + 2 ≤ level_count → is_base full (state_of s) l u ≡ not (any (overlaps (record { start = u; stop = u })) (run (sum (take (l + 2) s.counts)) (min (sum s.counts) (max_files + 1)) s.files))
  unfolding is_base full level state_of
  base_is h =
      let e : min (sum s.counts) (max_files + 1) ≡ sum s.counts = omega (arith, room) in
      lists_from_lem (holds u) (levels_of s.files s.counts) (l + 2) level_count (levels.levels_number s.files s.counts ∙ c) h
      ∙ ap (λ (fs : List File). not (any (holds u) fs)) (files_from_lem s.files s.counts (l + 2) (omega (arith, room)))
      ∙ ap not (any_same (holds u) (overlaps (record { start = u; stop = u })) (run (sum (take (l + 2) s.counts)) (sum s.counts) s.files) (λ f m. holds_overlaps u f))
      ∙ ap (λ (to : ℕ). not (any (overlaps (record { start = u; stop = u })) (run (sum (take (l + 2) s.counts)) to s.files))) (sym e)

-- ---- the refusals of the question, in document 01's order

module _ (s : Store) (m : Asked) (l : ℕ) (u : List ℕ) where
  -- the question on a state
  abbrev question : State → Answer calls.Base
  question t = on_asked m (is_base_level full t l (asked_of m) u)

  -- a store that is not well-formed: 14
  pub base_ill : well_store s ≡ false → on_store s question ≡ refused 14
  unfolding on_asked is_base_level first_of ◌⇒◌
  base_ill h = store.on_store_ill s question (λ e. rw e (either (sound_asked m))) h
    where
      either : (t : Bool) → ◌≡◌ {A = Answer calls.Base} (cond t (refused 14) (refused 14)) (refused 14)
      either true = refl
      either false = refl

  module _ (w : well_store s ≡ true) where
    -- the state is well-formed
    formed : well_formed full (state_of s) ≡ true
    formed = ((store.well_says s).0 w).formed

    -- a memory that is not well-formed: 14
    pub base_bad : well_asked m ≡ false → on_store s question ≡ refused 14
    unfolding on_asked is_base_level first_of ◌⇒◌ well_asked
    base_bad h = store.on_store_well s question w ∙ rw formed (go (sound_asked m) h)
      where
        go : (t : Bool) → (t && good_memory full (asked_of m)) ≡ false
            → ◌≡◌ {A = Answer calls.Base} (cond t (cond (not (good_memory full (asked_of m))) (refused 14) (first_of ((not (ltb l full.levels) ⇒ 1) ∷ (not (good_user full.longest u) ⇒ 2) ∷ (not (not_before (asked_of m) u) ⇒ 12) ∷ []) (record { answer = is_base full (state_of s) l u; memory = some u }))) (refused 14)) (refused 14)
        go true e = rw e
        go false e = refl

    module _ (g : well_asked m ≡ true) where
      -- the memory is sound
      sound : sound_asked m ≡ true
      unfolding well_asked
      sound = and_left (sound_asked m) (good_memory full (asked_of m)) g

      -- its user key is good
      good : good_memory full (asked_of m) ≡ true
      unfolding well_asked
      good = and_right (sound_asked m) (good_memory full (asked_of m)) g

      -- a level above 6: 1
      pub base_beyond : level_count ≤ l → on_store s question ≡ refused 1
      unfolding on_asked is_base_level first_of ◌⇒◌ full
      base_beyond h = store.on_store_well s question w ∙ rw (sound, formed, good, le-ltb l level_count h)

      module _ (h : l < level_count) where
        -- a user key of wrong length: 2
        pub base_key : good_user full.longest u ≡ false → on_store s question ≡ refused 2
        unfolding on_asked is_base_level first_of ◌⇒◌ full
        base_key k = store.on_store_well s question w ∙ rw (sound, formed, good, lt-ltb l level_count h, k)

        module _ (k : good_user full.longest u ≡ true) where
          -- a key before the one asked last: 12
          pub base_back : not (not_before (asked_of m) u) ≡ true → on_store s question ≡ refused 12
          unfolding on_asked is_base_level first_of ◌⇒◌ full
          base_back b = store.on_store_well s question w ∙ rw (sound, formed, good, lt-ltb l level_count h, k, b)

          -- none of these: the answer, and the key as the new memory
          pub base_gives : not (not_before (asked_of m) u) ≡ false → on_store s question ≡ gives (record { answer = is_base full (state_of s) l u; memory = some u })
          unfolding on_asked is_base_level first_of ◌⇒◌ full
          base_gives b = store.on_store_well s question w ∙ rw (sound, formed, good, lt-ltb l level_count h, k, b)
