-- Laws of lists of one level: a list of files has one sound list by value, what well-formed says, and the answers of calls on a list. Assumes nothing.
use Prim.Native.Nat.{ℕ, zero, suc, ◌+◌, ◌≤◌, ◌<◌, min}
use Rattle.std.proofs.Math.Path.{◌≡◌, ap}
use Rattle.std.specs.Prelude.{refl, ◌↔◌, Bool, ◌&&◌, cond, ltb, length, take, set, replicate, Some, None, Ok}
use Rattle.std.proofs.Common.{sym, ◌∙◌, length-take-le}
use Rattle.std.proofs.Math.Bool.{true, false}
use mathlib.Core.List.{List, [], ◌∷◌, ◌++◌, map, append-nil}
use native.Mathlib.Omega.{arith}
use borrow.Author.Tests.{eq-eqb, lt-ltb, le-ltb}
use Rattle.std.proofs.Math.ListN.{get_or}
use Rattle.std.proofs.lemmas.List.{length-map}
use Rattle.std.proofs.Math.Seq.{slice}
use Rattle.lemmas.specs.Lists.{all, chain, find, join, sum, is_empty}
use Rattle.lemmas.specs.ListLaws.{and_left, and_right, and_true, both, all_in}
use Rattle.lemmas.specs.Slices.{put, put_nil, parts, sum_upto}
use Rattle.model.specs.Answer.{Answer, gives, refused, Refusal, ◌⇒◌, first_of}
use Rattle.model.specs.File.{File, full, level, total, in_order, levelwise, good_file, good_files, level_count, max_files, max_word}
use Rattle.model.specs.Range.{low_key, high_key}
use Rattle.model.specs.Pick.{good_level}
use Rattle.model.proofs.PickedLaws.{good_level_says}
use Rattle.model.specs.Calls as calls
use Rattle.model.specs.Calls.{lent_list, total_size, get_range}
use Rattle.answers.specs.Outcome.{result_of}
use Rattle.records.specs.Record.{file_of, record_of, vacant, sound_record, AllShaped}
use Rattle.records.specs.RecordLaws.{total_bound}
use Rattle.records.specs.Run.{run, ends_of}
use Rattle.records.specs.declared.FileRecord.{FileRecord}
use Rattle.levels.specs.Levels.{levels_of, laid_out, counts_of, sound_levels, well_levels}
use Rattle.levels.specs.LevelsLaws as levels
use Rattle.store.specs.declared.Store.{Store}
use Rattle.store.specs.Store.{state_of, well_store, on_store}
use Rattle.store.specs.StoreLaws as store
use Rattle.level_list.specs.declared.FileList.{FileList}
use Rattle.level_list.specs.List.{files_of, list_of, sound_list, well_list, on_list, ends_record, ranged, level_files}

-- ---- one list of files, one sound list by value

-- the lengths of a list's arrays
pub record ListShape (l : FileList) : Type 0 where
  pub files : length l.files ≡ max_files
  pub records : AllShaped l.files

-- a list's records are sound if they are sound as one level
pub sound_as_level : (l : FileList) → sound_list l ≡ sound_levels l.files (l.count ∷ [])
unfolding sound_list sound_levels sum
sound_as_level l = let e : l.count + 0 ≡ l.count = omega arith in rw e

-- the array of a list is that of one level
laid_as_level : (fs : List File) → (list_of fs).files ≡ laid_out (fs ∷ [])
unfolding list_of laid_out join
laid_as_level fs = ap (λ (gs : List File). put (vacant full.room) 0 (map record_of gs)) (sym (append-nil fs))

-- a sound list is the list of its files
pub sound_is : (l : FileList) → ListShape l → sound_list l ≡ true → l ≡ list_of (files_of l)
unfolding files_of list_of levels_of counts_of parts
sound_is l q h =
    let e = levels.sound_is l.files (l.count ∷ []) q.files q.records (sym (sound_as_level l) ∙ h) in
    let files : l.files ≡ (list_of (files_of l)).files = e.0 ∙ sym (laid_as_level (files_of l)) in
    let count : l.count ≡ length (files_of l) = ap (λ (ns : List ℕ). get_or ns 0 0) e.1 in
    λ i. record { files = files i; count = count i }

-- two sound lists of the same files are equal
pub two_outcomes : (l l' : FileList) → ListShape l → ListShape l' → sound_list l ≡ true → sound_list l' ≡ true → files_of l ≡ files_of l' → l ≡ l'
two_outcomes l l' q q' h h' e = sound_is l q h ∙ ap list_of e ∙ sym (sound_is l' q' h')

-- good files, no more than the room
module _ (fs : List File) (h : length fs ≤ max_files) (g : all (good_file full) fs ≡ true) where
  -- they fit an array as one level
  fits : levels.Fits (fs ∷ [])
  unfolding join
  fits = record { room = rw (append-nil fs) h; good = rw (append-nil fs) g }

  -- their list stands for them and is sound
  pub held : (files_of (list_of fs) ≡ fs) × (sound_list (list_of fs) ≡ true)
  unfolding files_of list_of levels_of counts_of parts sound_list sound_levels sum
  held = (
    ap (λ (rs : List FileRecord). map file_of (take (length fs) rs)) (laid_as_level fs) ∙ ap (λ (ls : List (List File)). get_or ls 0 []) (levels.held_levels (fs ∷ []) fits),
    sound_as_level (list_of fs) ∙ ap (λ (rs : List FileRecord). sound_levels rs (length fs ∷ [])) (laid_as_level fs) ∙ levels.sound_laid (fs ∷ []) fits,
  )

  -- their list's arrays have their lengths
  pub held_shape : ListShape (list_of fs)
  held_shape = record { files = ap length (laid_as_level fs) ∙ levels.laid_length (fs ∷ []) fits; records = rw (laid_as_level fs) (levels.laid_shaped (fs ∷ []) fits) }

-- the list of a well-formed level's files is well-formed
pub held_well : (n : ℕ) (fs : List File) → good_level full n fs ≡ true → well_list n (list_of fs) ≡ true
unfolding well_list full
held_well n fs g =
    let t = (good_level_says full n fs).0 g in
    let e = held fs t.room ((all_in (good_file full) fs).1 t.good) in
    both (sound_list (list_of fs)) (good_level full n (files_of (list_of fs))) e.1 (rw e.0 g)

-- ---- well-formed lists

-- a well-formed list, part by part
pub record Well (n : ℕ) (l : FileList) : Type 0 where
  pub sound : sound_list l ≡ true
  pub good : good_level full n (files_of l) ≡ true

-- the test holds exactly if each part does
pub well_says : (n : ℕ) (l : FileList) → well_list n l ≡ true ↔ Well n l
unfolding well_list
well_says n l =
    let a = sound_list l in
    let b = good_level full n (files_of l) in (λ h. record { sound = and_left a b h; good = and_right a b h }, λ w. both a b w.sound w.good)

-- a well-formed list has no more files than the room
pub well_room : (n : ℕ) (l : FileList) → well_list n l ≡ true → l.count ≤ max_files
unfolding sum
well_room n l h =
    let s = ((levels.sound_says l.files (l.count ∷ [])).0 (sym (sound_as_level l) ∙ ((well_says n l).0 h).sound)).room in
    omega arith

-- levels with the files of a list and no others are well-formed exactly if the list is
alone : (n : ℕ) (l : FileList) (counts : List ℕ) → length counts ≡ level_count → sum counts ≡ l.count → join (levels_of l.files counts) ≡ files_of l
    → levelwise in_order 0 (levels_of l.files counts) ≡ in_order n (files_of l) → well_levels l.files counts ≡ well_list n l
unfolding well_levels sound_levels well_list sound_list good_files good_level full
alone n l counts k s j o =
    rw (s, eq-eqb (length (levels_of l.files counts)) level_count (levels.levels_number l.files counts ∙ k), j, o)

-- a list of level 0, tested as level 0 of seven with the others empty
pub first_alone : (n : ℕ) (l : FileList) → n ≡ 0 → well_levels l.files (set (replicate level_count 0) 0 l.count) ≡ well_list n l
unfolding files_of levels_of parts join sum levelwise in_order chain
first_alone zero l e = alone 0 l (set (replicate level_count 0) 0 l.count) refl (omega arith) (append-nil (files_of l)) (and_true (in_order 0 (files_of l)))
first_alone (suc n) l e = absurd (omega arith)

-- a list of any deeper level, tested as level 1 of seven
pub deeper_alone : (n : ℕ) (l : FileList) → (n ≡ 0 → ⊥) → well_levels l.files (set (replicate level_count 0) 1 l.count) ≡ well_list n l
unfolding files_of levels_of parts join sum levelwise in_order chain
deeper_alone zero l h = absurd (h refl)
deeper_alone (suc n) l h = alone (suc n) l (set (replicate level_count 0) 1 l.count) refl (omega arith) (append-nil (files_of l)) (and_true (in_order 1 (files_of l)))

-- ---- calls on a list

module _ {A : Type 0} (n : ℕ) (l : FileList) (call : List File → Answer A) where
  -- a call on a well-formed list gives its answer for the files
  pub on_list_well : well_list n l ≡ true → on_list n l call ≡ call (files_of l)
  unfolding on_list
  on_list_well h = rw ((well_says n l).0 h).sound

  -- a call that refuses a level above 6 with 1 does so for every list
  pub on_list_level : level_count ≤ n → call (files_of l) ≡ refused 1 → on_list n l call ≡ refused 1
  unfolding on_list full
  on_list_level h k = go (sound_list l)
    where
      go : (t : Bool) → ◌≡◌ {A = Answer A} (cond t (call (files_of l)) (cond (ltb n level_count) (refused 14) (refused 1))) (refused 1)
      go true = k
      go false = rw (le-ltb n level_count h)

  -- a call that refuses ill-formed files with 14 does so for an ill-formed list
  pub on_list_ill : n < level_count → (good_level full n (files_of l) ≡ false → call (files_of l) ≡ refused 14) → well_list n l ≡ false → on_list n l call ≡ refused 14
  unfolding on_list well_list full
  on_list_ill h k w = go (sound_list l) w
    where
      go : (t : Bool) → (t && good_level full n (files_of l)) ≡ false → ◌≡◌ {A = Answer A} (cond t (call (files_of l)) (cond (ltb n level_count) (refused 14) (refused 1))) (refused 14)
      go true e = k e
      go false e = rw (lt-ltb n level_count h)

-- the refusals of a lent list, before any others
module _ {A : Type 0} (n : ℕ) (fs : List File) (rs : List Refusal) (a : A) where
  -- a level above 6: 1
  lent_level : level_count ≤ n → first_of (lent_list full n fs ++ rs) a ≡ refused 1
  unfolding lent_list first_of ◌⇒◌ full
  lent_level h = rw (le-ltb n level_count h)

  -- not well-formed: 14
  lent_ill : n < level_count → good_level full n fs ≡ false → first_of (lent_list full n fs ++ rs) a ≡ refused 14
  unfolding lent_list first_of ◌⇒◌ full
  lent_ill h g = rw (lt-ltb n level_count h, g)

  -- neither: the other refusals decide
  lent_well : n < level_count → good_level full n fs ≡ true → first_of (lent_list full n fs ++ rs) a ≡ first_of rs a
  unfolding lent_list first_of ◌⇒◌ full
  lent_well h g = rw (lt-ltb n level_count h, g)

-- a call on a lent list whose other refusals come after the list's
module _ {A : Type 0} (n : ℕ) (l : FileList) (rs : List File → List Refusal) (a : List File → A) where
  -- the call on the files
  abbrev pub lent_call : List File → Answer A
  lent_call fs = first_of (lent_list full n fs ++ rs fs) (a fs)

  -- a level above 6: 1
  pub lent_beyond : level_count ≤ n → on_list n l lent_call ≡ refused 1
  lent_beyond h = on_list_level n l lent_call h (lent_level n (files_of l) (rs (files_of l)) (a (files_of l)) h)

  -- not well-formed: 14
  pub lent_bad : n < level_count → well_list n l ≡ false → on_list n l lent_call ≡ refused 14
  lent_bad h w = on_list_ill n l lent_call h (lent_ill n (files_of l) (rs (files_of l)) (a (files_of l)) h) w

  -- neither: the other refusals decide
  pub lent_good : n < level_count → well_list n l ≡ true → on_list n l lent_call ≡ first_of (rs (files_of l)) (a (files_of l))
  lent_good h w = on_list_well n l lent_call w ∙ lent_well n (files_of l) (rs (files_of l)) (a (files_of l)) h ((well_says n l).0 w).good

-- ---- the bytes of a list

module _ (n : ℕ) (l : FileList) where
  -- a level above 6: 1
  pub total_beyond : level_count ≤ n → on_list n l (total_size full n) ≡ refused 1
  unfolding total_size lent_list
  total_beyond h = lent_beyond n l (λ fs. []) total h

  -- not well-formed: 14
  pub total_bad : n < level_count → well_list n l ≡ false → on_list n l (total_size full n) ≡ refused 14
  unfolding total_size lent_list
  total_bad h w = lent_bad n l (λ fs. []) total h w

  -- else the bytes, which fit a u64
  pub total_good : length l.files ≡ max_files → n < level_count → well_list n l ≡ true → on_list n l (total_size full n) ≡ gives (min (total (run 0 l.count l.files)) max_word)
  unfolding total_size lent_list first_of files_of run
  total_good q h w =
      let t = (good_level_says full n (files_of l)).0 ((well_says n l).0 w).good in
      let b = total_bound 0 l.count l.files q (well_room n l w) ((all_in (good_file full) (files_of l)).1 t.good) in
      let e : total (run 0 l.count l.files) ≡ min (total (run 0 l.count l.files)) max_word = omega arith in
      lent_good n l (λ fs. []) total h w ∙ ap gives e

  -- ---- its range

  -- a level above 6: 1
  pub range_beyond : level_count ≤ n → on_list n l (get_range full n) ≡ refused 1
  unfolding get_range lent_list
  range_beyond h = lent_beyond n l (λ fs. []) calls.ends_of h

  -- not well-formed: 14
  pub range_bad : n < level_count → well_list n l ≡ false → on_list n l (get_range full n) ≡ refused 14
  unfolding get_range lent_list
  range_bad h w = lent_bad n l (λ fs. []) calls.ends_of h w

  -- else the ends of the list
  pub range_good : n < level_count → well_list n l ≡ true → on_list n l (get_range full n) ≡ gives (calls.ends_of (files_of l))
  unfolding get_range lent_list first_of
  range_good h w = lent_good n l (λ fs. []) calls.ends_of h w

-- by value: no files, no range
pub ranged_none : (fs : List File) → length fs < 1 → Ok None ≡ ranged (gives (calls.ends_of fs))
unfolding ranged ends_record result_of calls.ends_of is_empty
ranged_none [] h = refl
ranged_none (f ∷ fs) h = absurd (omega arith)

-- else the ends of the files
pub ranged_some : (fs : List File) → 1 ≤ length fs → Ok (Some (ends_of fs)) ≡ ranged (gives (calls.ends_of fs))
unfolding ranged ends_record result_of ends_of calls.ends_of is_empty low_key high_key find
ranged_some [] h = absurd (omega arith)
ranged_some (f ∷ fs) h = refl

-- the files of a list are the run of its first places
pub files_run : (l : FileList) → run 0 l.count l.files ≡ files_of l
unfolding files_of run
files_run l = refl

-- a well-formed list has as many files as its count says
pub files_count : (n : ℕ) (l : FileList) → length l.files ≡ max_files → well_list n l ≡ true → length (files_of l) ≡ l.count
unfolding files_of
files_count n l q w =
    let r = well_room n l w in
    length-map (take l.count l.files) file_of ∙ length-take-le l.count l.files (omega arith)

-- ---- the files of a level of a store

-- the empty list by value
pub none_listed : record { files = vacant max_files; count = 0 } ≡ list_of []
unfolding list_of full
none_listed = sym (ap (λ (rs : List FileRecord). record { files = rs; count = 0 }) (put_nil (vacant max_files) 0))

module _ (s : Store) (n : ℕ) where
  -- not well-formed: 14
  pub level_ill : well_store s ≡ false → on_store s (λ t. level_files t n) ≡ refused 14
  unfolding level_files first_of ◌⇒◌
  level_ill h = store.on_store_ill s (λ t. level_files t n) (λ e. rw e) h

  -- a level above 6: 1
  pub level_beyond : well_store s ≡ true → level_count ≤ n → on_store s (λ t. level_files t n) ≡ refused 1
  unfolding level_files first_of ◌⇒◌ full
  level_beyond h k = store.on_store_well s (λ t. level_files t n) h ∙ rw (((store.well_says s).0 h).formed, le-ltb n level_count k)

  module _ (h : well_store s ≡ true) (q : length s.counts ≡ level_count) (k : n < level_count) where
    -- the place where the level starts
    abbrev pub start : ℕ
    start = sum (take n s.counts)

    -- else the run from the level's start
    pub level_done : on_store s (λ t. level_files t n) ≡ gives (run start (start + get_or s.counts n 0) s.files)
    unfolding level_files first_of ◌⇒◌ full state_of level
    level_done =
        store.on_store_well s (λ t. level_files t n) h
        ∙ rw (((store.well_says s).0 h).formed, lt-ltb n level_count k) (ap gives (levels.level_run_lem s.files s.counts n (omega arith)))

    -- the run is within the room
    pub level_within : start + get_or s.counts n 0 ≤ max_files
    level_within = let r = ((levels.well_says s.files s.counts).0 (store.well_levels_lem s h)).sound.room in omega (arith, sum_upto n s.counts)

    -- its records are sound
    pub level_sound : all sound_record (slice start (start + get_or s.counts n 0) s.files) ≡ true
    level_sound = levels.run_sound s.files s.counts start (start + get_or s.counts n 0) (sum_upto n s.counts) ((store.sound_says s).0 ((store.well_says s).0 h).sound).levels
