-- Laws of records: one file has one sound record, the blank record, arrays of records, and the files of a run. Assumes nothing.
use Rattle.std.specs.Prelude.{ℕ, zero, suc, ◌+◌, ◌^◌, ◌≤◌, ◌<◌, min, ◌≡◌, refl, ◌↔◌, true, ◌&&◌, cond, List, [], ◌∷◌, map, eqb, get_or, take, drop, replicate}
use Rattle.std.proofs.Common.{sym, ◌∙◌, length-take-le, take-take, eqb-true, eq-eqb}
use Rattle.std.proofs.Math.Path.{ap}
use native.Mathlib.Omega.{arith}
use Rattle.std.proofs.Math.ListN.{length, length-map}
use Rattle.std.proofs.Math.Seq.{slice, length-slice}
use Rattle.std.proofs.lemmas.List.{take-append-le}
use Rattle.lemmas.specs.Lists.{all, find, sum}
use Rattle.lemmas.specs.ListLaws.{and_left, and_right, both, all_in}
use Rattle.lemmas.specs.Slices.{put, put_front, drop_view, run_past, run_within, slice_map}
use Rattle.lemmas.specs.Maps.{all_both}
use Rattle.lemmas.specs.Each.{Each}
use Rattle.model.specs.File.{File, full, seeks, total, numbers, good_file, key_room, max_files, max_bytes}
use Rattle.model.specs.Key.{before}
use Rattle.model.specs.Range.{low_key, high_key}
use Rattle.model.proofs.RangeLaws.{smallest_of, largest_of, low_fold, high_fold}
use Rattle.model.proofs.SnapshotLaws.{file_facts}
use Rattle.model.proofs.ScoreLaws.{total_most}
use Rattle.keys.specs.declared.Key.{Key}
use Rattle.keys.specs.Key.{key_of, key_record, sound_key}
use Rattle.keys.specs.KeyLaws as key
use Rattle.records.specs.Record.{file_of, record_of, blank, vacant, sound_record, well_record, blank_key, is_blank, past, Shaped, AllShaped}
use Rattle.records.specs.Run.{run, ends_of}
use Rattle.records.specs.declared.FileRecord.{FileRecord}

-- ---- one file, one sound record

-- both keys of a good file fit their room
pub short_keys : (f : File) → good_file full f ≡ true → (length f.smallest ≤ key_room) × (length f.largest ≤ key_room)
unfolding full
short_keys f g = let s = file_facts full f g in (s.smallest, s.largest)

module _ (f : File) (h : length f.smallest ≤ key_room) (k : length f.largest ≤ key_room) where
  -- the kept record of a file stands for it
  pub file_of_record_of : file_of (record_of f) ≡ f
  unfolding file_of record_of
  file_of_record_of =
      λ i. record { number = f.number; size = f.size; smallest = key.key_of_record f.smallest h i; largest = key.key_of_record f.largest k i }

  -- it is sound
  pub record_of_sound : sound_record (record_of f) ≡ true
  unfolding sound_record record_of
  record_of_sound =
      both (sound_key (key_record f.smallest) && sound_key (key_record f.largest)) (eqb (seeks f.size) (seeks f.size))
      (both (sound_key (key_record f.smallest)) (sound_key (key_record f.largest)) (key.record_sound f.smallest h) (key.record_sound f.largest k))
      (eq-eqb (seeks f.size) (seeks f.size) refl)

  -- its keys have their room
  pub record_of_shaped : Shaped (record_of f)
  unfolding record_of
  record_of_shaped = record { smallest = key.key_record_length f.smallest h; largest = key.key_record_length f.largest k }

-- the same for a good file
module _ (f : File) (g : good_file full f ≡ true) where
  -- its kept record stands for it
  pub file_of_record : file_of (record_of f) ≡ f
  file_of_record = let s = short_keys f g in file_of_record_of f s.0 s.1

  -- its kept record is sound
  pub record_sound : sound_record (record_of f) ≡ true
  record_sound = let s = short_keys f g in record_of_sound f s.0 s.1

  -- its kept record has its keys' room
  pub record_shaped : Shaped (record_of f)
  record_shaped = let s = short_keys f g in record_of_shaped f s.0 s.1

  -- its kept record is well-formed
  pub record_well : well_record (record_of f) ≡ true
  unfolding well_record
  record_well = both (sound_record (record_of f)) (good_file full (file_of (record_of f))) record_sound (rw file_of_record g)

-- a sound record, part by part
pub record Sound (r : FileRecord) : Type 0 where
  pub smallest : sound_key r.smallest ≡ true
  pub largest : sound_key r.largest ≡ true
  pub seeks : r.seeks ≡ seeks r.size

-- the test holds exactly if each part does
pub sound_says : (r : FileRecord) → sound_record r ≡ true ↔ Sound r
unfolding sound_record
sound_says r =
    let a = sound_key r.smallest in
    let b = sound_key r.largest in
    let c = eqb r.seeks (seeks r.size) in (
      λ h. record { smallest = and_left a b (and_left (a && b) c h); largest = and_right a b (and_left (a && b) c h); seeks = eqb-true r.seeks (seeks r.size) (and_right (a && b) c h) },
      λ s. both (a && b) c (both a b s.smallest s.largest) (eq-eqb r.seeks (seeks r.size) s.seeks),
    )

-- a sound record is the kept record of its file
pub sound_is : (r : FileRecord) → Shaped r → sound_record r ≡ true → r ≡ record_of (file_of r)
unfolding file_of record_of
sound_is r s h =
    let t = (sound_says r).0 h in
    let a : r.smallest ≡ key_record (key_of r.smallest) = key.sound_is r.smallest s.smallest t.smallest in
    let b : r.largest ≡ key_record (key_of r.largest) = key.sound_is r.largest s.largest t.largest in
    λ i. record { number = r.number; size = r.size; smallest = a i; largest = b i; seeks = t.seeks i }

-- one file has one sound record
pub one_record : (r q : FileRecord) → Shaped r → Shaped q → sound_record r ≡ true → sound_record q ≡ true → file_of r ≡ file_of q → r ≡ q
one_record r q s t h k e = sound_is r s h ∙ ap record_of e ∙ sym (sound_is q t k)

-- a record is well-formed exactly if it is sound and its file is good
pub well_says : (r : FileRecord) → well_record r ≡ true ↔ ((sound_record r ≡ true) × (good_file full (file_of r) ≡ true))
unfolding well_record
well_says r = (
  λ h. (and_left (sound_record r) (good_file full (file_of r)) h, and_right (sound_record r) (good_file full (file_of r)) h),
  λ s. both (sound_record r) (good_file full (file_of r)) s.0 s.1,
)

-- ---- the blank record

-- a blank key is the one that empty places hold
pub blank_key_is : (k : Key) → length k.bytes ≡ key_room → blank_key k ≡ true → k ≡ key_record []
unfolding blank_key key_of
blank_key_is k q h =
    let n : k.len ≡ 0 = eqb-true k.len 0 (and_left (eqb k.len 0) (sound_key k) h) in
    let e : key_of k ≡ [] = rw n (key.held_in key_room k.bytes 0 (omega arith)) in
    key.sound_is k q (and_right (eqb k.len 0) (sound_key k) h) ∙ ap key_record e

-- the blank key passes the test
blank_key_blank : blank_key (key_record []) ≡ true
unfolding blank_key key_record
blank_key_blank = both (eqb (key_record []).len 0) (sound_key (key_record [])) refl (key.record_sound [] (omega arith))

-- the blank record, part by part
pub record Blank (r : FileRecord) : Type 0 where
  pub number : r.number.0 ≡ 0
  pub size : r.size ≡ 0
  pub seeks : r.seeks ≡ 0
  pub smallest : blank_key r.smallest ≡ true
  pub largest : blank_key r.largest ≡ true

-- the test holds exactly if each part does
pub blank_says : (r : FileRecord) → is_blank r ≡ true ↔ Blank r
unfolding is_blank
blank_says r =
    let a = eqb r.number.0 0 in
    let b = eqb r.size 0 in
    let c = eqb r.seeks 0 in
    let d = blank_key r.smallest in
    let e = blank_key r.largest in (
      λ h.
          let four = and_left (a && b && c && d) e h in
          let three = and_left (a && b && c) d four in
          let two = and_left (a && b) c three in
          record {
            number = eqb-true r.number.0 0 (and_left a b two);
            size = eqb-true r.size 0 (and_right a b two);
            seeks = eqb-true r.seeks 0 (and_right (a && b) c three);
            smallest = and_right (a && b && c) d four;
            largest = and_right (a && b && c && d) e h;
          },
      λ s. both (a && b && c && d) e (both (a && b && c) d (both (a && b) c (both a b (eq-eqb r.number.0 0 s.number) (eq-eqb r.size 0 s.size)) (eq-eqb r.seeks 0 s.seeks)) s.smallest) s.largest,
    )

-- a record that passes the test is the blank record
pub blank_is : (r : FileRecord) → Shaped r → is_blank r ≡ true → r ≡ blank
unfolding blank
blank_is r s h =
    let t = (blank_says r).0 h in
    let a = blank_key_is r.smallest s.smallest t.smallest in
    let b = blank_key_is r.largest s.largest t.largest in
    λ i. record { number = record { 0 = t.number i }; size = t.size i; smallest = a i; largest = b i; seeks = t.seeks i }

-- the blank record passes the test
pub blank_blank : is_blank blank ≡ true
unfolding blank
blank_blank = (blank_says blank).1 record { number = refl; size = refl; seeks = refl; smallest = blank_key_blank; largest = blank_key_blank }

-- the blank record's keys have their room
pub blank_shaped : Shaped blank
unfolding blank
blank_shaped = record { smallest = key.key_record_length [] (omega arith); largest = key.key_record_length [] (omega arith) }

-- ---- lists of records

-- sound records are the kept records of their files
pub sound_list_lem : (rs : List FileRecord) → AllShaped rs → all sound_record rs ≡ true → rs ≡ map record_of (map file_of rs)
unfolding all Each
sound_list_lem [] s h = refl
sound_list_lem (r ∷ rs) s h =
    cc (sound_is r s.0 (and_left (sound_record r) (all sound_record rs) h), sound_list_lem rs s.1 (and_right (sound_record r) (all sound_record rs) h))

-- blank records are empty places
pub blank_list : (rs : List FileRecord) → AllShaped rs → all is_blank rs ≡ true → rs ≡ vacant (length rs)
unfolding all Each vacant
blank_list [] s h = refl
blank_list (r ∷ rs) s h =
    cc (blank_is r s.0 (and_left (is_blank r) (all is_blank rs) h), blank_list rs s.1 (and_right (is_blank r) (all is_blank rs) h))

-- empty places are blank
pub vacant_blank : (n : ℕ) → all is_blank (vacant n) ≡ true
unfolding all vacant
vacant_blank zero = refl
vacant_blank (suc n) = both (is_blank blank) (all is_blank (replicate n blank)) blank_blank (vacant_blank n)

-- well-formed records are sound, and their files are good
pub well_list_lem : (rs : List FileRecord) → all well_record rs ≡ true → (all sound_record rs ≡ true) × (all (good_file full) (map file_of rs) ≡ true)
unfolding all
well_list_lem [] h = (refl, refl)
well_list_lem (r ∷ rs) h =
    let w = (well_says r).0 (and_left (well_record r) (all well_record rs) h) in
    let t = well_list_lem rs (and_right (well_record r) (all well_record rs) h) in
    (both (sound_record r) (all sound_record rs) w.0 t.0, both (good_file full (file_of r)) (all (good_file full) (map file_of rs)) w.1 t.1)

-- the same as one equation
pub well_list_is : (rs : List FileRecord) → all well_record rs ≡ all sound_record rs && all (good_file full) (map file_of rs)
unfolding well_record
well_list_is rs = all_both sound_record (good_file full) file_of rs

-- each record's number fits 64 bits
abbrev pub AllWords : List FileRecord → Type 0
AllWords rs = Each (λ (r : FileRecord). r.number.0 < 2 ^ 64) rs

-- the kept records of good files stand for them
pub files_of_records : (fs : List File) → all (good_file full) fs ≡ true → map file_of (map record_of fs) ≡ fs
unfolding all
files_of_records [] h = refl
files_of_records (f ∷ fs) h =
    rw (file_of_record f (and_left (good_file full f) (all (good_file full) fs) h), files_of_records fs (and_right (good_file full f) (all (good_file full) fs) h))

-- they are well-formed
pub records_well : (fs : List File) → all (good_file full) fs ≡ true → all well_record (map record_of fs) ≡ true
unfolding all
records_well [] h = refl
records_well (f ∷ fs) h =
    both (well_record (record_of f)) (all well_record (map record_of fs)) (record_well f (and_left (good_file full f) (all (good_file full) fs) h)) (records_well fs (and_right (good_file full f) (all (good_file full) fs) h))

-- their keys have their room
pub records_shaped : (fs : List File) → all (good_file full) fs ≡ true → AllShaped (map record_of fs)
unfolding all Each
records_shaped [] h = tt
records_shaped (f ∷ fs) h =
    (record_shaped f (and_left (good_file full f) (all (good_file full) fs) h), records_shaped fs (and_right (good_file full f) (all (good_file full) fs) h))

-- ---- runs
module _ (i e : ℕ) (files : List FileRecord) where
  -- a run begins with the file at its first place
  pub run_turn : i < e → e ≤ length files → run i e files ≡ file_of (get_or files i past) ∷ run (i + 1) e files
  unfolding run
  run_turn h k = drop_view file_of i e files past h k

  -- a run whose start is past its end is empty
  pub run_ended : e ≤ i → run i e files ≡ []
  unfolding run
  run_ended h = ap (map file_of) (run_past i e files h)

  -- a run that ends beyond the room ends with the room
  pub run_room : (n : ℕ) → length files ≡ n → run i (min e n) files ≡ run i e files
  unfolding run
  run_room n q = ap (map file_of) (run_within i e n files q)

  -- the bytes of a run: the first file's and those of the rest
  pub total_turn : i < e → e ≤ length files → total (run i e files) ≡ (get_or files i past).size + total (run (i + 1) e files)
  unfolding total sum file_of
  total_turn h k = rw (run_turn h k)

  -- no bytes once the run has ended
  pub total_ended : e ≤ i → total (run i e files) ≡ 0
  unfolding total sum
  total_ended h = rw (run_ended h)

  -- the numbers of a run: the first file's and those of the rest
  pub numbers_turn : i < e → e ≤ length files → numbers (run i e files) ≡ (get_or files i past).number.0 ∷ numbers (run (i + 1) e files)
  unfolding numbers file_of
  numbers_turn h k = rw (run_turn h k)

  -- no numbers once the run has ended
  pub numbers_ended : e ≤ i → numbers (run i e files) ≡ []
  unfolding numbers
  numbers_ended h = rw (run_ended h)

  -- the smallest key of a run, after one file more
  pub low_turn : (k : List ℕ) → i < e → e ≤ length files
      → smallest_of k (run i e files) ≡ smallest_of (cond (before (key_of (get_or files i past).smallest) k) (key_of (get_or files i past).smallest) k) (run (i + 1) e files)
  unfolding smallest_of file_of
  low_turn k h g = rw (run_turn h g)

  -- once the run has ended it is the one so far
  pub low_ended : (k : List ℕ) → e ≤ i → smallest_of k (run i e files) ≡ k
  unfolding smallest_of
  low_ended k h = rw (run_ended h)

  -- the largest key of a run, after one file more
  pub high_turn : (k : List ℕ) → i < e → e ≤ length files
      → largest_of k (run i e files) ≡ largest_of (cond (before k (key_of (get_or files i past).largest)) (key_of (get_or files i past).largest) k) (run (i + 1) e files)
  unfolding largest_of file_of
  high_turn k h g = rw (run_turn h g)

  -- once the run has ended it is the one so far
  pub high_ended : (k : List ℕ) → e ≤ i → largest_of k (run i e files) ≡ k
  unfolding largest_of
  high_ended k h = rw (run_ended h)

  -- the smallest key of a run, starting with its first file's
  pub low_first : i < e → e ≤ length files → low_key (run i e files) ≡ smallest_of (key_of (get_or files i past).smallest) (run (i + 1) e files)
  unfolding file_of
  low_first h g = rw (run_turn h g) (low_fold (file_of (get_or files i past)) (run (i + 1) e files))

  -- the largest key of a run, starting with its first file's
  pub high_first : i < e → e ≤ length files → high_key (run i e files) ≡ largest_of (key_of (get_or files i past).largest) (run (i + 1) e files)
  unfolding file_of
  high_first h g = rw (run_turn h g) (high_fold (file_of (get_or files i past)) (run (i + 1) e files))

  -- a run that has ended has blank keys as its ends
  pub ends_none : e ≤ i → ends_of (run i e files) ≡ record { low = key_record []; high = key_record [] }
  unfolding ends_of low_key high_key find
  ends_none h = rw (run_ended h)

  -- the most bytes of a run of good files
  pub total_bound : length files ≡ max_files → e ≤ max_files → all (good_file full) (run i e files) ≡ true → total (run i e files) ≤ max_bytes
  unfolding run
  total_bound q h g =
      let n : length (run i e files) ≤ max_files = omega (arith, length-map (slice i e files) file_of, length-slice i e files (omega arith)) in
      let m = total_most (run i e files) (λ f t. (file_facts full f ((all_in (good_file full) (run i e files)).0 g f t)).size) in
      omega arith

-- ---- columns of numbers

-- a run of the column of numbers is the numbers of that run
pub column_run : (n from to : ℕ) (files : List FileRecord) (d column : List ℕ) → n ≤ length files → from ≤ to → to ≤ n → column ≡ put d 0 (numbers (run 0 n files))
    → slice from to column ≡ numbers (run from to files)
unfolding run numbers
column_run n from to files d column q h k e =
    let number : File → ℕ = λ f. f.number in
    let fs = map file_of (take n files) in
    let size : length (map number fs) ≡ n = length-map fs number ∙ length-map (take n files) file_of ∙ length-take-le n files q in
    ap (slice from to) (e ∙ put_front d (map number fs)) ∙ ap (drop from) (take-append-le to (map number fs) (drop (length (map number fs)) d) (omega arith))
    ∙ slice_map number from to fs ∙ ap (map number) (slice_map file_of from to (take n files) ∙ ap (λ (rs : List FileRecord). map file_of (drop from rs)) (take-take to n files k))
