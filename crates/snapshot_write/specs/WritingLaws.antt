-- Laws of snapshots in lent bytes: the lengths of levels and stores, and the snapshot of a well-formed store. Assumes nothing.
use Prim.Native.Nat.{ℕ, ◌-◌, ◌+◌, ◌*◌, ◌≤◌, ◌<◌, min}
use Rattle.std.specs.Prelude.{◌≡◌, refl, true, false, ◌&&◌, take, drop, Ok, Err, replicate}
use Rattle.std.proofs.Math.Path.{sym, ap}
use Rattle.std.proofs.Common.{◌∙◌, length-take-le, take_all, get_or-take, take_at}
use mathlib.Core.List.{List, [], ◌∷◌, ◌++◌, map, map-append, map-map, Memᴰ as In}
use native.Mathlib.Omega.{arith}
use borrow.Author.Tests.{lt-ltb, le-ltb}
use Rattle.std.proofs.Math.ListN.{length, length-replicate, get_or, length-append, length-map, get_or-map}
use Rattle.std.proofs.Math.Seq.{slice}
use Rattle.lemmas.specs.Lists.{all, sort, join, sum, up_from}
use Rattle.lemmas.specs.ListLaws.{and_left, and_right, both, sort_in, sort_length, get_or_in, up_from_in}
use Rattle.lemmas.specs.Little.{bytes, bytes_length}
use Rattle.lemmas.specs.Slices.{put, sum_turn, rest_cons, put_whole, put_front, join_append, take_map, drop_map, take_drop, at_view, length_view}
use Rattle.lemmas.specs.UpFrom.{up_from_length}
use Rattle.lemmas.specs.Merge.{all_at, front_laid}
use Rattle.lemmas.specs.Maps.{map_same_in, sort_same}
use Rattle.model.specs.Calls as calls
use Rattle.lemmas.specs.Laying.{put_next, sorted_length, sorted_places, map_places, part_length}
use Rattle.model.specs.Answer.{Answer, gives, refused, first_of, ◌⇒◌, on_answer, lent}
use Rattle.model.specs.File.{File, State, full, level, numbers, well_formed, good_file, good_counters, level_count, max_files}
use Rattle.model.proofs.Formed.{formed_says}
use Rattle.model.specs.Snapshot.{by_number, write_file, entries, write_entry, section, write_level, five_of, encode, longest_snapshot, counters_long, fresh_long, count_long, number_long, file_long}
use Rattle.model.proofs.SnapshotLaws.{section_length, encode_most, write_file_length, write_key_length}
use Rattle.answers.specs.declared.Refusal.{Refusal}
use Rattle.answers.specs.Outcome.{number_of, answer_of, filling}
use Rattle.counters.specs.Counters.{counters_of}
use Rattle.records.specs.declared.FileRecord.{FileRecord}
use Rattle.records.specs.Record.{file_of, sound_record, well_record, past, Shaped}
use Rattle.records.specs.RecordLaws as records
use Rattle.records.specs.Run.{run}
use Rattle.levels.specs.Levels.{levels_of, well_levels}
use Rattle.levels.specs.LevelsLaws as levels
use Rattle.sorting.specs.Sorting.{by_number_at}
use Rattle.keys.specs.Key.{key_of}
use Rattle.store.specs.declared.Pointer.{Pointer}
use Rattle.store.specs.declared.Store.{Store}
use Rattle.store.specs.Store.{pointer_of, well_pointer, PointerShaped, state_of, well_store}
use Rattle.store.specs.StoreLaws as store
use Rattle.snapshot_write.specs.Writing.{snapshot_of}
use Rattle.snapshot_parts.specs.LayingLaws.{record_short, key_long, pointer_short, set_from, length_here}

-- ---- what is left to count

-- the bytes of a file and of those after it
pub file_left : (fs : List FileRecord) (i : ℕ) → i < length fs → Shaped (get_or fs i past) → well_record (get_or fs i past) ≡ true
    → length (join (map write_file (map file_of (drop i fs)))) ≡ file_long + (get_or fs i past).smallest.len + (get_or fs i past).largest.len + length (join (map write_file (map file_of (drop (i + 1) fs))))
unfolding file_of
file_left fs i h room well =
    let r = get_or fs i past in
    let short = record_short r well in
    let here = ap (λ (rs : List FileRecord). map write_file (map file_of rs)) (rest_cons fs i past h) in
    omega (
      arith,
      part_length (write_file (file_of r)) (map write_file (map file_of (drop (i + 1) fs))) (map write_file (map file_of (drop i fs))) here,
      write_file_length (file_of r),
      key_long r.smallest room.smallest short.0,
      key_long r.largest room.largest short.1,
    )

-- the bytes of a pointer that is set and of those after it
pub pointer_left : (ps : List Pointer) (i : ℕ) → i < length ps → PointerShaped (get_or ps i store.past) → well_pointer (get_or ps i store.past) ≡ true → (get_or ps i store.past).set ≡ true
    → length (join (map write_entry (set_from i ps))) ≡ 2 + (get_or ps i store.past).key.len + length (join (map write_entry (set_from (i + 1) ps)))
pointer_left ps i h room well t =
    let p = get_or ps i store.past in
    omega (arith, length_here ps i h t, write_key_length (key_of p.key), key_long p.key room (pointer_short p well))

-- ---- levels

-- the bytes of the files at the places from j up to n. Places count from the start of a run
abbrev pub at_places : List FileRecord → ℕ → List ℕ → ℕ → ℕ → List (List ℕ)
at_places files from places j n = map (λ p. write_file (file_of (get_or files (from + p) past))) (slice j n places)

-- the bytes of the files at these places
abbrev pub files_at : List FileRecord → ℕ → List ℕ → List (List ℕ)
files_at files from places = map (λ p. write_file (file_of (get_or files (from + p) past))) places

-- the bytes of the levels from l on, whose files start at a place
abbrev pub levels_from : List FileRecord → List ℕ → ℕ → ℕ → List (List ℕ)
levels_from files counts from l = map write_level (levels_of (drop from files) (drop l counts))

-- a level takes two bytes and those of its files
pub level_long : (fs : List File) → length (write_level fs) ≡ 2 + length (join (map write_file fs))
unfolding write_level section
level_long fs =
    let gs = sort by_number fs in
    omega (arith, length-append (bytes count_long (length gs)) (join (map write_file gs)), bytes_length 2 (length gs), sorted_length write_file by_number fs)

-- all levels take two bytes each and those of their files
pub levels_long : (ls : List (List File)) → length (join (map write_level ls)) ≡ 2 * length ls + length (join (map write_file (join ls)))
unfolding join
levels_long [] = refl
levels_long (l ∷ ls) =
    let split = map-append write_file l (join ls) in
    omega (
      arith,
      length-append (write_level l) (join (map write_level ls)),
      level_long l,
      levels_long ls,
      ap (λ (xs : List (List ℕ)). length (join xs)) split,
      ap length (join_append (map write_file l) (map write_file (join ls))),
      length-append (join (map write_file l)) (join (map write_file (join ls))),
    )

-- the numbers of a run, as lent from the column of all numbers
pub lent_numbers : (files : List FileRecord) (zeros column : List ℕ) (from n : ℕ) → length files ≡ max_files → length zeros ≡ max_files → column ≡ put zeros 0 (numbers (run 0 max_files files))
    → take n (drop from column) ≡ numbers (run from (from + n) files)
unfolding numbers run
lent_numbers files zeros column from n q z e =
    let number : File → ℕ = λ f. f.number in
    let fs = map file_of files in
    let room : length (map number fs) ≡ length zeros = omega (arith, length-map fs number, length-map files file_of) in
    let whole : column ≡ map number fs =
    e ∙ ap (λ (rs : List FileRecord). put zeros 0 (map number (map file_of rs))) (take_all max_files files (omega arith)) ∙ put_whole zeros (map number fs) room in
    ap (λ (ns : List ℕ). take n (drop from ns)) whole
    ∙ ap (take n) (drop_map number from fs ∙ ap (map number) (drop_map file_of from files))
    ∙ take_map number n (map file_of (drop from files))
    ∙ ap (map number) (take_map file_of n (drop from files))
    ∙ ap (λ (rs : List FileRecord). map number (map file_of rs)) (take_drop from n files)

-- a run of n files, and their places by rising number
module _ (files : List FileRecord) (from n : ℕ) (h : from + n ≤ length files) where
  -- it has n files
  pub run_size : length (run from (from + n) files) ≡ n
  unfolding run
  run_size = omega (arith, length_view file_of from (from + n) files h)

  -- its bytes: its count, then each file by rising number
  pub level_is : write_level (run from (from + n) files) ≡ bytes count_long n ++ join (map write_file (sort by_number (run from (from + n) files)))
  unfolding write_level section
  level_is =
      let size : length (sort by_number (run from (from + n) files)) ≡ n = sort_length by_number (run from (from + n) files) ∙ run_size in
      rw size

  -- ns are the files' numbers
  module _ (ns : List ℕ) (e : ns ≡ numbers (run from (from + n) files)) where
    -- each place is one of the run
    in_run : (p : ℕ) → In p (sort (by_number_at ns) (up_from 0 n)) → p < n
    in_run p m = omega (arith, ((up_from_in 0 n p).0 ((sort_in (by_number_at ns) (up_from 0 n) p).0 m)).1)

    -- the files at the sorted places are the files by rising number
    pub sorted_run : map (λ p. file_of (get_or files (from + p) past)) (sort (by_number_at ns) (up_from 0 n)) ≡ sort by_number (run from (from + n) files)
    unfolding run numbers by_number_at by_number file_of
    sorted_run =
        let fs = map file_of (slice from (from + n) files) in
        let d = file_of past in
        let at : (i : ℕ) → get_or ns i 0 ≡ (get_or fs i d).number = λ i. ap (λ (l : List ℕ). get_or l i 0) e ∙ get_or-map (λ (f : File). f.number) fs i d in
        map_same_in (λ p. file_of (get_or files (from + p) past)) (λ p. get_or fs p d) (sort (by_number_at ns) (up_from 0 n))
        (λ p m. let b = in_run p m in sym (at_view file_of from (from + n) files p past d (omega arith) h))
        ∙ ap (map (λ p. get_or fs p d)) (sort_same (by_number_at ns) (λ i j. by_number (get_or fs i d) (get_or fs j d)) (λ i j. rw (at i, at j)) (up_from 0 n))
        ∙ ap (λ (k : ℕ). map (λ p. get_or fs p d) (sort (λ i j. by_number (get_or fs i d) (get_or fs j d)) (up_from 0 k))) (sym run_size)
        ∙ sorted_places by_number fs d

    -- the places at the front of an array
    module _ (zeros places : List ℕ) (g : n ≤ max_files) (f : places ≡ put zeros 0 (sort (by_number_at ns) (up_from 0 (min max_files (length ns))))) where
      -- the front is the sorted places
      front : take n places ≡ sort (by_number_at ns) (up_from 0 n)
      unfolding numbers
      front =
          let all_here : min max_files (length ns) ≡ n = omega (arith, ap length e, length-map (run from (from + n) files) (λ (f : File). f.number), run_size) in
          let size : length (sort (by_number_at ns) (up_from 0 n)) ≡ n = sort_length (by_number_at ns) (up_from 0 n) ∙ up_from_length 0 n in
          front_laid zeros places (sort (by_number_at ns) (up_from 0 n)) n size (f ∙ ap (λ (k : ℕ). put zeros 0 (sort (by_number_at ns) (up_from 0 k))) all_here)

      -- the bytes of the files at these places
      pub places_written : at_places files from places 0 n ≡ map write_file (sort by_number (run from (from + n) files))
      places_written =
          sym (map-map write_file (λ p. file_of (get_or files (from + p) past)) (take n places))
          ∙ ap (λ (ps : List ℕ). map write_file (map (λ p. file_of (get_or files (from + p) past)) ps)) front ∙ ap (map write_file) sorted_run

      -- each is a place of the run
      pub place_below : (j : ℕ) → j < n → get_or places j 0 < n
      place_below j k =
          let size : length (sort (by_number_at ns) (up_from 0 n)) ≡ n = sort_length (by_number_at ns) (up_from 0 n) ∙ up_from_length 0 n in
          let here : get_or places j 0 ≡ get_or (sort (by_number_at ns) (up_from 0 n)) j 0 = sym (get_or-take n places j 0 k) ∙ ap (λ (l : List ℕ). get_or l j 0) front in
          rw here (in_run (get_or (sort (by_number_at ns) (up_from 0 n)) j 0) (get_or_in (sort (by_number_at ns) (up_from 0 n)) j 0 (omega arith)))

-- the records of well-formed levels are well-formed
pub levels_records : (files : List FileRecord) (counts : List ℕ) → length files ≡ max_files → well_levels files counts ≡ true → all well_record (take (sum counts) files) ≡ true
levels_records files counts q h =
    let w = (levels.well_says files counts).0 h in
    let n = sum counts in
    let room = w.sound.room in
    let good = rw (levels.files_of_levels files counts (omega arith)) at w.good.fits.good in
    records.well_list_is (take n files) ∙ both (all sound_record (take n files)) (all (good_file full) (map file_of (take n files))) w.sound.records good

-- each record of well-formed levels is well-formed
pub level_record : (files : List FileRecord) (counts : List ℕ) (i : ℕ) → length files ≡ max_files → well_levels files counts ≡ true → i < sum counts → well_record (get_or files i past) ≡ true
level_record files counts i q h k =
    let n = sum counts in
    let room = ((levels.well_says files counts).0 h).sound.room in
    ap well_record (sym (get_or-take n files i past k))
    ∙ all_at well_record (take n files) i past (levels_records files counts q h) (omega (arith, length-take-le n files (omega arith)))

-- a level of well-formed levels, whose files start where those of the levels before it end
module _ (files : List FileRecord) (counts : List ℕ) (from i : ℕ) (h : i < length counts) where
  -- its files have room, and the next level's start where they end
  pub level_room : well_levels files counts ≡ true → from + sum (drop i counts) ≡ sum counts
      → (from + get_or counts i 0 ≤ sum counts) × (sum counts ≤ max_files) × (from + get_or counts i 0 + sum (drop (i + 1) counts) ≡ sum counts)
  level_room w e =
      let turn = sum_turn counts i h in
      (omega arith, ((levels.well_says files counts).0 w).sound.room, omega arith)

  -- its bytes, then those of the levels after it
  pub level_first : levels_from files counts from i ≡ write_level (run from (from + get_or counts i 0) files) ∷ levels_from files counts (from + get_or counts i 0) (i + 1)
  level_first = ap (map write_level) (levels.levels_turn files counts i from h)

  -- their lengths
  pub level_first_long : length (join (levels_from files counts from i))
      ≡ length (write_level (run from (from + get_or counts i 0) files)) + length (join (levels_from files counts (from + get_or counts i 0) (i + 1)))
  level_first_long =
      let n = get_or counts i 0 in
      part_length (write_level (run from (from + n) files)) (levels_from files counts (from + n) (i + 1)) (levels_from files counts from i) level_first

-- the places of a run's files by rising number, as they are found in the column of all numbers
module _ (files : List FileRecord) (column places : List ℕ) (from n : ℕ) (q : length files ≡ max_files) (h : from + n ≤ max_files)
    (e : column ≡ put (replicate max_files 0) 0 (numbers (run 0 max_files files)))
    (f : places ≡ put (replicate max_files 0) 0 (sort (by_number_at (take (from + n - from) (drop from column))) (up_from 0 (min max_files (length (take (from + n - from) (drop from column))))))) where
  -- the numbers in the column are those of the run
  these : take (from + n - from) (drop from column) ≡ numbers (run from (from + n) files)
  these =
      let size : from + n - from ≡ n = omega arith in
      ap (λ (k : ℕ). take k (drop from column)) size ∙ lent_numbers files (replicate max_files 0) column from n q (length-replicate {A = ℕ} max_files 0) e

  -- the level's bytes: its count, then the files at the places
  pub level_bytes : write_level (run from (from + n) files) ≡ bytes count_long n ++ join (files_at files from (take n places))
  level_bytes =
      level_is files from n (omega arith)
      ∙ ap (λ (x : List (List ℕ)). bytes count_long n ++ join x) (sym (places_written files from n (omega arith) (take (from + n - from) (drop from column)) these (replicate max_files 0) places (omega arith) f))

  -- their length
  pub level_bytes_long : length (write_level (run from (from + n) files)) ≡ 2 + length (join (files_at files from (take n places)))
  level_bytes_long =
      let x = join (files_at files from (take n places)) in
      omega (arith, ap length level_bytes, length-append (bytes count_long n) x, bytes_length 2 n)

  -- each place is one of the run
  pub place_in_run : (j : ℕ) → j < n → get_or (take n places) j 0 < n
  place_in_run j k = rw (get_or-take n places j 0 k) (place_below files from n (omega arith) (take (from + n - from) (drop from column)) these (replicate max_files 0) places (omega arith) f j k)

-- the files at the places from j on
module _ (files : List FileRecord) (from : ℕ) (places : List ℕ) (j : ℕ) (h : j < length places) where
  -- the bytes of the first, then those of the others
  pub file_first : files_at files from (drop j places) ≡ write_file (file_of (get_or files (from + get_or places j 0) past)) ∷ files_at files from (drop (j + 1) places)
  file_first = ap (files_at files from) (rest_cons places j 0 h)

  -- their lengths
  pub file_first_long : length (join (files_at files from (drop j places)))
      ≡ length (write_file (file_of (get_or files (from + get_or places j 0) past))) + length (join (files_at files from (drop (j + 1) places)))
  file_first_long =
      part_length (write_file (file_of (get_or files (from + get_or places j 0) past))) (files_at files from (drop (j + 1) places)) (files_at files from (drop j places)) file_first

-- ---- snapshots

-- five counters have this length
pub counters_long_lem : (a b c d e : ℕ) → length (section (bytes number_long) (a ∷ b ∷ c ∷ d ∷ e ∷ [])) ≡ counters_long
unfolding section join bytes
counters_long_lem a b c d e = refl

-- the parts of a store's snapshot
module _ (s : Store) (q : length s.counts ≡ level_count) where
  -- it is these parts one after another
  pub encode_is : encode (state_of s)
      ≡ section (bytes number_long) (five_of (counters_of s.counters)) ++ section write_entry (entries 0 (map pointer_of s.pointers)) ++ join (map write_level (levels_of s.files s.counts))
  unfolding encode state_of level
  encode_is =
      let ls = levels_of s.files s.counts in
      let seven : length ls ≡ level_count = levels.levels_number s.files s.counts ∙ q in
      ap (λ (r : List (List ℕ)). section (bytes number_long) (five_of (counters_of s.counters)) ++ section write_entry (entries 0 (map pointer_of s.pointers)) ++ join r)
      (ap (λ (n : ℕ). map (λ l. write_level (get_or ls l [])) (up_from 0 n)) (sym seven) ∙ map_places write_level ls [])

  -- their lengths
  pub encode_parts : length (encode (state_of s))
      ≡ counters_long + length (section write_entry (entries 0 (map pointer_of s.pointers))) + length (join (map write_level (levels_of s.files s.counts)))
  unfolding five_of
  encode_parts =
      let c = counters_of s.counters in
      let five = section (bytes number_long) (five_of c) in
      let pointers = section write_entry (entries 0 (map pointer_of s.pointers)) in
      omega (
        arith,
        ap length encode_is,
        length-append (five ++ pointers) (join (map write_level (levels_of s.files s.counts))),
        length-append five pointers,
        counters_long_lem c.next c.manifest c.last c.log c.previous,
      )

  -- writing them one after another from the start on writes the snapshot
  pub encode_laid : (out o₁ o₂ o₃ : List ℕ) (n₁ n₂ : ℕ) → length (encode (state_of s)) ≤ length out → o₁ ≡ put out 0 (section (bytes number_long) (five_of (counters_of s.counters))) → n₁ ≡ 0 + counters_long
      → o₂ ≡ put o₁ n₁ (section write_entry (entries 0 (map pointer_of s.pointers))) → n₂ ≡ n₁ + length (section write_entry (entries 0 (map pointer_of s.pointers)))
      → o₃ ≡ put o₂ n₂ (join (map write_level (levels_of s.files s.counts))) → o₃ ≡ encode (state_of s) ++ drop (length (encode (state_of s))) out
  unfolding five_of
  encode_laid out o₁ o₂ o₃ n₁ n₂ h e₁ f₁ e₂ f₂ e₃ =
      let c = counters_of s.counters in
      let five = section (bytes number_long) (five_of c) in
      let pointers = section write_entry (entries 0 (map pointer_of s.pointers)) in
      let levels_bytes = join (map write_level (levels_of s.files s.counts)) in
      let n = counters_long_lem c.next c.manifest c.last c.log c.previous in
      let size = encode_parts in
      let two = put_next out o₁ o₂ 0 n₁ five pointers (omega arith) e₁ (omega arith) e₂ in
      let three = put_next out o₂ o₃ 0 n₂ (five ++ pointers) levels_bytes (omega (arith, length-append five pointers)) two (omega (arith, length-append five pointers)) e₃ in
      three ∙ ap (put out 0) (sym encode_is) ∙ put_front out (encode (state_of s))

  -- the snapshot is as long as that of a fresh store, the pointers that are set and the files
  pub encode_long : sum s.counts ≤ length s.files
      → length (encode (state_of s)) ≡ fresh_long + length (join (map write_entry (entries 0 (map pointer_of s.pointers)))) + length (join (map write_file (map file_of (take (sum s.counts) s.files))))
  encode_long h =
      let es = entries 0 (map pointer_of s.pointers) in
      let ls = levels_of s.files s.counts in
      let seven : length ls ≡ level_count = levels.levels_number s.files s.counts ∙ q in
      omega (
        arith,
        encode_parts,
        section_length write_entry es,
        levels_long ls,
        ap (λ (fs : List File). length (join (map write_file fs))) (levels.files_of_levels s.files s.counts h),
      )

-- the call on a state
module _ (t : State) (n : ℕ) where
  -- not well-formed: 14
  write_ill : well_formed full t ≡ false → calls.write full t n ≡ refused 14
  unfolding calls.write first_of ◌⇒◌
  write_ill h = rw h

  -- the output is too short: 13
  write_short : well_formed full t ≡ true → n < length (encode t) → calls.write full t n ≡ refused 13
  unfolding calls.write first_of ◌⇒◌
  write_short h k = rw (h, lt-ltb n (length (encode t)) k)

  -- else the snapshot
  write_gives : well_formed full t ≡ true → length (encode t) ≤ n → calls.write full t n ≡ gives (encode t)
  unfolding calls.write first_of ◌⇒◌
  write_gives h k = rw (h, le-ltb n (length (encode t)) k)

-- the same on a store
module _ (s : Store) (n : ℕ) where
  -- not well-formed: 14
  pub written_ill : well_store s ≡ false → snapshot_of s n ≡ refused 14
  unfolding snapshot_of
  written_ill h = store.on_store_ill s (λ t. calls.write full t n) (write_ill (state_of s) n) h

  -- the output is too short: 13
  pub written_short : well_store s ≡ true → n < length (encode (state_of s)) → snapshot_of s n ≡ refused 13
  unfolding snapshot_of
  written_short h k = store.on_store_well s (λ t. calls.write full t n) h ∙ write_short (state_of s) n ((store.well_says s).0 h).formed k

  -- else the snapshot
  pub written_well : well_store s ≡ true → length (encode (state_of s)) ≤ n → snapshot_of s n ≡ gives (encode (state_of s))
  unfolding snapshot_of
  written_well h k = store.on_store_well s (λ t. calls.write full t n) h ∙ write_gives (state_of s) n ((store.well_says s).0 h).formed k

-- the result of a refusal, and the output unchanged
pub said_refused : (a : Answer (List ℕ)) (r : Refusal) (out : List ℕ) → a ≡ refused (number_of r) → (answer_of (Err r) ≡ filling a) × (out ≡ lent a out)
unfolding answer_of filling on_answer lent
said_refused a r out e = rw e (refl, refl)

-- the result of a snapshot, and the output with it in front
pub said_gives : (a : Answer (List ℕ)) (bs out o : List ℕ) (n : ℕ) → a ≡ gives bs → n ≡ length bs → o ≡ bs ++ drop (length bs) out → (answer_of (Ok n) ≡ filling a) × (o ≡ lent a out)
unfolding answer_of filling on_answer lent
said_gives a bs out o n e f g = rw e (ap gives f, g)

-- no snapshot is longer than the longest
pub snapshot_most : (s : Store) → well_store s ≡ true → length (encode (state_of s)) ≤ longest_snapshot
snapshot_most s h = encode_most (state_of s) ((formed_says full (state_of s)).0 ((store.well_says s).0 h).formed)

-- the parts of a well-formed store are well-formed
module _ (s : Store) (q : length s.pointers ≡ level_count) (h : well_store s ≡ true) where
  -- its pointers
  pub store_pointers : all well_pointer s.pointers ≡ true
  store_pointers =
      let a = good_counters (counters_of s.counters) in
      let b = all well_pointer s.pointers in
      let c = well_levels s.files s.counts in
      and_right a b (and_left (a && b) c (sym (store.well_is s q) ∙ h))

  -- its levels
  pub store_levels : well_levels s.files s.counts ≡ true
  store_levels =
      let a = good_counters (counters_of s.counters) in
      let b = all well_pointer s.pointers in
      let c = well_levels s.files s.counts in
      and_right (a && b) c (sym (store.well_is s q) ∙ h)

-- bytes that were written at the start of room of their own are copied to the start of the output
pub copied : (d own own' out out' : List ℕ) (n : ℕ) → length d ≤ length own → own' ≡ put own 0 d → n ≡ length d → out' ≡ put out 0 (take (n - 0) own') → out' ≡ d ++ drop (length d) out
copied d own own' out out' n h e f g =
    let part : take (n - 0) own' ≡ d = ap (take (n - 0)) (e ∙ put_front own d) ∙ take_at d (drop (length d) own) (n - 0) (omega (arith, f)) in
    g ∙ ap (put out 0) part ∙ put_front out d
