-- Laws of levels in one array: which file may follow which, levels cut by their counts, and one array for one list of levels. Assumes nothing.
use Rattle.std.specs.Prelude.{ℕ, zero, suc, ◌+◌, ◌-◌, ◌^◌, ◌≤◌, ◌<◌, ◌≡◌, ◌↔◌, Bool, not, ◌&&◌, eqb, ltb, get_or, set, take, replicate}
use Rattle.std.proofs.Common.{zero-le, ◌∙◌, add-one, length-drop, take-append-drop, take_at, drop_at, length-take-le, take-take}
use Rattle.std.proofs.Math.Path.{refl, sym, ap}
use Rattle.std.proofs.Math.Bool.{true, false}
use mathlib.Core.List.{List, [], ◌∷◌, ◌++◌, map, Memᴰ as In}
use native.Mathlib.Omega.{arith}
use Rattle.std.proofs.Math.Dec.{leb}
use borrow.Author.Tests.{leb-true, le-leb, lt-leb, ltb-true, ltb-false, lt-ltb, eqb-true, eq-eqb}
use Rattle.std.proofs.Math.ListN.{length, drop, length-map, length-replicate, get_or-map}
use Rattle.std.proofs.Math.Seq.{slice}
use Rattle.lemmas.specs.Lists.{all, chain, join, sum, distinct}
use Rattle.lemmas.specs.ListLaws.{and_left, and_right, and_true, both, all_in, join_empties}
use Rattle.lemmas.specs.Slices.{put, parts, part_at, parts_turn, parts_over, length_parts, join_parts, lengths_parts, sum_lengths, put_parts, put_front, put_cons, put_nil, put_whole, length_put, drop_replicate}
use Rattle.lemmas.specs.Loops.{chain_map_broken, chain_map_goes_on, chain_map_ended}
use Rattle.lemmas.specs.Merge.{all_take, all_drop}
use Rattle.lemmas.specs.Maps.{join_map, lengths_map, all_join}
use Rattle.lemmas.specs.Each.{Each, each_take, each_drop, each_put, each_replicate}
use Rattle.model.specs.Key.{before}
use Rattle.model.specs.File.{File, full, by_smallest, in_order, levelwise, good_file, good_files, numbers, total, max_size, level_count, max_files}
use Rattle.model.proofs.SnapshotLaws.{file_facts}
use Rattle.records.specs.Record.{file_of, record_of, blank, vacant, sound_record, well_record, is_blank, past, Shaped, AllShaped}
use Rattle.records.specs.RecordLaws.{AllWords, sound_list_lem, blank_list, vacant_blank, blank_shaped, well_list_lem, well_list_is, files_of_records, records_well, records_shaped, column_run}
use Rattle.records.specs.RecordLaws.{well_says as record_says}
use Rattle.records.specs.Run.{run}
use Rattle.records.specs.declared.FileRecord.{FileRecord}
use Rattle.levels.specs.declared.Surveyed.{Surveyed}
use Rattle.levels.specs.Levels.{follows, levels_of, laid_out, counts_of, sound_levels, well_levels, arranged, unarranged, survey_of, tells_well}

-- ---- which file may follow which

-- at level 0: by smallest key
pub follows_first : (l : ℕ) (f g : File) → l ≡ 0 → follows l f g ≡ not (by_smallest g f)
unfolding follows
follows_first zero f g e = refl
follows_first (suc l) f g e = absurd (omega arith)

-- deeper: strictly apart
pub follows_deeper : (l : ℕ) (f g : File) → (l ≡ 0 → ⊥) → follows l f g ≡ before f.largest g.smallest
unfolding follows
follows_deeper zero f g h = absurd (h refl)
follows_deeper (suc l) f g h = refl

-- a level is in order if each file may follow the one before it
pub in_order_is : (l : ℕ) (fs : List File) → in_order l fs ≡ chain (follows l) fs
unfolding in_order follows
in_order_is zero fs = refl
in_order_is (suc l) fs = refl

-- ---- level after level

module _ (files : List FileRecord) (counts : List ℕ) (l from : ℕ) where
  -- the levels from l on: the run of level l, and the levels after it
  pub levels_turn : l < length counts
      → levels_of (drop from files) (drop l counts) ≡ run from (from + get_or counts l 0) files ∷ levels_of (drop (from + get_or counts l 0) files) (drop (l + 1) counts)
  unfolding levels_of run
  levels_turn h = ap (map (map file_of)) (parts_turn files counts l from h)

  -- no level is left
  pub levels_over_lem : length counts ≤ l → levels_of (drop from files) (drop l counts) ≡ []
  unfolding levels_of
  levels_over_lem h = ap (map (map file_of)) (parts_over files counts l from h)

  -- the level is in order: the levels after it decide
  pub order_passed : l < length counts → in_order l (run from (from + get_or counts l 0) files) ≡ true
      → levelwise in_order l (levels_of (drop from files) (drop l counts)) ≡ levelwise in_order (l + 1) (levels_of (drop (from + get_or counts l 0) files) (drop (l + 1) counts))
  unfolding levelwise
  order_passed h t = rw (levels_turn h, t, add-one)

  -- the level is not in order: the answer is no
  pub order_failed : l < length counts → in_order l (run from (from + get_or counts l 0) files) ≡ false
      → levelwise in_order l (levels_of (drop from files) (drop l counts)) ≡ false
  unfolding levelwise
  order_failed h t = rw (levels_turn h, t)

  -- no level is left: all are in order
  pub order_ended : length counts ≤ l → levelwise in_order l (levels_of (drop from files) (drop l counts)) ≡ true
  unfolding levelwise
  order_ended h = rw (levels_over_lem h)

-- ---- one level, file by file: i is the place of the next file

module _ (l i e : ℕ) (files : List FileRecord) (k : e ≤ length files) where
  module _ (p : 1 ≤ i) (h : i < e) where
    -- the file at i, written as the one after i - 1
    abbrev here : follows l (file_of (get_or files (i - 1) past)) (file_of (get_or files i past)) ≡ follows l (file_of (get_or files (i - 1) past)) (file_of (get_or files (i - 1 + 1) past))
    here = let n : i - 1 + 1 ≡ i = omega arith in rw n

    -- it may not follow the one before: the level is not in order
    pub next_fails : follows l (file_of (get_or files (i - 1) past)) (file_of (get_or files i past)) ≡ false → in_order l (run (i - 1) e files) ≡ false
    unfolding run
    next_fails t = in_order_is l (run (i - 1) e files) ∙ chain_map_broken file_of (follows l) (i - 1) e files past (omega arith) k (sym here ∙ t)

    -- it may: the files after it decide
    pub next_follows : follows l (file_of (get_or files (i - 1) past)) (file_of (get_or files i past)) ≡ true → in_order l (run (i - 1) e files) ≡ in_order l (run (i + 1 - 1) e files)
    unfolding run
    next_follows t =
        let n : i - 1 + 1 ≡ i + 1 - 1 = omega arith in
        in_order_is l (run (i - 1) e files) ∙ chain_map_goes_on file_of (follows l) (i - 1) e files past (omega arith) k (sym here ∙ t)
        ∙ ap (λ (j : ℕ). chain (follows l) (run j e files)) n ∙ sym (in_order_is l (run (i + 1 - 1) e files))

  -- no file is left
  pub none_next : e ≤ i → in_order l (run (i - 1) e files) ≡ true
  unfolding run
  none_next h = in_order_is l (run (i - 1) e files) ∙ chain_map_ended file_of (follows l) (i - 1) e files past (omega arith) k

-- all files have been passed, so the level is in order
pub level_ordered : (l from i e : ℕ) (files : List FileRecord) → e ≤ length files → e ≤ i → (from < i → in_order l (run (i - 1) e files) ≡ in_order l (run from e files))
    → in_order l (run from e files) ≡ true
level_ordered l from i e files k h d = go (ltb from i) refl
  where
    go : (t : Bool) → ltb from i ≡ t → in_order l (run from e files) ≡ true
    go true t = sym (d (ltb-true from i t)) ∙ none_next l i e files k h
    go false t =
        let n : from + 1 - 1 ≡ from = omega arith in
        let ended : e ≤ from + 1 = omega (arith, ltb-false from i t) in
        sym (ap (λ (j : ℕ). in_order l (run j e files)) n) ∙ none_next l (from + 1) e files k ended

-- ---- the files of all levels

module _ (files : List FileRecord) (counts : List ℕ) where
  -- there are as many levels as counts
  pub levels_number : length (levels_of files counts) ≡ length counts
  unfolding levels_of
  levels_number = length-map (parts files counts) (map file_of) ∙ length_parts files counts

  -- the files of all levels are those at the front
  pub files_of_levels : sum counts ≤ length files → join (levels_of files counts) ≡ map file_of (take (sum counts) files)
  unfolding levels_of
  files_of_levels h = join_map file_of (parts files counts) ∙ ap (map file_of) (join_parts files counts h)

  -- the counts are the levels' lengths
  pub counts_of_levels : sum counts ≤ length files → counts_of (levels_of files counts) ≡ counts
  unfolding levels_of counts_of
  counts_of_levels h = lengths_map file_of (parts files counts) ∙ lengths_parts files counts h

  -- a level is the run from its start
  pub level_run_lem : (l : ℕ) → l < length counts → get_or (levels_of files counts) l [] ≡ run (sum (take l counts)) (sum (take l counts) + get_or counts l 0) files
  unfolding levels_of run
  level_run_lem l h = get_or-map (map file_of) (parts files counts) l [] ∙ ap (map file_of) (part_at files counts l h)

-- ---- the bytes, level by level

module _ (files : List FileRecord) (counts : List ℕ) where
  -- a turn: one more level's bytes are written
  pub bytes_turn : (out : List ℕ) (l from : ℕ) → l < length counts → l < length out
      → put (set out l (total (run from (from + get_or counts l 0) files))) (l + 1) (map total (levels_of (drop (from + get_or counts l 0) files) (drop (l + 1) counts)))
      ≡ put out l (map total (levels_of (drop from files) (drop l counts)))
  bytes_turn out l from h k =
      let to = from + get_or counts l 0 in
      put_cons out l (total (run from to files)) (map total (levels_of (drop to files) (drop (l + 1) counts))) k
      ∙ ap (λ (ls : List (List File)). put out l (map total ls)) (sym (levels_turn files counts l from h))

  -- no level is left
  pub bytes_over : (out : List ℕ) (l from : ℕ) → length counts ≤ l → put out l (map total (levels_of (drop from files) (drop l counts))) ≡ out
  bytes_over out l from h = ap (λ (ls : List (List File)). put out l (map total ls)) (levels_over_lem files counts l from h) ∙ put_nil out l

  -- writing all over an array of as many places
  pub bytes_start : (d : List ℕ) → length d ≡ length counts → put d 0 (map total (levels_of files counts)) ≡ map total (levels_of files counts)
  bytes_start d e = put_whole d (map total (levels_of files counts)) (length-map (levels_of files counts) total ∙ levels_number files counts ∙ sym e)

-- the file of a well-formed record has at most 2^40 bytes
pub size_bound : (r : FileRecord) → well_record r ≡ true → r.size ≤ max_size
unfolding file_of
size_bound r h = (file_facts full (file_of r) ((record_says r).0 h).1).size

-- ---- one list of levels, one array

-- levels that fit an array: no more files than places, each good
pub record Fits (ls : List (List File)) : Type 0 where
  pub room : length (join ls) ≤ max_files
  pub good : all (good_file full) (join ls) ≡ true

-- a good file whose number fits 64 bits
abbrev good_word : File → Bool
good_word f = good_file full f && ltb f.number (2 ^ 64)

-- well-formed levels, part by part
pub record Good (ls : List (List File)) : Type 0 where
  pub levels : length ls ≡ level_count
  pub fits : Fits ls
  pub words : (f : File) → In f (join ls) → f.number < 2 ^ 64
  pub distinct_numbers : distinct (numbers (join ls)) ≡ true
  pub ordered : levelwise in_order 0 ls ≡ true

-- the test holds exactly if each part does
pub good_says : (ls : List (List File)) → good_files full ls ≡ true ↔ Good ls
unfolding good_files full
good_says ls =
    let a = eqb (length ls) level_count in
    let b = all good_word (join ls) in
    let c = distinct (numbers (join ls)) in
    let d = leb (length (join ls)) max_files in
    let e = levelwise in_order 0 ls in (
      λ h.
          let abcd = and_left (a && b && c && d) e h in
          let abc = and_left (a && b && c) d abcd in
          let ab = and_left (a && b) c abc in
          let each = (all_in good_word (join ls)).0 (and_right a b ab) in
          record {
            levels = eqb-true (length ls) level_count (and_left a b ab);
            fits = record {
              room = leb-true (length (join ls)) max_files (and_right (a && b && c) d abcd);
              good = (all_in (good_file full) (join ls)).1 (λ f m. and_left (good_file full f) (ltb f.number (2 ^ 64)) (each f m));
            };
            words = λ f m. ltb-true f.number (2 ^ 64) (and_right (good_file full f) (ltb f.number (2 ^ 64)) (each f m));
            distinct_numbers = and_right (a && b) c abc;
            ordered = and_right (a && b && c && d) e h;
          },
      λ g.
          let good : b ≡ true = (all_in good_word (join ls)).1 (λ f m. both (good_file full f) (ltb f.number (2 ^ 64)) ((all_in (good_file full) (join ls)).0 g.fits.good f m) (lt-ltb f.number (2 ^ 64) (g.words f m))) in
          both (a && b && c && d) e (both (a && b && c) d (both (a && b) c (both a b (eq-eqb (length ls) level_count g.levels) good) g.distinct_numbers) (le-leb (length (join ls)) max_files g.fits.room)) g.ordered,
    )

-- the kept records of good files stand for them, level by level
levels_of_records : (ls : List (List File)) → all (all (good_file full)) ls ≡ true → map (map file_of) (map (map record_of) ls) ≡ ls
unfolding all
levels_of_records [] h = refl
levels_of_records (l ∷ ls) h =
    rw (files_of_records l (and_left (all (good_file full) l) (all (all (good_file full)) ls) h), levels_of_records ls (and_right (all (good_file full) l) (all (all (good_file full)) ls) h))

module _ (ls : List (List File)) (w : Fits ls) where
  -- the sum of the counts is the number of files
  pub counts_sum : sum (counts_of ls) ≡ length (join ls)
  unfolding counts_of
  counts_sum = sum_lengths ls

  -- cutting the array by the counts gives the levels
  pub held_levels : levels_of (laid_out ls) (counts_of ls) ≡ ls
  unfolding levels_of laid_out counts_of
  held_levels =
      let rs = map (map record_of) ls in
      ap (λ (l : List FileRecord). map (map file_of) (parts (put (vacant full.room) 0 l) (map length ls))) (sym (join_map record_of ls))
      ∙ ap (λ (ns : List ℕ). map (map file_of) (parts (put (vacant full.room) 0 (join rs)) ns)) (sym (lengths_map record_of ls))
      ∙ ap (map (map file_of)) (put_parts (vacant full.room) rs)
      ∙ levels_of_records ls (sym (all_join (good_file full) ls) ∙ w.good)

  -- it has `max_files` places
  pub laid_length : length (laid_out ls) ≡ max_files
  unfolding laid_out full vacant
  laid_length =
      let r = w.room in
      length_put (replicate max_files blank) 0 (map record_of (join ls)) (omega (arith, length-map (join ls) record_of, length-replicate max_files blank)) ∙ length-replicate max_files blank

  -- its front is the records of the files
  pub laid_front : take (sum (counts_of ls)) (laid_out ls) ≡ map record_of (join ls)
  unfolding laid_out
  laid_front =
      rw (put_front (vacant full.room) (map record_of (join ls)))
      (take_at (map record_of (join ls)) (drop (length (map record_of (join ls))) (vacant full.room)) (sum (counts_of ls)) (length-map (join ls) record_of ∙ sym counts_sum))

  -- the rest is blank records
  pub laid_back : drop (sum (counts_of ls)) (laid_out ls) ≡ vacant (max_files - sum (counts_of ls))
  unfolding laid_out full vacant
  laid_back =
      let e : length (map record_of (join ls)) ≡ sum (counts_of ls) = length-map (join ls) record_of ∙ sym counts_sum in
      rw (put_front (replicate max_files blank) (map record_of (join ls)))
      (drop_at (map record_of (join ls)) (drop (length (map record_of (join ls))) (replicate max_files blank)) (sum (counts_of ls)) e
      ∙ ap (λ (n : ℕ). drop n (replicate max_files blank)) e ∙ drop_replicate (sum (counts_of ls)) max_files blank)

  -- each record's keys have their room
  pub laid_shaped : AllShaped (laid_out ls)
  unfolding laid_out full vacant
  laid_shaped = each_put Shaped (replicate max_files blank) 0 (map record_of (join ls)) (each_replicate Shaped max_files blank blank_shaped) (records_shaped (join ls) w.good)

  -- the array that holds levels is sound
  pub sound_laid : sound_levels (laid_out ls) (counts_of ls) ≡ true
  unfolding sound_levels full
  sound_laid =
      let n = sum (counts_of ls) in
      let roomy : n ≤ max_files = rw counts_sum w.room in
      both (leb n max_files && all sound_record (take n (laid_out ls))) (all is_blank (drop n (laid_out ls)))
      (both (leb n max_files) (all sound_record (take n (laid_out ls))) (le-leb n max_files roomy)
      (rw laid_front (well_list_lem (map record_of (join ls)) (records_well (join ls) w.good)).0))
      (rw laid_back (vacant_blank (max_files - n)))

-- sound levels, part by part
pub record Sound (files : List FileRecord) (counts : List ℕ) : Type 0 where
  pub room : sum counts ≤ max_files
  pub records : all sound_record (take (sum counts) files) ≡ true
  pub blanks : all is_blank (drop (sum counts) files) ≡ true

-- the test holds exactly if each part does
pub sound_says : (files : List FileRecord) (counts : List ℕ) → sound_levels files counts ≡ true ↔ Sound files counts
unfolding sound_levels full
sound_says files counts =
    let n = sum counts in
    let a = leb n max_files in
    let b = all sound_record (take n files) in
    let c = all is_blank (drop n files) in (
      λ h. record { room = leb-true n max_files (and_left a b (and_left (a && b) c h)); records = and_right a b (and_left (a && b) c h); blanks = and_right (a && b) c h },
      λ s. both (a && b) c (both a b (le-leb n max_files s.room) s.records) s.blanks,
    )

-- the records of a run of files are sound
pub run_sound : (files : List FileRecord) (counts : List ℕ) (from to : ℕ) → to ≤ sum counts → sound_levels files counts ≡ true → all sound_record (slice from to files) ≡ true
run_sound files counts from to h s =
    let e : take to (take (sum counts) files) ≡ take to files = take-take to (sum counts) files h in
    all_drop sound_record from (take to files) (sym (ap (all sound_record) e) ∙ all_take sound_record to (take (sum counts) files) ((sound_says files counts).0 s).records)

-- a sound array is the array of its levels
pub sound_is : (files : List FileRecord) (counts : List ℕ) → length files ≡ max_files → AllShaped files → sound_levels files counts ≡ true
    → (files ≡ laid_out (levels_of files counts)) × (counts ≡ counts_of (levels_of files counts))
unfolding laid_out full vacant
sound_is files counts q s h =
    let t = (sound_says files counts).0 h in
    let n = sum counts in
    let r = t.room in
    let fits : n ≤ length files = omega arith in
    let rs = take n files in
    let front : rs ≡ map record_of (join (levels_of files counts)) =
    sound_list_lem rs (each_take Shaped n files s) t.records ∙ ap (map record_of) (sym (files_of_levels files counts fits)) in
    let back : drop n files ≡ replicate (max_files - n) blank =
    blank_list (drop n files) (each_drop Shaped n files s) t.blanks ∙ ap (λ (k : ℕ). replicate k blank) (length-drop n files ∙ ap (λ (k : ℕ). k - n) q) in
    let size : length rs ≡ n = length-take-le n files fits in
    let whole : files ≡ put (replicate max_files blank) 0 rs =
    sym (take-append-drop n files) ∙ ap (λ (z : List FileRecord). rs ++ z) (back ∙ sym (drop_replicate n max_files blank) ∙ ap (λ (k : ℕ). drop k (replicate max_files blank)) (sym size))
    ∙ sym (put_front (replicate max_files blank) rs) in
    (whole ∙ ap (put (replicate max_files blank) 0) front, sym (counts_of_levels files counts fits))

-- levels with no files are empty places
pub laid_none : (n : ℕ) → laid_out (replicate n []) ≡ vacant max_files
unfolding laid_out full
laid_none n = ap (λ (fs : List File). put (vacant max_files) 0 (map record_of fs)) (join_empties n) ∙ put_nil (vacant max_files) 0

-- ---- well-formed levels

-- well-formed levels, part by part
pub record Well (files : List FileRecord) (counts : List ℕ) : Type 0 where
  pub sound : Sound files counts
  pub good : Good (levels_of files counts)

-- the test holds exactly if each part does
pub well_says : (files : List FileRecord) (counts : List ℕ) → well_levels files counts ≡ true ↔ Well files counts
unfolding well_levels
well_says files counts =
    let a = sound_levels files counts in
    let b = good_files full (levels_of files counts) in
    let sound = sound_says files counts in
    let good = good_says (levels_of files counts) in (
      λ h. record { sound = sound.0 (and_left a b h); good = good.0 (and_right a b h) },
      λ w. both a b (sound.1 w.sound) (good.1 w.good),
    )

-- if all numbers fit 64 bits, testing them changes nothing
words_good : (rs : List FileRecord) → AllWords rs → all good_word (map file_of rs) ≡ all (good_file full) (map file_of rs)
unfolding all Each file_of
words_good [] w = refl
words_good (r ∷ rs) w = rw (lt-ltb r.number.0 (2 ^ 64) w.0, words_good rs w.1, and_true (good_file full (file_of r)))

-- ---- one look at levels

-- a conjunction whose last part fails
pub last_fails : (a b : Bool) → b ≡ false → a && b ≡ false
last_fails true b e = e
last_fails false b e = refl

module _ (files : List FileRecord) (counts : List ℕ) where
  -- more files than the room: not arranged
  pub too_many_lem : max_files < sum counts → arranged files counts ≡ false
  unfolding arranged full
  too_many_lem h = rw (lt-leb (sum counts) max_files h)

  -- within the room: records, blank places and order decide
  pub arranged_is : sum counts ≤ max_files
      → arranged files counts ≡ all well_record (take (sum counts) files) && all is_blank (drop (sum counts) files) && levelwise in_order 0 (levels_of files counts)
  unfolding arranged full
  arranged_is h = rw (le-leb (sum counts) max_files h)

  -- the survey of levels that are not arranged has no files
  pub survey_none : arranged files counts ≡ false → survey_of files counts ≡ unarranged
  unfolding survey_of
  survey_none t = rw t

  -- the survey of levels that are arranged has all numbers and bytes
  pub survey_all : arranged files counts ≡ true
      → survey_of files counts ≡ record { numbers = put (replicate max_files 0) 0 (numbers (run 0 (sum counts) files)); bytes = map total (levels_of files counts); total = sum counts; arranged = true }
  unfolding survey_of
  survey_all t = rw t

  -- the survey says whether they are arranged
  pub survey_arranged : (survey_of files counts).arranged ≡ arranged files counts
  unfolding unarranged
  survey_arranged = go (arranged files counts) refl
    where
      go : (t : Bool) → arranged files counts ≡ t → (survey_of files counts).arranged ≡ arranged files counts
      go true e = rw (survey_all e) (sym e)
      go false e = rw (survey_none e) (sym e)

  -- the survey from a column of numbers, the bytes of the levels and the number of files
  pub survey_is : (n : ℕ) (column sums : List ℕ) → arranged files counts ≡ true → n ≡ sum counts → column ≡ put (replicate max_files 0) 0 (numbers (run 0 n files))
      → sums ≡ map total (levels_of files counts) → record { numbers = column; bytes = sums; total = n; arranged = true } ≡ survey_of files counts
  survey_is n column sums t e f g =
      cc (f, g) ∙ ap (λ (k : ℕ). seen (put (replicate max_files 0) 0 (numbers (run 0 k files))) k) e ∙ sym (survey_all t)
    where
      seen : List ℕ → ℕ → Surveyed
      seen ns k = record { numbers = ns; bytes = map total (levels_of files counts); total = k; arranged = true }

  -- well-formed levels are arranged
  well_arranged : length files ≡ max_files → well_levels files counts ≡ true → arranged files counts ≡ true
  well_arranged q h =
      let w = (well_says files counts).0 h in
      let room = w.sound.room in
      let rs = take (sum counts) files in
      let good : all (good_file full) (map file_of rs) ≡ true = rw (files_of_levels files counts (omega arith)) at w.good.fits.good in
      let records : all well_record rs ≡ true = well_list_is rs ∙ both (all sound_record rs) (all (good_file full) (map file_of rs)) w.sound.records good in
      rw (arranged_is room, records, w.sound.blanks) w.good.ordered

  -- so the survey has their bytes
  pub survey_bytes : length files ≡ max_files → well_levels files counts ≡ true → (survey_of files counts).bytes ≡ map total (levels_of files counts)
  survey_bytes q h = ap (λ (v : Surveyed). v.bytes) (survey_all (well_arranged q h))

  -- the survey of well-formed levels has their numbers and their total
  pub survey_numbers : length files ≡ max_files → well_levels files counts ≡ true
      → ((survey_of files counts).numbers ≡ put (replicate max_files 0) 0 (numbers (run 0 (sum counts) files))) × ((survey_of files counts).total ≡ sum counts)
  survey_numbers q h = let all_seen = survey_all (well_arranged q h) in (ap (λ (v : Surveyed). v.numbers) all_seen, ap (λ (v : Surveyed). v.total) all_seen)

  -- arranged levels have no more files than the room
  pub arranged_room : arranged files counts ≡ true → sum counts ≤ max_files
  unfolding arranged full
  arranged_room e =
      let a = leb (sum counts) max_files in
      let b = all well_record (take (sum counts) files) in
      let c = all is_blank (drop (sum counts) files) in
      leb-true (sum counts) max_files (and_left a b (and_left (a && b) c (and_left (a && b && c) (levelwise in_order 0 (levels_of files counts)) e)))

  -- a survey has no more files than the room
  pub survey_room : (survey_of files counts).total ≤ max_files
  unfolding unarranged
  survey_room = go (arranged files counts) refl
    where
      go : (t : Bool) → arranged files counts ≡ t → (survey_of files counts).total ≤ max_files
      go true e = rw (survey_all e) (arranged_room e)
      go false e = rw (survey_none e) (omega arith)

-- the parts of the test in another order
regroup : (t a b u c d v e : Bool) → t ≡ true → u ≡ true → v ≡ true → (t && a && b) && (u && c && d && v && e) ≡ (a && c) && b && d && e
regroup t a b u c d v e p q r = rw (p, q, r) (go a b c d)
  where
    go : (a b c d : Bool) → (a && b) && (c && d && true && e) ≡ (a && c) && b && d && e
    go false b c d = refl
    go true b false d = last_fails b false refl
    go true true true true = refl
    go true true true false = refl
    go true false true d = refl

-- within the room: records, blank places, numbers and order decide
well_is : (files : List FileRecord) (counts : List ℕ) → length files ≡ max_files → length counts ≡ level_count → AllWords files → sum counts ≤ max_files
    → well_levels files counts
    ≡ all well_record (take (sum counts) files) && all is_blank (drop (sum counts) files) && distinct (numbers (map file_of (take (sum counts) files)))
    && levelwise in_order 0 (levels_of files counts)
unfolding well_levels sound_levels good_files full
well_is files counts q k w h =
    let n = sum counts in
    let rs = take n files in
    let j : join (levels_of files counts) ≡ map file_of rs = files_of_levels files counts (omega arith) in
    let seven : eqb (length (levels_of files counts)) level_count ≡ true = eq-eqb (length (levels_of files counts)) level_count (levels_number files counts ∙ k) in
    let roomy : leb (length (map file_of rs)) max_files ≡ true = le-leb (length (map file_of rs)) max_files (omega (arith, length-map rs file_of, length-take-le n files (omega arith))) in
    rw (j, words_good rs (each_take (λ (r : FileRecord). r.number.0 < 2 ^ 64) n files w), well_list_is rs)
    (regroup (leb n max_files) (all sound_record rs) (all is_blank (drop n files)) (eqb (length (levels_of files counts)) level_count) (all (good_file full) (map file_of rs))
    (distinct (numbers (map file_of rs))) (leb (length (map file_of rs)) max_files) (levelwise in_order 0 (levels_of files counts)) (le-leb n max_files h) seven roomy)

-- a conjunction that fails still fails with one more part
still_fails : (a b d u : Bool) → a && b && d ≡ false → a && b && u && d ≡ false
still_fails false b d u e = refl
still_fails true false d u e = refl
still_fails true true d true e = e
still_fails true true d false e = refl

-- levels are well-formed exactly if their survey is arranged and has no number twice
pub survey_well : (files : List FileRecord) (counts : List ℕ) → length files ≡ max_files → length counts ≡ level_count → AllWords files
    → tells_well (survey_of files counts) ≡ well_levels files counts
unfolding unarranged tells_well well_levels sound_levels full run
survey_well files counts q k w = go (arranged files counts) refl
  where
    go : (t : Bool) → arranged files counts ≡ t → tells_well (survey_of files counts) ≡ well_levels files counts
    go true e =
        let h = arranged_room files counts e in
        let n = sum counts in
        let a = all well_record (take n files) in
        let b = all is_blank (drop n files) in
        let d = levelwise in_order 0 (levels_of files counts) in
        let u = distinct (numbers (map file_of (take n files))) in
        let all_three : a && b && d ≡ true = sym (arranged_is files counts h) ∙ e in
        let two = and_left (a && b) d all_three in
        let seen : take n (put (replicate max_files 0) 0 (numbers (run 0 n files))) ≡ numbers (map file_of (take n files)) =
        column_run n 0 n files (replicate max_files 0) (put (replicate max_files 0) 0 (numbers (run 0 n files))) (omega arith) zero-le (omega arith) refl in
        rw (survey_all files counts e, seen) (sym (well_is files counts q k w h ∙ rw (and_left a b two, and_right a b two, and_right (a && b) d all_three, and_true u)))
    go false e = rw (survey_none files counts e) (sym (room (leb (sum counts) max_files) refl))
      where
        room : (t : Bool) → leb (sum counts) max_files ≡ t → well_levels files counts ≡ false
        room true r =
            let h = leb-true (sum counts) max_files r in
            let n = sum counts in
            well_is files counts q k w h
            ∙ still_fails (all well_record (take n files)) (all is_blank (drop n files)) (levelwise in_order 0 (levels_of files counts)) (distinct (numbers (map file_of (take n files)))) (sym (arranged_is files counts h) ∙ e)
        room false r = rw r
