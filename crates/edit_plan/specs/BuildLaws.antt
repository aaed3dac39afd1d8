-- Laws of the build of an edit: its survivors as records one after another. Assumes nothing.
use Rattle.std.specs.Prelude.{ℕ, ◌+◌, ◌≤◌, ◌≡◌, ◌⊎◌, true, false, ◌&&◌, take, drop, replicate}
use Rattle.std.proofs.Math.Path.{refl, sym, ap}
use Rattle.std.proofs.Common.{◌∙◌, inl, inr, arith, ltb-true, drop_at, take_at}
use mathlib.Core.List.Memᴰ.{append_cases}
use mathlib.Core.List.Memᴰ.{append_left as in_left}
use mathlib.Core.List.Memᴰ.{append_right as in_right}
use mathlib.Core.List.Memᴰ.{not-nil}
use mathlib.Core.List.{List, [], ◌∷◌, ◌++◌, map, Memᴰ as In}
use Rattle.std.proofs.Math.Dec.{ltb}
use Rattle.std.proofs.Math.ListN.{length, length-replicate}
use Rattle.std.proofs.lemmas.List.{length-map}
use Rattle.lemmas.specs.Lists.{all, join, distinct, sum}
use Rattle.lemmas.specs.ListLaws.{and_left, and_right, all_in, sub_in}
use Rattle.lemmas.specs.Slices.{put, length_put, put_front, put_parts, parts, length_parts, join_parts, sum_lengths}
use Rattle.lemmas.specs.Maps.{all_map, join_map}
use Rattle.lemmas.specs.Merge.{merge, merge_in, all_drop}
use Rattle.model.specs.Key.{before}
use Rattle.model.specs.File.{File, full, numbers, good_file, in_order, no_collision, levelwise, level_count, max_files}
use Rattle.model.specs.Edit as model
use Rattle.model.specs.Edit.{survivors_from}
use Rattle.model.proofs.Formed.{good_file_order}
use Rattle.records.specs.Record.{file_of, record_of, blank, vacant, sound_record, is_blank, past, AllShaped}
use Rattle.records.specs.RecordLaws.{vacant_blank, files_of_records, records_well, well_list_lem}
use Rattle.records.specs.declared.FileRecord.{FileRecord}
use Rattle.levels.specs.Levels.{levels_of, laid_out, counts_of, sound_levels}
use Rattle.levels.specs.LevelsLaws as levels
use Rattle.edit_stayers.specs.Stayers.{record_number}
use Rattle.edit_stayers.specs.StayLaws.{stays_in, stays_left, remaining_from, survivors_distinct, stayers_remain, stayers_length, stayers_sub, remaining_distinct, remaining_levels}
use Rattle.edit_order.specs.Arrangement.{record_before, are_levels}
use Rattle.edit_order.specs.ArrangeLaws.{record_order, sorted_levels_lem, sorted_in, sorted_length}
use Rattle.edit_merge.specs.Builder.{files_of, merges, merged_of}
use Rattle.edit_merge.specs.declared.Merged.{Merged}
use Rattle.edit_merge.specs.MergeLaws.{merges_length, survivors_merged}
use Rattle.edit_plan.specs.Planning.{additions_fine, level_in, file_in, number_in, staying, ordered, united}

-- ---- additions with right levels and good files
module _ (m : model.Edit) (fine : additions_fine m ≡ true) where
  -- each of them
  fine_at : (a : model.Addition) → In a m.additions → (ltb a.level full.levels && good_file full a.file) ≡ true
  unfolding additions_fine
  fine_at = (all_in (λ (a : model.Addition). ltb a.level full.levels && good_file full a.file) m.additions).0 fine

  -- their levels are among the seven
  fine_levels : all (λ (a : model.Addition). ltb a.level full.levels) m.additions ≡ true
  fine_levels = (all_in (λ (a : model.Addition). ltb a.level full.levels) m.additions).1 (λ a i. and_left (ltb a.level full.levels) (good_file full a.file) (fine_at a i))

  -- the same for the column of levels
  pub fine_are : are_levels (map level_in m.additions) ≡ true
  unfolding are_levels
  fine_are = all_map level_in (λ k. ltb k full.levels) m.additions ∙ fine_levels

  -- their files are good
  fine_files : all (good_file full) (map file_in m.additions) ≡ true
  fine_files =
      all_map file_in (good_file full) m.additions
      ∙ (all_in (λ (a : model.Addition). good_file full a.file) m.additions).1 (λ a i. and_right (ltb a.level full.levels) (good_file full a.file) (fine_at a i))

-- ---- the survivors as records

-- a merged record is from one of the two lists
merges_in : (as' bs : List (List FileRecord)) (r : FileRecord) → In r (join (merges as' bs)) → In r (join as') ⊎ In r (join bs)
unfolding merges join
merges_in [] bs r i = absurd (not-nil i)
merges_in (a ∷ as') [] r i = go (merges_in as' [] r) (append_cases a i)
  where
    rest : In r (join as') ⊎ In r [] → In r (a ++ join as') ⊎ In r []
    rest (inl j) = inl (in_right a j)
    rest (inr j) = inr j

    go : (In r (join (merges as' [])) → In r (join as') ⊎ In r []) → In r a ⊎ In r (join (merges as' [])) → In r (a ++ join as') ⊎ In r []
    go ih (inl j) = inl (in_left (join as') j)
    go ih (inr j) = rest (ih j)
merges_in (a ∷ as') (b ∷ bs) r i = go (merges_in as' bs r) (append_cases (merge record_before a b) i)
  where
    level : In r a ⊎ In r b → In r (a ++ join as') ⊎ In r (b ++ join bs)
    level (inl j) = inl (in_left (join as') j)
    level (inr j) = inr (in_left (join bs) j)

    rest : In r (join as') ⊎ In r (join bs) → In r (a ++ join as') ⊎ In r (b ++ join bs)
    rest (inl j) = inl (in_right a j)
    rest (inr j) = inr (in_right b j)

    go : (In r (join (merges as' bs)) → In r (join as') ⊎ In r (join bs)) → In r (merge record_before a b) ⊎ In r (join (merges as' bs)) → In r (a ++ join as') ⊎ In r (b ++ join bs)
    go ih (inl j) = level (merge_in record_before a b r j)
    go ih (inr j) = rest (ih j)

-- levels of sound records with blank records past them are sound
laid_sound : (ls : List (List FileRecord)) → length (join ls) ≤ max_files → all sound_record (join ls) ≡ true → sound_levels (put (vacant max_files) 0 (join ls)) (map length ls) ≡ true
laid_sound ls room sound =
    let rs = join ls in
    let n = sum (map length ls) in
    let e : length rs ≡ n = sym (sum_lengths ls) in
    (levels.sound_says (put (vacant max_files) 0 rs) (map length ls)).1 record {
      room = omega arith;
      records = rw (put_front (vacant max_files) rs, take_at rs (drop (length rs) (vacant max_files)) n e) sound;
      blanks = rw (put_front (vacant max_files) rs, drop_at rs (drop (length rs) (vacant max_files)) n e) (all_drop is_blank (length rs) (vacant max_files) (vacant_blank max_files));
    }

-- well-formed levels, and an edit whose additions have right levels and good files
pub record Ready (files : List FileRecord) (counts : List ℕ) (m : model.Edit) : Type 0 where
  pub room : length files ≡ max_files
  pub seven : length counts ≡ level_count
  pub well : levels.Well files counts
  pub fine : additions_fine m ≡ true

-- such an edit on such levels
module _ (files : List FileRecord) (counts : List ℕ) (m : model.Edit) (g : Ready files counts m) where
  -- there are seven levels
  levels_seven : length (levels_of files counts) ≡ full.levels
  unfolding full
  levels_seven = levels.levels_number files counts ∙ g.seven

  -- no file's largest key is before its smallest
  level_ends : (f : File) → In f (join (levels_of files counts)) → before f.largest f.smallest ≡ false
  level_ends f i = good_file_order full f ((all_in (good_file full) (join (levels_of files counts))).0 g.well.good.fits.good f i)

  -- the stayers of each level are in order
  pub staying_ordered : levelwise in_order 0 (files_of (staying files counts m)) ≡ true
  unfolding levels_of
  staying_ordered = rw (stayers_remain m (stays_in m) (stays_left m) 0 (parts files counts)) (remaining_levels m 0 (levels_of files counts) level_ends g.well.good.ordered)

  -- their numbers are those of the base files that are not left deleted
  pub staying_numbers : numbers (map file_of (join (staying files counts m))) ≡ numbers (join (remaining_from m 0 (levels_of files counts)))
  unfolding levels_of
  staying_numbers =
      ap numbers (sym (join_map file_of (staying files counts m))) ∙ ap (λ (fss : List (List File)). numbers (join fss)) (stayers_remain m (stays_in m) (stays_left m) 0 (parts files counts))

  -- no number stands twice among them
  pub staying_distinct : distinct (numbers (map file_of (join (staying files counts m)))) ≡ true
  staying_distinct = rw staying_numbers (remaining_distinct m 0 (levels_of files counts) g.well.good.distinct_numbers)

  -- refusal 6, by the stayers and the additions
  pub twice_is : distinct (numbers (join (survivors_from m 0 (levels_of files counts)))) ≡ distinct (numbers (map file_of (join (staying files counts m))) ++ map number_in m.additions)
  twice_is =
      rw staying_numbers (survivors_distinct m (levels_of files counts) (λ a i. rw levels_seven (ltb-true a.level full.levels ((all_in (λ (a : model.Addition). ltb a.level full.levels) m.additions).0 (fine_levels m g.fine) a i))))

  -- the files of the merged records are the survivors
  united_files : map (map file_of) (united files counts m) ≡ survivors_from m 0 (levels_of files counts)
  unfolding levels_of full
  united_files =
      survivors_merged m (stays_in m) (stays_left m) (map level_in m.additions) (map record_of (map file_in m.additions)) refl (files_of_records (map file_in m.additions) (fine_files m g.fine))
      (parts files counts) (length_parts files counts ∙ g.seven)
      level_ends g.well.good.ordered

  -- there are as many additions in order as the edit has
  ordered_length : length (join (ordered m)) ≡ length m.additions
  ordered_length =
      let n = length-map m.additions level_in in
      let k = length-map (map file_in m.additions) record_of ∙ length-map m.additions file_in in
      sorted_length record_before record_order (map level_in m.additions) (map record_of (map file_in m.additions)) past (fine_are m g.fine) (n ∙ sym k) ∙ k

  -- there are as many merged records as stayers and additions
  united_length : length (join (united files counts m)) ≡ length (join (staying files counts m)) + length m.additions
  unfolding full
  united_length =
      merges_length (staying files counts m) (ordered m) (stayers_length record_number (stays_in m) 0 (parts files counts) ∙ length_parts files counts ∙ g.seven ∙ sym (sorted_levels_lem record_before (map level_in m.additions) (map record_of (map file_in m.additions))))
      ∙ ap (λ (k : ℕ). length (join (staying files counts m)) + k) ordered_length

  -- refusal 8, by the stayers and the additions
  pub survivors_length : length (join (survivors_from m 0 (levels_of files counts))) ≡ length (join (staying files counts m)) + length m.additions
  survivors_length =
      ap (λ (fss : List (List File)). length (join fss)) (sym united_files) ∙ ap length (join_map file_of (united files counts m)) ∙ length-map (join (united files counts m)) file_of ∙ united_length

  -- each record is sound: it is from the base, or was made of a good file
  united_sound : all sound_record (join (united files counts m)) ≡ true
  united_sound = (all_in sound_record (join (united files counts m))).1 (λ r i. go r (merges_in (staying files counts m) (ordered m) r i))
    where
      go : (r : FileRecord) → In r (join (staying files counts m)) ⊎ In r (join (ordered m)) → sound_record r ≡ true
      go r (inl i) =
          let fits : sum counts ≤ length files = let k = g.well.sound.room in let n = g.room in omega arith in
          let here' : In r (take (sum counts) files) = rw (join_parts files counts fits) at (sub_in r (stayers_sub record_number (stays_in m) 0 (parts files counts)) i) in
          (all_in sound_record (take (sum counts) files)).0 g.well.sound.records r here'
      go r (inr i) =
          let rs = map record_of (map file_in m.additions) in
          (all_in sound_record rs).0 (well_list_lem rs (records_well (map file_in m.additions) (fine_files m g.fine))).0 r (sorted_in record_before (map level_in m.additions) rs r i)

  -- the merged survivors
  module _ (x : Merged) (e : x ≡ merged_of (united files counts m)) where
    -- `fits` tells whether none collide
    pub made_fits : x.fits ≡ levelwise no_collision 0 (survivors_from m 0 (levels_of files counts))
    unfolding merged_of
    made_fits = ap (λ (y : Merged). y.fits) e ∙ ap (levelwise no_collision 0) united_files

    -- they are the array of the survivors, with their counts
    pub made_is : (cs : List ℕ) → cs ≡ map length (united files counts m) → length (join (staying files counts m)) + length m.additions ≤ max_files → AllShaped x.files
        → (x.files ≡ laid_out (survivors_from m 0 (levels_of files counts))) × (cs ≡ counts_of (survivors_from m 0 (levels_of files counts)))
    unfolding merged_of full vacant levels_of
    made_is cs q fits shaped =
        let rs = join (united files counts m) in
        let ns = map length (united files counts m) in
        let laid : x.files ≡ put (replicate max_files blank) 0 rs = ap (λ (y : Merged). y.files) e in
        let made : levels_of x.files ns ≡ survivors_from m 0 (levels_of files counts) =
        ap (λ (z : List FileRecord). levels_of z ns) laid ∙ ap (map (map file_of)) (put_parts (vacant full.room) (united files counts m)) ∙ united_files in
        let long : length x.files ≡ max_files = ap length laid ∙ length_put (replicate max_files blank) 0 rs (omega (arith, united_length, length-replicate max_files blank)) ∙ length-replicate max_files blank in
        let sound = ap (λ (z : List FileRecord). sound_levels z ns) laid ∙ laid_sound (united files counts m) (omega (arith, united_length)) united_sound in
        let s = levels.sound_is x.files ns long shaped sound in
        (s.0 ∙ ap laid_out made, q ∙ s.1 ∙ ap counts_of made)
