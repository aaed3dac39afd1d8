-- Laws of the plan of an edit: it decides 6 and 8, and merging by it gives the survivors. Assumes nothing.
use Rattle.std.specs.Prelude.{ℕ, ◌+◌, ◌≤◌, ◌<◌, ◌≡◌, true, take, replicate}
use Rattle.std.proofs.Common.{zero-le, ◌∙◌, length-take-le}
use Rattle.std.proofs.Math.Path.{refl, sym, ap}
use mathlib.Core.List.{List, ◌++◌, map, map-map, Memᴰ as In}
use native.Mathlib.Omega.{arith}
use Rattle.std.proofs.Math.ListN.{length, length-append, length-map, length-replicate}
use Rattle.lemmas.specs.Lists.{join, distinct, sum, up_from}
use Rattle.lemmas.specs.Slices.{put, length_put, parts, sum_lengths}
use Rattle.lemmas.specs.UpFrom.{up_from_length}
use Rattle.lemmas.specs.Maps.{join_map}
use Rattle.model.specs.File.{File, full, numbers, in_order, levelwise, max_additions, max_files}
use Rattle.model.specs.Edit.{survivors_from}
use Rattle.records.specs.Record.{file_of, record_of, blank, vacant}
use Rattle.records.specs.RecordLaws.{column_run}
use Rattle.records.specs.Run.{run}
use Rattle.records.specs.declared.FileRecord.{FileRecord}
use Rattle.levels.specs.Levels.{levels_of}
use Rattle.edit.specs.Edit.{edit_of, addition_of}
use Rattle.edit.specs.EditLaws.{HasRoom, Few}
use Rattle.edit.specs.declared.Edit.{Edit}
use Rattle.edit.specs.declared.Deletion.{Deletion}
use Rattle.edit.specs.declared.Addition.{Addition}
use Rattle.answers.specs.Outcome.{passed}
use Rattle.edit_stayers.specs.Stayers.{record_number, stays_by, stayers_by, number_at, places_of, is_below, kept_of, records_at}
use Rattle.edit_stayers.specs.StayLaws.{stays_in, stayers_few}
use Rattle.edit_stayers.specs.PlaceLaws as place
use Rattle.edit_order.specs.Arrangement.{record_before, key_before, sorted_levels, are_levels, arranged_of}
use Rattle.edit_order.specs.ArrangeLaws.{key_order, sorted_length, sorted_records, sorted_below}
use Rattle.edit_merge.specs.Builder.{files_of, merges, merged_of, sums}
use Rattle.edit_merge.specs.MergeLaws.{merges_sums}
use Rattle.edit_plan.specs.Planning.{levels_gone, numbers_gone, levels_in, numbers_in, keys_in, news_of, stay_places, new_places, crowding, plan_of, file_in, staying, ordered, united}
use Rattle.edit_plan.specs.ColumnLaws as entries
use Rattle.edit_plan.specs.BuildLaws.{Ready, fine_are, staying_ordered, staying_distinct, twice_is, survivors_length}
use Rattle.edit_plan.specs.declared.EditPlan.{EditPlan}

-- ---- the places of the stayers
module _ (column counts : List ℕ) (ds : List Deletion) (as' : List Addition) (room : sum counts ≤ max_files) where
  -- there are no more than before
  pub stay_few : length (join (stay_places column counts ds as')) ≤ sum counts
  unfolding stay_places
  stay_few =
      let test = stays_by (levels_gone ds) (numbers_gone ds) (levels_in as') (numbers_in as') in
      omega (arith, stayers_few (number_at column) test 0 (places_of counts), ap length (place.places_joined counts room), up_from_length 0 (sum counts))

  -- each is a place of a base file
  pub stay_below : (p : ℕ) → In p (join (stay_places column counts ds as')) → p < sum counts
  unfolding stay_places
  stay_below p i = place.stay_below (number_at column) _ counts room p i

-- ---- an edit on well-formed levels

-- the numbers of the first n files, as lent from the column
pub column_is : (files : List FileRecord) (n k : ℕ) (column : List ℕ) → n ≤ length files → k ≡ n → column ≡ put (replicate max_files 0) 0 (numbers (run 0 k files)) → take k column ≡ map record_number (take n files)
unfolding run numbers file_of
column_is files n k column h e q =
    column_run k 0 k files (replicate max_files 0) column (omega arith) zero-le (omega arith) q ∙ map-map (λ (f : File). f.number) file_of (take k files) ∙ ap (λ (i : ℕ). map record_number (take i files)) e

module _ (files : List FileRecord) (counts : List ℕ) (e : Edit) (r : HasRoom e) (w : Few e) (g : Ready files counts (edit_of e)) (column : List ℕ)
    (hc : column ≡ map record_number (take (sum counts) files)) where
  -- there is room for the base
  room : sum counts ≤ max_files
  room = g.well.sound.room

  -- the column is as long as the base
  pub column_length : length column ≡ sum counts
  column_length = let a = room in let b = g.room in ap length hc ∙ length-map (take (sum counts) files) record_number ∙ length-take-le (sum counts) files (omega arith)

  -- the places of the stayers
  abbrev pub stay : List (List ℕ)
  stay = stay_places column counts (entries.gone e r w) (entries.new e r w)

  -- the same by the edit's own test
  stay_is : stay ≡ stayers_by (number_at column) (stays_in (edit_of e)) 0 (places_of counts)
  unfolding stay_places
  stay_is = rw (entries.stays_is e r w)

  -- the records there are the stayers
  stay_stands : map (records_at files) stay ≡ staying files counts (edit_of e)
  stay_stands = ap (map (records_at files)) stay_is ∙ place.stay_records files counts column (stays_in (edit_of e)) g.room room hc

  -- the numbers there are the stayers'
  stay_numbers : map (number_at column) (join stay) ≡ numbers (map file_of (join (staying files counts (edit_of e))))
  unfolding numbers file_of
  stay_numbers =
      ap (λ (z : List (List ℕ)). map (number_at column) (join z)) stay_is
      ∙ place.stay_numbers files counts column (stays_in (edit_of e)) g.room room hc
      ∙ sym (map-map (λ (f : File). f.number) file_of (join (staying files counts (edit_of e))))

  -- none of them stands twice
  pub stay_distinct : distinct (map (number_at column) (join stay)) ≡ true
  stay_distinct = rw stay_numbers (staying_distinct files counts (edit_of e) g)

  -- there are as many as stayers
  stay_size : length (join stay) ≡ length (join (staying files counts (edit_of e)))
  unfolding records_at
  stay_size =
      sym (length-map (join stay) _) ∙ ap length (sym (join_map _ stay)) ∙ ap (λ (z : List (List FileRecord)). length (join z)) stay_stands

  -- the numbers of all survivors
  abbrev pub every : List ℕ
  every = map (number_at column) (join stay) ++ numbers_in (entries.new e r w)

  -- refusal 6, by them
  pub once_is : distinct every ≡ distinct (numbers (join (survivors_from (edit_of e) 0 (levels_of files counts))))
  once_is = rw (stay_numbers, entries.numbers_are e r w) (sym (twice_is files counts (edit_of e) g))

  -- refusal 8, by them
  pub total_is : length every ≡ length (join (survivors_from (edit_of e) 0 (levels_of files counts)))
  unfolding numbers_in
  total_is =
      omega (
        arith,
        length-append (map (number_at column) (join stay)) (numbers_in (entries.new e r w)),
        length-map (join stay) (number_at column),
        length-map (entries.new e r w) (λ (a : Addition). a.number.0),
        stay_size,
        survivors_length files counts (edit_of e) g,
        entries.new_length e r w,
        entries.additions_length e r w,
      )

  -- ---- the additions

  -- their levels are among the seven
  pub levels_fine : are_levels (levels_in (entries.new e r w)) ≡ true
  levels_fine = rw (entries.levels_are e r w) (fine_are (edit_of e) g.fine)

  -- the records at their places are the additions in order
  new_stands : map (records_at (news_of (entries.new e r w))) (new_places (entries.new e r w)) ≡ ordered (edit_of e)
  unfolding new_places news_of full vacant
  new_stands =
      let as' = entries.new e r w in
      let k = length as' in
      let n = entries.new_length e r w in
      let few = w.additions in
      let long : k ≤ length (news_of as') = omega (arith, length_put (replicate max_additions blank) 0 (map (λ (a : Addition). record_of (addition_of a).file) as') (omega (arith, length-map as' (λ (a : Addition). record_of (addition_of a).file), length-replicate max_additions blank)), length-replicate max_additions blank) in
      sorted_records (news_of as') (keys_in as') (levels_in as') k long (entries.keys_are as')
      ∙ ap (sorted_levels record_before (levels_in as')) (entries.new_files as' k refl ∙ entries.records_are e r w)
      ∙ ap (λ (ks : List ℕ). sorted_levels record_before ks (map record_of (map file_in (edit_of e).additions))) (entries.levels_are e r w)

  -- there are as many as the edit adds
  new_size : length (join (new_places (entries.new e r w))) ≡ e.addition_count
  unfolding new_places levels_in
  new_size =
      let as' = entries.new e r w in
      let keys = keys_in as' in
      sorted_length (key_before keys) (key_order keys) (levels_in as') (up_from 0 (length as')) 0 levels_fine (length-map as' (λ (a : Addition). a.level) ∙ sym (up_from_length 0 (length as')))
      ∙ up_from_length 0 (length as') ∙ entries.new_length e r w

  -- ---- the plan
  module _ (p : EditPlan) (q : p ≡ plan_of column counts (entries.gone e r w) (entries.new e r w)) where
    -- its outcome is 6 or 8, by the numbers of all survivors
    pub plan_outcome : p.outcome ≡ passed (crowding every)
    unfolding plan_of
    plan_outcome = ap (λ (x : EditPlan). x.outcome) q

    -- its places are places of the base
    pub plan_places : is_below max_files p.places ≡ true
    unfolding plan_of kept_of full
    plan_places =
        let h = room in
        ap (λ (x : EditPlan). is_below max_files x.places) q
        ∙ place.below_laid max_files max_files (join stay) (omega arith) (place.below_of max_files (join stay) (λ n i. omega (arith, stay_below column counts (entries.gone e r w) (entries.new e r w) room n i)))

    -- its order is places of the additions
    pub plan_order : is_below max_additions p.order ≡ true
    unfolding plan_of arranged_of full new_places
    plan_order =
        let as' = entries.new e r w in
        let h = w.additions in
        let n = entries.new_length e r w in
        ap (λ (x : EditPlan). is_below max_additions x.order) q
        ∙ place.below_laid max_additions max_additions (join (new_places as')) (omega arith) (place.below_of max_additions (join (new_places as')) (λ p i. omega (arith, sorted_below _ _ (length as') p i)))

    -- there are as many additions as the edit has
    pub plan_news : sum p.new_counts ≡ e.addition_count
    unfolding plan_of arranged_of
    plan_news = ap (λ (x : EditPlan). sum x.new_counts) q ∙ sum_lengths (new_places (entries.new e r w)) ∙ new_size

    -- stayers and additions are together as many as the survivors
    pub plan_total : sum p.counts + sum p.new_counts ≡ length every
    unfolding plan_of kept_of numbers_in
    plan_total =
        omega (
          arith,
          ap (λ (x : EditPlan). sum x.counts) q ∙ sum_lengths stay,
          plan_news,
          entries.new_length e r w,
          length-append (map (number_at column) (join stay)) (numbers_in (entries.new e r w)),
          length-map (join stay) (number_at column),
          length-map (entries.new e r w) (λ (a : Addition). a.number.0),
        )

    -- the records at its places are the stayers
    plan_stays : parts (records_at files p.places) p.counts ≡ staying files counts (edit_of e)
    unfolding plan_of kept_of
    plan_stays = ap (λ (x : EditPlan). parts (records_at files x.places) x.counts) q ∙ place.laid_records files (replicate full.room 0) stay ∙ stay_stands

    -- they are in order
    pub plan_ordered : levelwise in_order 0 (files_of (parts (records_at files p.places) p.counts)) ≡ true
    plan_ordered = rw plan_stays (staying_ordered files counts (edit_of e) g)

    -- the records in its order are the additions in order
    plan_adds : (news : List FileRecord) → news ≡ news_of (entries.new e r w) → parts (records_at news p.order) p.new_counts ≡ ordered (edit_of e)
    unfolding plan_of arranged_of
    plan_adds news f =
        ap (λ (x : EditPlan). parts (records_at news x.order) x.new_counts) q
        ∙ place.laid_records news (replicate full.additions 0) (new_places (entries.new e r w))
        ∙ ap (λ (z : List FileRecord). map (records_at z) (new_places (entries.new e r w))) f
        ∙ new_stands

    -- merging by the plan merges stayers and additions
    pub plan_merged : (news : List FileRecord) → news ≡ news_of (entries.new e r w)
        → merged_of (merges (parts (records_at files p.places) p.counts) (parts (records_at news p.order) p.new_counts)) ≡ merged_of (united files counts (edit_of e))
    plan_merged news f = rw (plan_stays, plan_adds news f)

    -- the sums of its counts are those of the survivors
    pub plan_counts : sums p.counts p.new_counts ≡ map length (united files counts (edit_of e))
    unfolding plan_of kept_of arranged_of
    plan_counts =
        let new = new_places (entries.new e r w) in
        let old : map length stay ≡ map length (staying files counts (edit_of e)) = sym (place.lengths_at files stay) ∙ ap (map length) stay_stands in
        let adds : map length new ≡ map length (ordered (edit_of e)) = sym (place.lengths_at (news_of (entries.new e r w)) new) ∙ ap (map length) new_stands in
        ap (λ (x : EditPlan). sums x.counts x.new_counts) q ∙ rw (old, adds) (sym (merges_sums (staying files counts (edit_of e)) (ordered (edit_of e))))
