-- The outcome made of the bytes of a snapshot and of a list is the snapshot of the patched state. Assumes nothing.
use Prim.Native.Nat.{ℕ, ◌<◌}
use Rattle.std.specs.Prelude.{◌≡◌, length, drop}
use Rattle.std.proofs.Common.{ap, ◌∙◌, arith}
use Rattle.std.proofs.Math.Path.{sym}
use Rattle.std.proofs.Math.Bool.{true, false}
use mathlib.Core.List.{List, [], ◌++◌, map, map-map, append_assoc, append-nil, Memᴰ as In}
use Rattle.std.proofs.Math.Dec.{eqb}
use Rattle.lemmas.specs.Lists.{join, up_from}
use Rattle.lemmas.specs.Little.{bytes}
use Rattle.model.specs.File.{State, full, level, level_count}
use Rattle.model.proofs.Formed.{WF}
use Rattle.model.specs.Snapshot.{entries, write_entry, section, write_level, five_of, encode, count_long, number_long, counter_count}
use Rattle.model.specs.Difference.{Difference, counter_at, good_list}
use Rattle.model.specs.DifferenceBytes.{section_of, write_difference, section_at, write_differences}
use Rattle.model.specs.Patched.{counter_after, patched}
use Rattle.model.proofs.OverlaidLaws.{pointer_level, brings_pointer, overlaid_pointers, overlaid_counters}
use Rattle.snapshot_parse.specs.Parsing.{number_in}
use Rattle.snapshot_parse.specs.BackLaws.{count_back, count_rest, past_counters, entries_fit}
use Rattle.difference_scan.specs.Listing.{pointers_at, levels_at, as_is}
use Rattle.difference_scan.specs.ListingLaws.{pointers_written, levels_from, stored, levels_at_lem}
use Rattle.patch_scan.specs.Listed.{over_run}
use Rattle.patch_scan.specs.Outcome.{pointers_in, counters_in, counters_over, levels_over, outcome_of}
use Rattle.patch_scan.specs.EntryLaws.{Entered, pointers_entered}
use Rattle.patch_scan.specs.RunLaws.{entries_past, over_back}
use Rattle.patch_scan.specs.LevelLaws.{written_section, kept_ordered, section_good, files_by_level, files_end, levels_over_lem}
use Rattle.patch_scan.specs.CounterLaws.{counters_over_lem}

-- a good list whose sections can be counted
module _ (ds : List Difference) (g : good_list full ds ≡ true) (few : (k : ℕ) → length (section_at k ds) < 65536) where
  -- a section of it
  abbrev part : ℕ → List ℕ
  part k = section write_difference (section_at k ds)

  -- an entry of pointers, as it was written
  pointer_entered : (d : Difference) → In d (section_at 1 ds) → Entered true write_entry pointer_level brings_pointer d
  pointer_entered d m = let r = section_good ds g 1 d m in pointers_entered d r.0 r.1

  -- the pointers follow the files
  pointers_in_lem : pointers_in (write_differences ds) ≡ part 1 ++ part 2
  unfolding pointers_in write_differences
  pointers_in_lem = entries_past false (section_at 0 ds) (part 1 ++ part 2) (few 0) (files_end ds g)

  -- the counters follow the pointers, and nothing follows them
  counters_in_lem : counters_in (write_differences ds) ≡ part 2 ++ []
  unfolding counters_in
  counters_in_lem = rw pointers_in_lem (entries_past true (section_at 1 ds) (part 2) (few 1) (λ d m. (pointer_entered d m).ends)) ∙ sym (append-nil (part 2))

  module _ (s : State) (w : WF full s) where
    -- the counters of the outcome
    counters_back : section as_is (counters_over 0 counter_count (encode s) (number_in count_long (counters_in (write_differences ds))) (drop count_long (counters_in (write_differences ds)))) ≡ section (bytes number_long) (five_of (patched s ds).counters)
    unfolding section_at
    counters_back =
        let cs = section_at 2 ds in
        let f : ℕ → ℕ = λ i. counter_after i cs (counter_at s i) in
        rw (
          counters_in_lem,
          count_back write_difference cs [] (few 2),
          count_rest write_difference cs [],
          counters_over_lem s w counter_count 0 cs [] (omega arith) (kept_ordered ds g (λ d. eqb (section_of d) 2)) (section_good ds g 2) (λ k u m. omega arith),
          overlaid_counters full s ds w g,
        )
        (ap (section as_is) (sym (map-map (bytes number_long) f (up_from 0 counter_count))) ∙ written_section (bytes number_long) (map f (up_from 0 counter_count)))

    -- its pointers
    pointers_back : section as_is (over_run true (number_in count_long (pointers_at (encode s))) (drop count_long (pointers_at (encode s))) (number_in count_long (pointers_in (write_differences ds))) (drop count_long (pointers_in (write_differences ds))))
        ≡ section write_entry (entries 0 (patched s ds).pointers)
    pointers_back =
        let es = entries 0 s.pointers in
        let ps = section_at 1 ds in
        rw (
          past_counters s w,
          pointers_in_lem,
          count_back write_difference ps (part 2) (few 1),
          count_rest write_difference ps (part 2),
          over_back pointers_written pointer_level brings_pointer es ps (levels_from s w 0 level_count) (part 2) (entries_fit s w) (stored s w).few_pointers pointer_entered,
          ← overlaid_pointers full s ds w g,
        )
        (written_section write_entry (entries 0 (patched s ds).pointers))

    -- its levels
    levels_back : levels_over level_count 0 (levels_at (encode s)) (number_in count_long (write_differences ds)) (drop count_long (write_differences ds)) ≡ join (map (λ l. write_level (level (patched s ds) l)) (up_from 0 level_count))
    unfolding write_differences
    levels_back =
        let fs = section_at 0 ds in
        let x = part 1 ++ part 2 in
        rw (levels_at_lem s w, count_back write_difference fs x (few 0), count_rest write_difference fs x, files_by_level ds g) (levels_over_lem ds g s w level_count 0 x (omega arith))

-- the outcome of a good list over a well-formed state is the patched state's snapshot
pub outcome_back : (s : State) (ds : List Difference) → WF full s → good_list full ds ≡ true → ((k : ℕ) → length (section_at k ds) < 65536) → outcome_of (encode s) (write_differences ds) ≡ encode (patched s ds)
unfolding outcome_of encode
outcome_back s ds w g few =
    let t = patched s ds in
    rw (counters_back ds g few s w, pointers_back ds g few s w, levels_back ds g few s w)
    (sym (append_assoc (section (bytes number_long) (five_of t.counters)) (section write_entry (entries 0 t.pointers)) (join (map (λ l. write_level (level t l)) (up_from 0 level_count)))))
