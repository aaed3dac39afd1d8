-- The entries of files, which stand level after level, laid over the levels of a snapshot. Assumes nothing.
use Prim.Native.Nat.{ℕ, zero, suc, ◌+◌, ◌-◌, ◌≤◌, ◌<◌}
use Rattle.std.specs.Prelude.{◌≡◌, Bool}
use Rattle.std.proofs.Math.Path.{refl}
use Rattle.std.proofs.Common.{inl, arith, eq-eqb, ltb-true}
use Rattle.std.proofs.Math.Bool.{true, false}
use mathlib.Core.List.{List, ◌++◌, map, Memᴰ as In}
use Rattle.std.proofs.Math.Dec.{eqb, ltb}
use Rattle.std.proofs.Math.ListN.{length, length-append}
use Rattle.std.proofs.lemmas.List.{length-map}
use Rattle.lemmas.specs.Order.{clash, nat_order}
use Rattle.lemmas.specs.Lists.{keep, sort, chain, join, up_from}
use Rattle.lemmas.specs.ListLaws.{and_left, keep_in, up_from_in, sub_chain, sub_keep, map_same}
use Rattle.lemmas.specs.Maps.{of_join_map}
use Rattle.lemmas.specs.Once.{in_join_map, strict_one}
use Rattle.lemmas.specs.Rising.{up_from_rising, strict_join}
use Rattle.model.specs.File.{State, full, level, level_count}
use Rattle.model.proofs.Formed.{WF}
use Rattle.model.specs.Snapshot.{by_number, write_file, section, write_level}
use Rattle.model.specs.Difference.{Difference, only_left, only_right, changed, pointer_is, counter_is, earlier, good_difference, good_list}
use Rattle.model.specs.DifferenceBytes.{section_of, write_difference, section_at}
use Rattle.model.proofs.DifferenceOrderLaws.{earlier_order, earlier_files}
use Rattle.model.proofs.DifferenceReadingLaws.{section_in, good_list_says}
use Rattle.model.specs.Patched.{brings, patched}
use Rattle.model.proofs.OverlaidLaws.{number_named, is_of_level, of_level, names_own, overlaid_level}
use Rattle.difference_scan.specs.Listing.{as_is}
use Rattle.difference_scan.specs.WrittenLaws.{section_past}
use Rattle.difference_scan.specs.ListingLaws.{files_written, levels_from, stored, level_fits}
use Rattle.patch_scan.specs.Listed.{level_in}
use Rattle.patch_scan.specs.Outcome.{levels_over}
use Rattle.patch_scan.specs.EntryLaws.{Ends, EnteredAt, files_entered}
use Rattle.patch_scan.specs.RunLaws.{listed_back, written_on, run_back, over_back}

-- items that were written are a section as they are
pub written_section : {A : Type 0} (w : A → List ℕ) (xs : List A) → section as_is (map w xs) ≡ section w xs
unfolding section
written_section w xs = rw (length-map xs w, map_same (map w xs))

-- an entry of a level is an entry of files
level_section_lem : (l : ℕ) (d : Difference) → is_of_level l d ≡ true → section_of d ≡ 0
unfolding is_of_level section_of
level_section_lem l (only_left m n) h = refl
level_section_lem l (only_right m f) h = refl
level_section_lem l (changed m f) h = refl
level_section_lem l (pointer_is m o) h = clash h refl
level_section_lem l (counter_is i v) h = clash h refl

-- a good entry of files is of a level
section_level : (d : Difference) → section_of d ≡ 0 → good_difference full d ≡ true → (l : ℕ) × (l < level_count) × (is_of_level l d ≡ true)
unfolding is_of_level section_of good_difference full
section_level (only_left m n) h g = (m, ltb-true m level_count (and_left (ltb m level_count) _ g), eq-eqb m m refl)
section_level (only_right m f) h g = (m, ltb-true m level_count (and_left (ltb m level_count) _ g), eq-eqb m m refl)
section_level (changed m f) h g = (m, ltb-true m level_count (and_left (ltb m level_count) _ g), eq-eqb m m refl)
section_level (pointer_is m o) h g = absurd (omega arith)
section_level (counter_is i v) h g = absurd (omega arith)

-- a good list
module _ (ds : List Difference) (g : good_list full ds ≡ true) where
  -- the entries of files of k levels from level l on
  abbrev pub entries_from : ℕ → ℕ → List Difference
  entries_from l k = join (map (λ l. of_level l ds) (up_from l k))

  -- the entries that pass a test are in order
  pub kept_ordered : (q : Difference → Bool) → chain earlier (keep q ds) ≡ true
  kept_ordered q = sub_chain earlier (λ d. Unit {0}) (λ a b d u. earlier_order.trans a b d) (λ d m. tt) (sub_keep q ds) ((good_list_says full ds).0 g).1

  -- an entry of a level, as it was written
  pub level_entered : (l : ℕ) (d : Difference) → In d (of_level l ds) → EnteredAt l d
  unfolding of_level
  level_entered l d m = let r = (keep_in (is_of_level l) ds d).0 m in files_entered l d r.1 (((good_list_says full ds).0 g).0 d r.0)

  -- an entry of a section is good
  pub section_good : (k : ℕ) (d : Difference) → In d (section_at k ds) → (section_of d ≡ k) × (good_difference full d ≡ true)
  section_good k d m = let r = (section_in k ds d).0 m in (r.1, ((good_list_says full ds).0 g).0 d r.0)

  -- the section of files is its levels, one after another
  pub files_by_level : section_at 0 ds ≡ entries_from 0 level_count
  unfolding section_at of_level
  files_by_level = strict_one earlier earlier_order (section_at 0 ds) (entries_from 0 level_count) (kept_ordered (λ d. eqb (section_of d) 0))
      (strict_join ltb earlier nat_order earlier_order (λ l. of_level l ds) (up_from 0 level_count) (up_from_rising 0 level_count) (λ l. kept_ordered (is_of_level l)) before) from to
    where
      before : (l m : ℕ) (d e : Difference) → ltb l m ≡ true → In d (of_level l ds) → In e (of_level m ds) → earlier d e ≡ true
      before l m d e h i j =
          let a = names_own l d ((keep_in (is_of_level l) ds d).0 i).1 in
          let b = names_own m e ((keep_in (is_of_level m) ds e).0 j).1 in
          (earlier_files d e l (number_named d) m (number_named e) a b).1 (inl (ltb-true l m h))

      from : (d : Difference) → In d (section_at 0 ds) → In d (entries_from 0 level_count)
      from d m =
          let r = section_good 0 d m in
          let v = section_level d r.0 r.1 in
          in_join_map (λ l. of_level l ds) (up_from 0 level_count) v.0 d ((up_from_in 0 level_count v.0).1 (omega arith, omega (arith, v.1))) ((keep_in (is_of_level v.0) ds d).1 (((section_in 0 ds d).0 m).0, v.2))

      to : (d : Difference) → In d (entries_from 0 level_count) → In d (section_at 0 ds)
      to d m =
          let v = of_join_map (λ l. of_level l ds) (up_from 0 level_count) d m in
          let r = (keep_in (is_of_level v.0) ds d).0 v.2 in
          (section_in 0 ds d).1 (r.0, level_section_lem v.0 d r.1)

  -- the end of each of its entries is found
  pub files_end : (d : Difference) → In d (section_at 0 ds) → Ends false d
  files_end d m =
      let r = section_good 0 d m in
      let v = section_level d r.0 r.1 in
      (files_entered v.0 d v.2 r.1).0.ends

  module _ (s : State) (w : WF full s) where
    -- the entries of k levels laid over the sections of those levels give the sections of the patched state
    pub levels_over_lem : (k l : ℕ) (y : List ℕ) → l + k ≤ level_count
        → levels_over k l (levels_from s w l k) (length (entries_from l k)) (join (map write_difference (entries_from l k)) ++ y) ≡ join (map (λ l. write_level (level (patched s ds) l)) (up_from l k))
    unfolding levels_over up_from join write_level full
    levels_over_lem zero l y h = refl
    levels_over_lem (suc k) l y h =
        let fs = sort by_number (level s l) in
        let x = levels_from s w (suc l) k in
        let as' = of_level l ds in
        let bs = entries_from (suc l) k in
        let z = join (map write_difference bs) ++ y in
        let few = ((stored s w).levels l).few in
        let run = run_back l as' bs y (λ d m. let r = level_entered l d m in (r.0.ends, r.1)) later in
        let more : length (as' ++ bs) - length as' ≡ length bs = omega (arith, length-append as' bs) in
        rw (
          run,
          more,
          written_on write_difference as' bs y,
          over_back (files_written l) number_named (brings l) fs as' x z (level_fits s w l) few (λ d m. (level_entered l d m).0),
          section_past (files_written l) fs x (level_fits s w l) few,
          (listed_back false as' z (λ d m. (level_entered l d m).0.ends)).1,
          levels_over_lem k (suc l) y (omega arith),
          ← overlaid_level full s ds w g l (omega arith),
          written_section write_file (sort by_number (level (patched s ds) l)),
        )
      where
        later : (d : Difference) → In d (entries_from (suc l) k) → (y : List ℕ) → level_in (write_difference d ++ y) ≡ l → ⊥
        later d m y e =
            let v = of_join_map (λ l. of_level l ds) (up_from (suc l) k) d m in
            omega (arith, (level_entered v.0 d v.2).1 y, ((up_from_in (suc l) k v.0).0 v.1).0)
