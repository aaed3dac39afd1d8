-- Runs of entries that were written: they are cut as they were written, counted by level, and laid over parts. Assumes nothing.
use Rattle.std.specs.Prelude.{ℕ, ◌-◌, ◌<◌, ◌≡◌, refl, Bool, false, length, drop}
use Rattle.std.proofs.Common.{ap, subst, arith, eq-eqb, ne_eqb, length-append, take_at}
use mathlib.Core.List.Memᴰ.{head as here}
use mathlib.Core.List.Memᴰ.{of_map}
use mathlib.Core.List.Memᴰ.{tail as there}
use mathlib.Core.List.{List, [], ◌∷◌, ◌++◌, map, map-append, append_assoc, Memᴰ as In}
use Rattle.std.proofs.lemmas.List.{length-map}
use Rattle.lemmas.specs.Lists.{join}
use Rattle.lemmas.specs.ListLaws.{map_same}
use Rattle.lemmas.specs.Compare.{overlay}
use Rattle.lemmas.specs.Slices.{join_append}
use Rattle.model.specs.Snapshot.{section, count_long}
use Rattle.model.specs.Difference.{Difference}
use Rattle.model.specs.DifferenceBytes.{write_difference}
use Rattle.snapshot_parse.specs.Parsing.{number_in}
use Rattle.snapshot_parse.specs.BackLaws.{parts_back, count_back, count_rest}
use Rattle.difference_scan.specs.Scan.{rise_of}
use Rattle.difference_scan.specs.Listing.{as_is}
use Rattle.difference_scan.specs.WrittenLaws.{Written, parts_cut, rise_back}
use Rattle.patch_scan.specs.Listed.{level_in, after_listed, listed_bytes, named_of, brought_by, listed_at, after_each, over_run, run_long}
use Rattle.patch_scan.specs.OverlayMapLaws.{overlay_map}
use Rattle.patch_scan.specs.EntryLaws.{Ends, Entered}

-- ---- entries in the bytes
-- an entry whose end is found is cut as it is
listed_cut : (p : Bool) (a y : List ℕ) → after_listed p (a ++ y) ≡ y → listed_bytes p (a ++ y) ≡ a
unfolding listed_bytes
listed_cut p a y e =
    let n : length a ≡ length (a ++ y) - length (after_listed p (a ++ y)) = omega (arith, ap length e, length-append a y) in
    take_at a y (length (a ++ y) - length (after_listed p (a ++ y))) n

-- entries are cut as they were written, and the bytes after them are left
pub listed_back : (p : Bool) (ds : List Difference) (x : List ℕ) → ((d : Difference) → In d ds → Ends p d)
    → (listed_at p (length ds) (join (map write_difference ds) ++ x) ≡ map write_difference ds) × (after_each p (length ds) (join (map write_difference ds) ++ x) ≡ x)
unfolding listed_at after_each
listed_back p ds x ends = rw (map_same, length-map) at (parts_back as_is (listed_bytes p) (after_listed p) (map write_difference ds) x each)
  where
    each : (b : List ℕ) → In b (map write_difference ds) → (y : List ℕ) → (listed_bytes p (b ++ y) ≡ b) × (after_listed p (b ++ y) ≡ y)
    each b m y =
        let v = of_map write_difference ds m in
        let e = subst (λ (b : List ℕ). after_listed p (b ++ y) ≡ y) v.2 (ends v.0 v.1 y) in
        (listed_cut p b y e, e)

-- the bytes behind a section of entries
pub entries_past : (p : Bool) (ds : List Difference) (x : List ℕ) → length ds < 65536 → ((d : Difference) → In d ds → Ends p d)
    → after_each p (number_in count_long (section write_difference ds ++ x)) (drop count_long (section write_difference ds ++ x)) ≡ x
entries_past p ds x i ends = rw (count_back write_difference ds x i, count_rest write_difference ds x) (listed_back p ds x ends).1

-- ---- entries of one level
-- what is written of two lists, one after the other, with more bytes behind
pub written_on : {A : Type 0} (w : A → List ℕ) (xs ys : List A) (x : List ℕ) → join (map w (xs ++ ys)) ++ x ≡ join (map w xs) ++ (join (map w ys) ++ x)
written_on w xs ys x = rw (map-append w xs ys, join_append (map w xs) (map w ys)) (append_assoc (join (map w xs)) (join (map w ys)) x)

-- entries of a level, then entries of other levels: the run is as long as there are of the level
pub run_back : (l : ℕ) (as' bs : List Difference) (x : List ℕ) → ((d : Difference) → In d as' → Ends false d × ((y : List ℕ) → level_in (write_difference d ++ y) ≡ l))
    → ((d : Difference) → In d bs → (y : List ℕ) → level_in (write_difference d ++ y) ≡ l → ⊥) → run_long l (length (as' ++ bs)) (join (map write_difference (as' ++ bs)) ++ x) ≡ length as'
unfolding run_long join
run_back l [] [] x h k = refl
run_back l [] (b ∷ bs) x h k =
    let y = join (map write_difference bs) ++ x in
    rw (append_assoc (write_difference b) (join (map write_difference bs)) x, ne_eqb (level_in (write_difference b ++ y)) l (k b (here refl) y))
run_back l (a ∷ as') bs x h k =
    let y = join (map write_difference (as' ++ bs)) ++ x in
    let r = h a (here refl) in
    rw (append_assoc (write_difference a) (join (map write_difference (as' ++ bs))) x, eq-eqb (level_in (write_difference a ++ y)) l (r.1 y), r.0 y, run_back l as' bs x (λ d m. h d (there m)) k)

-- ---- entries laid over parts
module _ {A : Type 0} {p : Bool} {l : ℕ} {Good : A → Type 0} {w : A → List ℕ} {key : A → ℕ} {same : A → A → Bool} {left right other : A → Difference} (r : Written p l Good w key same left right other) where
  -- entries laid over a section of parts give the written form of the items laid over
  pub over_back : (named : Difference → ℕ) (brought : Difference → List A) (xs : List A) (ds : List Difference) (x y : List ℕ) → ((a : A) → In a xs → Good a) → length xs < 65536
      → ((d : Difference) → In d ds → Entered p w named brought d)
      → over_run p (number_in count_long (section w xs ++ x)) (drop count_long (section w xs ++ x)) (length ds) (join (map write_difference ds) ++ y) ≡ map w (overlay key named brought xs ds)
  unfolding over_run
  over_back named brought xs ds x y g i h = rw (count_back w xs x i, count_rest w xs x, (parts_cut p w xs x (λ a m. r.ends a (g a m))).0, (listed_back p ds y (λ d m. (h d m).ends)).0)
      (overlay_map key named brought (rise_of p) (named_of p) (brought_by p) w write_difference xs ds (λ a m. rise_back r a (g a m)) (λ d m. ((h d m).names, (h d m).brings)))
