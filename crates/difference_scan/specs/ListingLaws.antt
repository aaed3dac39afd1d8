-- The list made of two snapshots' bytes is the list of differences of their states. Assumes nothing.
use Prim.Native.Nat.{ℕ, zero, suc, ◌+◌, ◌*◌, ◌^◌, ◌≤◌, ◌<◌}
use Rattle.std.specs.Prelude.{◌≡◌, true, false, length, get_or, take, drop}
use Rattle.std.proofs.Math.Path.{refl, ap, sym}
use Rattle.std.proofs.Common.{◌∙◌, arith, eqb-true, eq-eqb, take_at, drop_at}
use Rattle.std.proofs.Math.Bool.{Bool, not, cond}
use mathlib.Core.List.{List, [], ◌∷◌, ◌++◌, map, map-map, map-append, append_assoc, append-nil, Memᴰ as In}
use Rattle.std.proofs.Math.Option.{none, some}
use Rattle.std.proofs.Math.Dec.{eqb}
use Rattle.std.proofs.lemmas.List.{length-map}
use Rattle.std.proofs.Math.Seq.{drop-drop}
use Rattle.lemmas.specs.Lists.{push, keep, sort, join, up_from}
use Rattle.lemmas.specs.ListLaws.{sort_in, join_in, get_or_in, up_from_in, map_same}
use Rattle.lemmas.specs.Maps.{map_same_in}
use Rattle.lemmas.specs.Little.{number, bytes, bytes_length, bytes_number}
use Rattle.lemmas.specs.Distinct.{same_test}
use Rattle.model.specs.File.{File, State, full, level, key_room, level_count}
use Rattle.model.proofs.Formed.{WF}
use Rattle.model.specs.Snapshot.{by_number, write_key, write_file, Entry, entries, write_entry, section, write_level, five_of, encode, same_bytes, byte_long, number_long, counter_count}
use Rattle.model.proofs.SnapshotLaws.{Storable, full_fits, storable}
use Rattle.model.proofs.Reading.{same_eq, eq_same}
use Rattle.model.specs.Difference.{Difference, only_left, only_right, changed, pointer_is, counter_is, same_contents, counter_at, counter_differences, differences}
use Rattle.model.specs.DifferenceBytes.{right_kind, changed_kind, key_of, write_difference, write_differences}
use Rattle.model.proofs.DifferenceListedLaws.{same_file_lem, contents_own}
use Rattle.model.proofs.ComparedLaws.{compared_level, compared_levels, compared_pointers, written_compared}
use Rattle.snapshot_parse.specs.Parsing.{file_in, entry_in}
use Rattle.snapshot_parse.specs.BackLaws.{Fit, file_back, file_rest, entry_back, entry_rest, count_rest, encode_is, past_counters, entries_fit, files_fit}
use Rattle.difference_scan.specs.Scan.{after_part, rise_long, head, tail}
use Rattle.difference_scan.specs.Listing.{level_entries, pointer_entries, levels_at, counter_bytes, counter_entry, counter_entries, as_is, list_of}
use Rattle.difference_scan.specs.WrittenLaws.{Written, sections_back, section_past}

-- ---- files and pointers
-- the files of a level are parts as the scan takes them
pub files_written : (l : ℕ) → Written false l Fit write_file (λ (f : File). f.number) same_contents (λ (f : File). only_left l f.number) (only_right l) (changed l)
unfolding rise_long after_part head tail write_file write_difference
files_written l = record {
  begins = λ f. (bytes number_long f.size ++ (write_key f.smallest ++ write_key f.largest), simp append_assoc);
  small = λ f g. g.number;
  ends = λ f g y. file_rest f y g;
  back = λ f g i j e. sym (file_back f [] i) ∙ ap (λ (bs : List ℕ). file_in (bs ++ [])) e ∙ file_back g [] j;
  own = contents_own;
  one = same_file_lem;
  lefts = λ f. simp (append_assoc, append-nil);
  rights = λ f. append_assoc (bytes byte_long right_kind) (bytes byte_long l) (write_file f);
  others = λ f. append_assoc (bytes byte_long changed_kind) (bytes byte_long l) (write_file f);
}

-- a pointer whose parts fit their bytes
abbrev pub FitEntry : Entry → Type 0
FitEntry e = (e.level < 256) × (length e.key ≤ key_room)

-- the pointers are such parts too
pub pointers_written : Written true 0 FitEntry write_entry (λ (e : Entry). e.level) (λ e f. same_bytes e.key f.key) (λ (e : Entry). pointer_is e.level none)
    (λ (e : Entry). pointer_is e.level (some e.key)) (λ (e : Entry). pointer_is e.level (some e.key))
unfolding rise_long after_part head tail write_entry write_key write_difference key_of
pointers_written = record {
  begins = λ e. (write_key e.key, refl);
  small = λ e g. omega (arith, g.0);
  ends = λ e g y. entry_rest e y g.0 g.1;
  back = λ e f i j q. sym (entry_back e [] i.0 i.1) ∙ ap (λ (bs : List ℕ). entry_in (bs ++ [])) q ∙ entry_back f [] j.0 j.1;
  own = λ e. eq_same e.key;
  one = λ e f k h i. record { level = k i; key = same_eq e.key f.key h i };
  lefts = λ e. simp append-nil;
  rights = λ e. refl;
  others = λ e. refl;
}

-- ---- counters
-- two numbers of one width have the same bytes where they are equal
same_number : (w a b : ℕ) → a < 256 ^ w → b < 256 ^ w → same_bytes (bytes w a) (bytes w b) ≡ eqb a b
same_number w a b g h = same_test (same_bytes (bytes w a) (bytes w b)) (eqb a b)
    (λ e. eq-eqb a b (sym (bytes_number w a g) ∙ ap number (same_eq (bytes w a) (bytes w b) e) ∙ bytes_number w b h)) (λ e. let q = eqb-true a b e in rw q (eq_same (bytes w b)))

-- numbers one after another: the bytes at the place of one
number_at : (ns : List ℕ) (i : ℕ) (x : List ℕ) → i < length ns → take number_long (drop (i * number_long) (join (map (bytes number_long) ns) ++ x)) ≡ bytes number_long (get_or ns i 0)
unfolding join
number_at [] i x h = absurd (omega arith)
number_at (n ∷ ns) zero x h = rw (append_assoc (bytes number_long n) (join (map (bytes number_long) ns)) x) (take_at (bytes number_long n) (join (map (bytes number_long) ns) ++ x) 8 (bytes_length 8 n))
number_at (n ∷ ns) (suc i) x h =
    let rest = join (map (bytes number_long) ns) in
    let at : suc i * number_long ≡ number_long + i * number_long = omega arith in
    rw (at, append_assoc (bytes number_long n) rest x, ← drop-drop (i * 8) 8 (bytes number_long n ++ (rest ++ x)), drop_at (bytes number_long n) (rest ++ x) 8 (bytes_length 8 n)) (number_at ns i x (omega arith))

-- one entry of each item that fails a test, and none of the others: the entries of the items that are kept
kept_join : {A B : Type 0} (q : A → Bool) (f : A → B) (xs : List A) → join (map (λ x. cond (q x) [] (f x ∷ [])) xs) ≡ map f (keep (λ x. not (q x)) xs)
unfolding join keep push
kept_join q f [] = refl
kept_join q f (x ∷ xs) = go (q x) (kept_join q f xs)
  where
    go : (b : Bool) → join (map (λ x. cond (q x) [] (f x ∷ [])) xs) ≡ map f (keep (λ x. not (q x)) xs)
        → cond b [] (f x ∷ []) ++ join (map (λ x. cond (q x) [] (f x ∷ [])) xs) ≡ map f (push (not b) x (keep (λ x. not (q x)) xs))
    go true ih = ih
    go false ih = ap (λ (ys : List _). f x ∷ ys) ih

-- ---- the whole
-- entries that were written are a section as they are
section_as_is : (ds : List Difference) → section as_is (map write_difference ds) ≡ section write_difference ds
unfolding section
section_as_is ds = rw (length-map ds write_difference, map_same (map write_difference ds))

-- a state and its bytes
module _ (s : State) (w : WF full s) where
  -- the sections of k levels from level l on
  abbrev pub levels_from : ℕ → ℕ → List ℕ
  levels_from l k = join (map (λ l. write_level (level s l)) (up_from l k))

  -- its counts fit their bytes
  pub stored : Storable s
  stored = storable full s full_fits w

  -- the files of a level fit theirs
  pub level_fits : (l : ℕ) (f : File) → In f (sort by_number (level s l)) → Fit f
  unfolding level
  level_fits l f m = files_fit s w f (join_in s.files l f ((sort_in by_number (level s l) f).0 m))

  -- the levels follow the pointers
  pub levels_at_lem : levels_at (encode s) ≡ levels_from 0 level_count
  unfolding levels_at
  levels_at_lem = rw (past_counters s w) (section_past pointers_written (entries 0 s.pointers) (levels_from 0 level_count) (entries_fit s w) stored.few_pointers)

  -- the bytes of a counter
  pub counter_back : (i : ℕ) → i < counter_count → counter_bytes (encode s) i ≡ bytes number_long (counter_at s i)
  unfolding counter_bytes counter_at five_of
  counter_back i h =
      let ns = five_of s.counters in
      let x = section write_entry (entries 0 s.pointers) ++ levels_from 0 level_count in
      rw (← drop-drop (i * 8) 2 (encode s), encode_is s w, count_rest (bytes number_long) ns x) (number_at ns i x h)

  -- a counter fits its bytes
  counter_fits : (i : ℕ) → i < counter_count → counter_at s i < 256 ^ number_long
  unfolding counter_at five_of
  counter_fits i h = stored.counters (counter_at s i) (get_or_in (five_of s.counters) i 0 h)

module _ (s t : State) (ws : WF full s) (wt : WF full t) where
  -- the files of k levels from level l on
  levels_back : (k l : ℕ) → level_entries k l (levels_from s ws l k) (levels_from t wt l k) ≡ map write_difference (join (map (λ l. compared_level l (sort by_number (level s l)) (sort by_number (level t l))) (up_from l k)))
  unfolding level_entries up_from join write_level compared_level
  levels_back zero l = refl
  levels_back (suc k) l =
      let fs = sort by_number (level s l) in
      let gs = sort by_number (level t l) in
      let x = levels_from s ws (suc l) k in
      let y = levels_from t wt (suc l) k in
      let i = ((stored s ws).levels l).few in
      let j = ((stored t wt).levels l).few in
      let on = join (map (λ l. compared_level l (sort by_number (level s l)) (sort by_number (level t l))) (up_from (suc l) k)) in
      rw (sections_back (files_written l) fs gs (level_fits s ws l) (level_fits t wt l) i j x y, section_past (files_written l) fs x (level_fits s ws l) i, section_past (files_written l) gs y (level_fits t wt l) j, levels_back k (suc l))
      (sym (map-append write_difference (compared_level l fs gs) on))

  -- the pointers
  pointers_back : pointer_entries (encode s) (encode t) ≡ map write_difference (compared_pointers (entries 0 s.pointers) (entries 0 t.pointers))
  unfolding pointer_entries compared_pointers
  pointers_back = rw (past_counters s ws, past_counters t wt)
      (sections_back pointers_written (entries 0 s.pointers) (entries 0 t.pointers) (entries_fit s ws) (entries_fit t wt) (stored s ws).few_pointers (stored t wt).few_pointers (levels_from s ws 0 level_count) (levels_from t wt 0 level_count))

  -- the counters
  counters_back : counter_entries 0 counter_count (encode s) (encode t) ≡ map write_difference (counter_differences s t)
  unfolding counter_entries counter_entry counter_differences write_difference
  counters_back =
      let is = up_from 0 counter_count in
      let same : ℕ → Bool = λ i. eqb (counter_at s i) (counter_at t i) in
      let wr : ℕ → List ℕ = λ i. bytes byte_long i ++ bytes number_long (counter_at t i) in
      ap join (map_same_in (λ i. counter_entry i (same_bytes (counter_bytes (encode s) i) (counter_bytes (encode t) i)) (counter_bytes (encode t) i)) (λ i. cond (same i) [] (wr i ∷ [])) is each)
      ∙ kept_join same wr is ∙ sym (map-map write_difference (λ i. counter_is i (counter_at t i)) (keep (λ i. not (same i)) is))
    where
      each : (i : ℕ) → In i (up_from 0 counter_count) → counter_entry i (same_bytes (counter_bytes (encode s) i) (counter_bytes (encode t) i)) (counter_bytes (encode t) i)
          ≡ cond (eqb (counter_at s i) (counter_at t i)) [] ((bytes byte_long i ++ bytes number_long (counter_at t i)) ∷ [])
      each i m =
          let h : i < counter_count = omega (arith, ((up_from_in 0 counter_count i).0 m).1) in
          rw (counter_back s ws i h, counter_back t wt i h, same_number number_long (counter_at s i) (counter_at t i) (counter_fits s ws i h) (counter_fits t wt i h))

-- the list made of the bytes of two well-formed states is the list of their differences
pub list_back : (s t : State) → WF full s → WF full t → list_of (encode s) (encode t) ≡ write_differences (differences s t)
unfolding list_of compared_levels full
list_back s t ws wt =
    let ds = compared_levels s t in
    let ps = compared_pointers (entries 0 s.pointers) (entries 0 t.pointers) in
    let a : level_entries level_count 0 (levels_at (encode s)) (levels_at (encode t)) ≡ map write_difference ds = rw (levels_at_lem s ws, levels_at_lem t wt, ws.levels) (levels_back s t ws wt level_count 0) in
    rw (a, pointers_back s t ws wt, counters_back s t ws wt, section_as_is ds, section_as_is ps, section_as_is (counter_differences s t)) (sym (written_compared full s t ws wt))
