-- Entries that were written: where each ends, the number that it names, what it brings. Assumes nothing.
use Rattle.std.specs.Prelude.{ℕ, ◌^◌, ◌<◌, ◌≤◌, ◌≡◌, refl, Bool, true, false, ◌&&◌, List, [], ◌++◌, map, eqb, ltb, length, drop}
use Rattle.std.proofs.Math.Path.{ap}
use Rattle.std.proofs.Common.{sym, ◌∙◌, append_assoc, append-nil, arith, drop-drop}
use Rattle.std.proofs.Math.Option.{Option, none, some}
use borrow.Author.Tests.{eqb-true, eq-eqb, ltb-true, ne_eqb}
use Rattle.lemmas.specs.Order.{clash}
use Rattle.lemmas.specs.ListLaws.{and_left, and_right}
use Rattle.lemmas.specs.Lists.{push}
use Rattle.lemmas.specs.Little.{bytes}
use Rattle.model.specs.Key.{Key}
use Rattle.model.specs.KeyLaws.{good_key_says}
use Rattle.model.specs.File.{File, full, good_file, good_pointer, key_room}
use Rattle.model.specs.Snapshot.{Entry, write_key, write_file, write_entry, byte_long, number_long}
use Rattle.model.proofs.SnapshotLaws.{file_facts}
use Rattle.model.specs.Difference.{Difference, only_left, only_right, changed, pointer_is, counter_is, good_difference}
use Rattle.model.specs.DifferenceBytes.{left_kind, right_kind, changed_kind, head_long, section_of, key_of, write_difference}
use Rattle.model.proofs.DifferenceLengthLaws.{pointer_short}
use Rattle.model.proofs.DifferenceReadingLaws.{two_tests}
use Rattle.model.specs.Patched.{brings}
use Rattle.model.proofs.OverlaidLaws.{number_named, is_of_level, pointer_level, set_pointer, brings_pointer}
use Rattle.keys.specs.KeyLaws.{good_length}
use Rattle.records.specs.RecordLaws.{short_keys}
use Rattle.snapshot_parse.specs.Parsing.{number_in}
use Rattle.snapshot_parse.specs.BackLaws.{Fit, number_back, number_past, file_rest, entry_rest}
use Rattle.difference_scan.specs.WrittenLaws.{rise_back}
use Rattle.difference_scan.specs.Scan.{rise_long, rise_of}
use Rattle.difference_scan.specs.ListingLaws.{files_written, pointers_written}
use Rattle.patch_scan.specs.Listed.{kind_in, level_in, after_listed, named_of, brought_by}

-- the end of an entry is found, whatever follows
abbrev pub Ends : Bool → Difference → Type 0
Ends p d = (y : List ℕ) → after_listed p (write_difference d ++ y) ≡ y

-- what is known of an entry. `w` writes an item, `named` gives the number that the entry names and `brought` the items that it brings
pub record Entered {A : Type 0} (p : Bool) (w : A → List ℕ) (named : Difference → ℕ) (brought : Difference → List A) (d : Difference) : Type 0 where
  -- its end is found
  pub ends : Ends p d
  -- its number is read
  pub names : named_of p (write_difference d) ≡ named d
  -- what it brings is read in written form
  pub brings : brought_by p (write_difference d) ≡ map w (brought d)

-- the same of an entry of files of a level, and that its level is read
abbrev pub EnteredAt : ℕ → Difference → Type 0
EnteredAt l d = Entered false write_file number_named (brings l) d × ((y : List ℕ) → level_in (write_difference d ++ y) ≡ l)

-- ---- entries of files
module _ (k m : ℕ) (i : k < 256) (j : m < 256) where
  -- kind, level and what follows
  abbrev laid : List ℕ → List ℕ
  laid x = bytes byte_long k ++ (bytes byte_long m ++ x)

  -- more bytes behind
  laid_on : (x y : List ℕ) → laid x ++ y ≡ laid (x ++ y)
  laid_on x y = simp append_assoc

  -- the kind is read
  kind_back : (x : List ℕ) → kind_in (laid x) ≡ k
  unfolding kind_in
  kind_back x = number_back 1 k (bytes byte_long m ++ x) (omega arith)

  -- the level is read
  level_back : (x : List ℕ) → level_in (laid x) ≡ m
  unfolding level_in
  level_back x = ap (number_in byte_long) (number_past 1 k (bytes byte_long m ++ x)) ∙ number_back 1 m x (omega arith)

  -- the level is read with more bytes behind, too
  level_read : (x y : List ℕ) → level_in (laid x ++ y) ≡ m
  level_read x y = ap level_in (laid_on x y) ∙ level_back (x ++ y)

  -- what follows them
  head_past : (x : List ℕ) → drop head_long (laid x) ≡ x
  head_past x = sym (drop-drop 1 1 (laid x)) ∙ ap (drop 1) (number_past 1 k (bytes byte_long m ++ x)) ∙ number_past 1 m x

  -- the end of an entry of a file that only the left has
  left_ends : k ≡ left_kind → (n : ℕ) (y : List ℕ) → after_listed false (laid (bytes number_long n) ++ y) ≡ y
  unfolding after_listed
  left_ends e n y = rw (laid_on (bytes number_long n) y, kind_back (bytes number_long n ++ y), eq-eqb k left_kind e, head_past (bytes number_long n ++ y)) (number_past 8 n y)

  -- the end of an entry with a file
  right_ends : (k ≡ left_kind → ⊥) → (f : File) → Fit f → (y : List ℕ) → after_listed false (laid (write_file f) ++ y) ≡ y
  unfolding after_listed
  right_ends e f fit y = rw (laid_on (write_file f) y, kind_back (write_file f ++ y), ne_eqb k left_kind e, head_past (write_file f ++ y)) (file_rest f y fit)

-- a good file fits its bytes
good_fits : (f : File) → good_file full f ≡ true → f.number < 2 ^ 64 → Fit f
good_fits f g h =
    let s = short_keys f g in
    record { number = omega arith; size = omega (arith, (file_facts full f g).size); smallest = s.0; largest = s.1 }

-- the entry of a file that only the left has: it names the number and brings nothing
left_entered : (l m n : ℕ) → eqb m l ≡ true → (ltb m full.levels && ltb n (2 ^ 64)) ≡ true → EnteredAt l (only_left m n)
unfolding write_difference named_of brought_by number_named brings full
left_entered l m n h g =
    let x = bytes number_long n in
    let i : left_kind < 256 = omega arith in
    let j : m < 256 = omega (arith, ltb-true m full.levels (and_left (ltb m full.levels) (ltb n (2 ^ 64)) g)) in
    let fit : n < 256 ^ 8 = omega (arith, ltb-true n (2 ^ 64) (and_right (ltb m full.levels) (ltb n (2 ^ 64)) g)) in (
      record {
        ends = λ y. left_ends left_kind m i j refl n y;
        names = ap (number_in number_long) (head_past left_kind m i j x ∙ sym (append-nil x)) ∙ number_back 8 n [] fit;
        brings = rw (kind_back left_kind m i j x) refl;
      },
      λ y. level_read left_kind m i j x y ∙ eqb-true m l h,
    )

-- an entry with a file: it names the file's number and brings the file
right_entered : (l k m : ℕ) (f : File) (d : Difference) → k < 256 → (k ≡ left_kind → ⊥) → eqb m l ≡ true → (ltb m full.levels && (good_file full f && ltb f.number (2 ^ 64))) ≡ true
    → write_difference d ≡ bytes byte_long k ++ (bytes byte_long m ++ write_file f) → number_named d ≡ f.number → brings l d ≡ push (eqb m l) f [] → EnteredAt l d
unfolding named_of brought_by rise_of rise_long push full
right_entered l k m f d i e h g q n b =
    let x = write_file f in
    let t = two_tests (ltb m full.levels) (good_file full f) (ltb f.number (2 ^ 64)) g in
    let j : m < 256 = omega (arith, ltb-true m full.levels t.0) in
    let fit = good_fits f t.1 (ltb-true f.number (2 ^ 64) t.2) in
    let past = head_past k m i j x in (
      record {
        ends = λ y. ap (λ (bs : List ℕ). after_listed false (bs ++ y)) q ∙ right_ends k m i j e f fit y;
        names = rw (q, past, n) (rise_back (files_written 0) f fit);
        brings = rw (q, kind_back k m i j x, ne_eqb k left_kind e, past, b, h);
      },
      λ y. ap (λ (bs : List ℕ). level_in (bs ++ y)) q ∙ level_read k m i j x y ∙ eqb-true m l h,
    )

-- a good entry of files of a level
pub files_entered : (l : ℕ) (d : Difference) → is_of_level l d ≡ true → good_difference full d ≡ true → EnteredAt l d
unfolding is_of_level good_difference write_difference number_named brings
files_entered l (only_left m n) h g = left_entered l m n h g
files_entered l (only_right m f) h g = right_entered l right_kind m f (only_right m f) (omega arith) (λ e. omega arith) h g refl refl refl
files_entered l (changed m f) h g = right_entered l changed_kind m f (changed m f) (omega arith) (λ e. omega arith) h g refl refl refl
files_entered l (pointer_is m o) h g = clash h refl
files_entered l (counter_is i v) h g = clash h refl

-- ---- entries of pointers
-- the length of the key is read
length_back : (m : ℕ) (k : Key) → length k ≤ key_room → number_in byte_long (drop byte_long (bytes byte_long m ++ write_key k)) ≡ length k
unfolding write_key
length_back m k h = ap (number_in byte_long) (number_past 1 m (bytes byte_long (length k) ++ k)) ∙ number_back 1 (length k) k (omega arith)

-- a pointer that is set is brought with its level, and one that is not brings nothing
pointer_brings : (m : ℕ) (o : Option Key) → good_pointer full o ≡ true → brought_by true (bytes byte_long m ++ write_key (key_of o)) ≡ map write_entry (set_pointer m o)
unfolding good_pointer brought_by key_of set_pointer write_entry
pointer_brings m none g = rw (length_back m [] (omega arith))
pointer_brings m (some k) g = rw (length_back m k (good_length k g), ne_eqb (length k) 0 (λ e. omega (arith, ((good_key_says full.longest k).0 g).some_byte)))

-- a good entry of pointers
pub pointers_entered : (d : Difference) → section_of d ≡ 1 → good_difference full d ≡ true → Entered true write_entry pointer_level brings_pointer d
unfolding section_of good_difference after_listed named_of rise_of rise_long write_difference write_entry pointer_level brings_pointer full
pointers_entered (only_left m n) h g = absurd (omega arith)
pointers_entered (only_right m f) h g = absurd (omega arith)
pointers_entered (changed m f) h g = absurd (omega arith)
pointers_entered (pointer_is m o) h g =
    let a : m < 256 = omega (arith, ltb-true m full.levels (and_left (ltb m full.levels) (good_pointer full o) g)) in
    let b = and_right (ltb m full.levels) (good_pointer full o) g in
    let e : Entry = record { level = m; key = key_of o } in
    let k : length (key_of o) ≤ key_room = pointer_short full o b in
    record { ends = λ y. entry_rest e y a k; names = rise_back pointers_written e (a, k); brings = pointer_brings m o b }
pointers_entered (counter_is i v) h g = absurd (omega arith)
