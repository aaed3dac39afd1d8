-- Laws of an entry that is read leniently: a right one is good and writes these very bytes, and what a good one wrote is read back. Assumes nothing.
use Rattle.std.specs.Prelude.{ℕ, ◌+◌, ◌*◌, ◌/◌, ◌%◌, ◌^◌, ◌≤◌, ◌<◌, ◌≡◌, Bool, true, false, ◌&&◌, cond, List, [], ◌∷◌, ◌++◌, eqb, ltb, length, drop}
use Rattle.std.proofs.Math.Path.{refl, ap}
use Rattle.std.proofs.Common.{sym, ◌∙◌, subst, append_assoc, arith, length-append, length-drop, take-append-drop, drop_at}
use Rattle.std.proofs.Math.Option.{Option, none, some}
use borrow.Author.Tests.{ltb-true, lt-ltb, leb-true, le-leb, eqb-true, eqb-false}
use Rattle.std.proofs.Math.Dec.{leb}
use Rattle.std.proofs.Math.ListN.{take, length-take}
use Rattle.std.proofs.Math.Pow.{are_bytes}
use Rattle.std.proofs.Math.Seq.{length-take-le}
use Rattle.lemmas.specs.AreBytes.{bytes_take, bytes_drop}
use Rattle.lemmas.specs.ListLaws.{and_left, and_right, both}
use Rattle.lemmas.specs.Little.{number, bytes, bytes_length, number_bound, number_fits}
use Rattle.model.specs.Key.{Key}
use Rattle.model.specs.File.{File, full, good_file, good_pointer, level_count, max_counter, key_room}
use Rattle.model.specs.Snapshot.{write_key, write_file, same_bytes, byte_long, number_long, counter_count}
use Rattle.model.specs.KeyLaws.{good_key_says}
use Rattle.model.proofs.SnapshotLaws.{file_facts, write_key_length, write_file_length}
use Rattle.model.proofs.Reading.{same_eq, eq_same}
use Rattle.model.specs.Difference.{Difference, only_left, only_right, changed, pointer_is, counter_is, good_difference}
use Rattle.model.specs.DifferenceBytes.{left_kind, right_kind, changed_kind, section_of, key_of, pointer_of, write_difference}
use Rattle.model.proofs.DifferenceLengthLaws.{pointer_short}
use Rattle.model.proofs.DifferenceReadingLaws.{two_tests}
use Rattle.records.specs.RecordLaws.{short_keys}
use Rattle.snapshot_parse.specs.Parsing.{number_in, key_in, after_key, file_in, after_file}
use Rattle.snapshot_parse.specs.BackLaws.{Fit, number_back, number_past, key_back, key_rest, file_back, file_rest}
use Rattle.patch_list.specs.Entries.{Reading, exact_file, exact_key, number_only, whole_file, file_entry, pointer_entry, counter_entry, entry_in}

-- ---- numbers
-- bytes are those of their value
number_bytes : (l : List ℕ) → are_bytes l ≡ true → bytes (length l) (number l) ≡ l
unfolding bytes number
number_bytes [] h = refl
number_bytes (b ∷ l) h =
    let k : b < 256 = ltb-true b 256 (and_left (ltb b 256) (are_bytes l) h) in
    let low : (b + 256 * number l) % 256 ≡ b = omega arith in
    let high : (b + 256 * number l) / 256 ≡ number l = omega arith in
    rw (low, high) (ap (λ (r : List ℕ). b ∷ r) (number_bytes l (and_right (ltb b 256) (are_bytes l) h)))

module _ (w : ℕ) (bs : List ℕ) (h : are_bytes bs ≡ true) where
  -- a number that is all there writes its bytes
  pub number_stands : w ≤ length bs → bytes w (number_in w bs) ++ drop w bs ≡ bs
  unfolding number_in
  number_stands k =
      let n = length-take-le w bs k in
      let e : bytes w (number (take w bs)) ≡ take w bs = ap (λ (m : ℕ). bytes m (number (take w bs))) (sym n) ∙ number_bytes (take w bs) (bytes_take w bs h) in
      rw e (take-append-drop w bs)

  -- of at most eight bytes it fits 64 bits
  number_few : w ≤ 8 → number_in w bs < 2 ^ 64
  unfolding number_in
  number_few k = number_fits (number (take w bs)) (length (take w bs)) (omega (arith, length-take w bs)) (number_bound (take w bs) (bytes_take w bs h))

-- what follows bytes in front is bytes
pub rest_bytes : (w r bs : List ℕ) → w ++ r ≡ bs → are_bytes bs ≡ true → are_bytes r ≡ true
rest_bytes w r bs e h = subst (λ (x : List ℕ). are_bytes x ≡ true) (ap (drop (length w)) (sym e) ∙ drop_at w r (length w) refl) (bytes_drop (length w) bs h)

-- three parts, then the rest
three_parts : (a b c r : List ℕ) → (a ++ (b ++ c)) ++ r ≡ a ++ (b ++ (c ++ r))
three_parts a b c r = simp append_assoc

-- ---- a right entry
-- it is good and one of its section, and with the bytes after it its bytes are those that it was read from
pub record Right (s : ℕ) (bs : List ℕ) (r : Reading) : Type 0 where
  pub good : good_difference full r.entry ≡ true
  pub section : section_of r.entry ≡ s
  pub written : write_difference r.entry ++ r.rest ≡ bs

-- kind and level, where something follows
module _ (bs : List ℕ) (h : are_bytes bs ≡ true) where
  -- the level, where something follows it
  level_stands : 0 < length (drop 1 bs) → bytes byte_long (number_in byte_long bs) ++ drop 1 bs ≡ bs
  level_stands k = number_stands 1 bs h (omega (arith, length-drop 1 bs))

  -- both
  head_stands : 0 < length (drop 1 (drop 1 bs)) → bytes byte_long (number_in byte_long bs) ++ (bytes byte_long (number_in byte_long (drop 1 bs)) ++ drop 1 (drop 1 bs)) ≡ bs
  head_stands k =
      let e = number_stands 1 (drop 1 bs) (bytes_drop 1 bs h) (omega (arith, length-drop 1 (drop 1 bs))) in
      rw e (level_stands (omega (arith, length-drop 1 (drop 1 bs))))

-- what an exact file says
file_exact : (bs : List ℕ) → exact_file bs ≡ true → (good_file full (file_in bs) ≡ true) × (write_file (file_in bs) ++ after_file bs ≡ bs)
unfolding exact_file
file_exact bs t =
    let a = good_file full (file_in bs) in
    let b = same_bytes (write_file (file_in bs) ++ after_file bs) bs in
    (and_left a b t, same_eq (write_file (file_in bs) ++ after_file bs) bs (and_right a b t))

-- an entry of files, of kind k and level l, and what follows them
module _ (bs : List ℕ) (k l : ℕ) (body : List ℕ) (e : bytes byte_long k ++ (bytes byte_long l ++ body) ≡ bs) (b : are_bytes body ≡ true) where
  -- its three parts are the bytes
  parts_stand : (q : ℕ) → k ≡ q → (c r : List ℕ) → c ++ r ≡ body → (bytes byte_long q ++ (bytes byte_long l ++ c)) ++ r ≡ bs
  parts_stand q z c r on = three_parts (bytes byte_long q) (bytes byte_long l) c r ∙ rw on (ap (λ (m : ℕ). bytes byte_long m ++ (bytes byte_long l ++ body)) (sym z) ∙ e)

  -- a file that only the left has
  left_right : k ≡ left_kind → (number_only l body).right ≡ true → Right 0 bs (number_only l body)
  unfolding number_only good_difference section_of write_difference full
  left_right z t =
      let n = number_in number_long body in
      let there = leb number_long (length body) in
      let on = number_stands 8 body b (leb-true 8 (length body) (and_right (ltb l level_count) there t)) in
      record {
        good = both (ltb l level_count) (ltb n (2 ^ 64)) (and_left (ltb l level_count) there t) (lt-ltb n (2 ^ 64) (number_few 8 body b (omega arith)));
        section = refl;
        written = parts_stand left_kind z (bytes number_long n) (drop 8 body) on;
      }

  -- another
  whole_right : (k ≡ left_kind → ⊥) → (whole_file k l body).right ≡ true → Right 0 bs (whole_file k l body)
  unfolding whole_file good_difference section_of write_difference full file_in
  whole_right z t = go (eqb k right_kind) refl
    where
      tests : (ltb l level_count ≡ true) × (leb k changed_kind ≡ true) × (exact_file body ≡ true)
      tests = two_tests (ltb l level_count) (leb k changed_kind) (exact_file body) t

      exact : (good_file full (file_in body) ≡ true) × (write_file (file_in body) ++ after_file body ≡ body)
      exact = file_exact body tests.2

      good : (ltb l level_count && (good_file full (file_in body) && ltb (file_in body).number (2 ^ 64))) ≡ true
      good =
          let n = (file_in body).number in
          both (ltb l level_count) (good_file full (file_in body) && ltb n (2 ^ 64)) tests.0
          (both (good_file full (file_in body)) (ltb n (2 ^ 64)) exact.0 (lt-ltb n (2 ^ 64) (number_few 8 body b (omega arith))))

      go : (r : Bool) → eqb k right_kind ≡ r → Right 0 bs (record { entry = cond r (only_right l (file_in body)) (changed l (file_in body)); rest = after_file body; right = ltb l level_count && (leb k changed_kind && exact_file body) })
      go true q = record { good = good; section = refl; written = parts_stand right_kind (eqb-true k right_kind q) (write_file (file_in body)) (after_file body) exact.1 }
      go false q =
          let two : k ≡ changed_kind = omega (arith, leb-true k changed_kind tests.1, eqb-false k right_kind q) in
          record { good = good; section = refl; written = parts_stand changed_kind two (write_file (file_in body)) (after_file body) exact.1 }

-- bytes of a file are there
file_some : (bs : List ℕ) → exact_file bs ≡ true → 0 < length bs
file_some bs t =
    let f = file_in bs in
    omega (arith, ap length (file_exact bs t).1, length-append (write_file f) (after_file bs), write_file_length f)

-- an entry of files
files_right : (bs : List ℕ) → are_bytes bs ≡ true → (file_entry bs).right ≡ true → Right 0 bs (file_entry bs)
unfolding file_entry number_only whole_file
files_right bs h t = go (eqb kind left_kind) refl t
  where
    kind : ℕ
    kind = number_in byte_long bs

    level : ℕ
    level = number_in byte_long (drop 1 bs)

    body : List ℕ
    body = drop 1 (drop 1 bs)

    b : are_bytes body ≡ true
    b = bytes_drop 1 (drop 1 bs) (bytes_drop 1 bs h)

    go : (l : Bool) → eqb kind left_kind ≡ l → (cond l (number_only level body) (whole_file kind level body)).right ≡ true → Right 0 bs (cond l (number_only level body) (whole_file kind level body))
    go true q u =
        let some : 8 ≤ length body = leb-true 8 (length body) (and_right (ltb level level_count) (leb number_long (length body)) u) in
        left_right bs kind level body (head_stands bs h (omega arith)) b (eqb-true kind left_kind q) u
    go false q u =
        let some = file_some body (two_tests (ltb level level_count) (leb kind changed_kind) (exact_file body) u).2 in
        whole_right bs kind level body (head_stands bs h some) b (eqb-false kind left_kind q) u

-- a pointer of a key has these bytes
pointed : (k : Key) → key_of (pointer_of k) ≡ k
unfolding key_of pointer_of
pointed [] = refl
pointed (b ∷ k) = refl

-- an entry of pointers
pointers_right : (bs : List ℕ) → are_bytes bs ≡ true → (pointer_entry bs).right ≡ true → Right 1 bs (pointer_entry bs)
unfolding pointer_entry exact_key good_difference section_of write_difference full
pointers_right bs h t =
    let l = number_in byte_long bs in
    let body = drop 1 bs in
    let k = key_in body in
    let good = good_pointer full (pointer_of k) in
    let tests = two_tests (ltb l level_count) good (same_bytes (write_key k ++ after_key body) body) t in
    let e = same_eq (write_key k ++ after_key body) body tests.2 in
    let on = level_stands bs h (omega (arith, ap length e, length-append (write_key k) (after_key body), write_key_length k)) in
    record {
      good = both (ltb l level_count) good tests.0 tests.1;
      section = refl;
      written = append_assoc (bytes byte_long l) (write_key (key_of (pointer_of k))) (after_key body) ∙ rw (pointed k, e) on;
    }

-- an entry of counters
counters_right : (bs : List ℕ) → are_bytes bs ≡ true → (counter_entry bs).right ≡ true → Right 2 bs (counter_entry bs)
unfolding counter_entry good_difference section_of write_difference
counters_right bs h t =
    let i = number_in byte_long bs in
    let body = drop 1 bs in
    let v = number_in number_long body in
    let tests = two_tests (ltb i counter_count) (leb v max_counter) (leb number_long (length body)) t in
    let some = leb-true 8 (length body) tests.2 in
    let e = number_stands 8 body (bytes_drop 1 bs h) some in
    record {
      good = both (ltb i counter_count) (leb v max_counter) tests.0 tests.1;
      section = refl;
      written = append_assoc (bytes byte_long i) (bytes number_long v) (drop 8 body) ∙ rw e (level_stands bs h (omega arith));
    }

-- ---- what was written is read back
-- the reading of a good entry, with these bytes after it
abbrev pub read_back : Difference → List ℕ → Reading
read_back d y = record { entry = d; rest = y; right = true }

-- kind and level, with these bytes after them
head_back : (k l : ℕ) (y : List ℕ) → k < 256 → l < 256 → file_entry (bytes byte_long k ++ (bytes byte_long l ++ y)) ≡ cond (eqb k left_kind) (number_only l y) (whole_file k l y)
unfolding file_entry
head_back k l y h g = rw (number_back 1 k (bytes byte_long l ++ y) (omega arith), number_past 1 k (bytes byte_long l ++ y), number_back 1 l y (omega arith), number_past 1 l y)

-- a number that only the left has
left_back : (l n : ℕ) (y : List ℕ) → l < level_count → n < 2 ^ 64 → number_only l (bytes number_long n ++ y) ≡ read_back (only_left l n) y
unfolding number_only
left_back l n y h k =
    let there : leb number_long (length (bytes number_long n ++ y)) ≡ true = le-leb 8 (length (bytes number_long n ++ y)) (omega (arith, length-append (bytes number_long n) y, bytes_length 8 n)) in
    rw (number_back 8 n y (omega arith), number_past 8 n y, lt-ltb l level_count h, there)

-- a good file
module _ (f : File) (y : List ℕ) (g : good_file full f ≡ true) (h : f.number < 2 ^ 64) where
  -- it fits its bytes
  fits : Fit f
  fits = let s = short_keys f g in record { number = omega arith; size = omega (arith, (file_facts full f g).size); smallest = s.0; largest = s.1 }

  -- it is read back
  exact_back : exact_file (write_file f ++ y) ≡ true
  unfolding exact_file
  exact_back = rw (file_back f y fits, file_rest f y fits, g) (eq_same (write_file f ++ y))

  -- so is the entry that it stands in
  whole_back : (k l : ℕ) → k ≤ changed_kind → l < level_count → whole_file k l (write_file f ++ y) ≡ read_back (cond (eqb k right_kind) (only_right l f) (changed l f)) y
  unfolding whole_file
  whole_back k l p q = rw (exact_back, file_back f y fits, file_rest f y fits, lt-ltb l level_count q, le-leb k changed_kind p)

-- an entry of kind k with a file
other_back : (k l : ℕ) (f : File) (y : List ℕ) → k ≤ changed_kind → (ltb l level_count && (good_file full f && ltb f.number (2 ^ 64))) ≡ true
    → file_entry ((bytes byte_long k ++ (bytes byte_long l ++ write_file f)) ++ y) ≡ cond (eqb k left_kind) (number_only l (write_file f ++ y)) (read_back (cond (eqb k right_kind) (only_right l f) (changed l f)) y)
other_back k l f y h g =
    let t = two_tests (ltb l level_count) (good_file full f) (ltb f.number (2 ^ 64)) g in
    let a = ltb-true l level_count t.0 in
    ap file_entry (three_parts (bytes byte_long k) (bytes byte_long l) (write_file f) y) ∙ head_back k l (write_file f ++ y) (omega arith) (omega arith)
    ∙ ap (cond (eqb k left_kind) (number_only l (write_file f ++ y))) (whole_back f y t.1 (ltb-true f.number (2 ^ 64) t.2) k l h a)

-- an entry of files
files_back : (d : Difference) (y : List ℕ) → section_of d ≡ 0 → good_difference full d ≡ true → file_entry (write_difference d ++ y) ≡ read_back d y
unfolding section_of good_difference write_difference full
files_back (only_left l n) y z g =
    let a = ltb-true l level_count (and_left (ltb l level_count) (ltb n (2 ^ 64)) g) in
    let b = ltb-true n (2 ^ 64) (and_right (ltb l level_count) (ltb n (2 ^ 64)) g) in
    ap file_entry (three_parts (bytes byte_long left_kind) (bytes byte_long l) (bytes number_long n) y) ∙ head_back 0 l (bytes number_long n ++ y) (omega arith) (omega arith) ∙ left_back l n y a b
files_back (only_right l f) y z g = other_back right_kind l f y (omega arith) g
files_back (changed l f) y z g = other_back changed_kind l f y (omega arith) g
files_back (pointer_is l o) y z g = absurd (omega arith)
files_back (counter_is i v) y z g = absurd (omega arith)

-- the pointer of the bytes of a good pointer
pointer_back : (o : Option Key) → good_pointer full o ≡ true → pointer_of (key_of o) ≡ o
unfolding good_pointer pointer_of key_of
pointer_back none h = refl
pointer_back (some []) h = absurd (omega (arith, ((good_key_says full.longest []).0 h).some_byte))
pointer_back (some (b ∷ bs)) h = refl

-- a pointer's key fits its room
pointer_fits : (o : Option Key) → good_pointer full o ≡ true → length (key_of o) ≤ key_room
unfolding full
pointer_fits o h = pointer_short full o h

-- it is read back
key_exact : (o : Option Key) (y : List ℕ) → good_pointer full o ≡ true → exact_key (write_key (key_of o) ++ y) ≡ true
unfolding exact_key
key_exact o y g = rw (key_back (key_of o) y (pointer_fits o g), key_rest (key_of o) y (pointer_fits o g), pointer_back o g, g) (eq_same (write_key (key_of o) ++ y))

-- an entry of pointers
pointers_back : (d : Difference) (y : List ℕ) → section_of d ≡ 1 → good_difference full d ≡ true → pointer_entry (write_difference d ++ y) ≡ read_back d y
unfolding section_of good_difference write_difference full pointer_entry
pointers_back (only_left l n) y z g = absurd (omega arith)
pointers_back (only_right l f) y z g = absurd (omega arith)
pointers_back (changed l f) y z g = absurd (omega arith)
pointers_back (pointer_is l o) y z g =
    let a = ltb-true l level_count (and_left (ltb l level_count) (good_pointer full o) g) in
    let b = and_right (ltb l level_count) (good_pointer full o) g in
    let k = write_key (key_of o) in
    rw (append_assoc (bytes byte_long l) k y, number_back 1 l (k ++ y) (omega arith), number_past 1 l (k ++ y), key_back (key_of o) y (pointer_fits o b), key_rest (key_of o) y (pointer_fits o b), pointer_back o b, lt-ltb l level_count a, key_exact o y b)
pointers_back (counter_is i v) y z g = absurd (omega arith)

-- an entry of counters
counters_back : (d : Difference) (y : List ℕ) → section_of d ≡ 2 → good_difference full d ≡ true → counter_entry (write_difference d ++ y) ≡ read_back d y
unfolding section_of good_difference write_difference counter_entry
counters_back (only_left l n) y z g = absurd (omega arith)
counters_back (only_right l f) y z g = absurd (omega arith)
counters_back (changed l f) y z g = absurd (omega arith)
counters_back (pointer_is l o) y z g = absurd (omega arith)
counters_back (counter_is i v) y z g =
    let a = ltb-true i counter_count (and_left (ltb i counter_count) (leb v max_counter) g) in
    let b = and_right (ltb i counter_count) (leb v max_counter) g in
    let m = leb-true v max_counter b in
    let c = bytes number_long v in
    let there : leb number_long (length (c ++ y)) ≡ true = le-leb 8 (length (c ++ y)) (omega (arith, length-append c y, bytes_length 8 v)) in
    rw (append_assoc (bytes byte_long i) c y, number_back 1 i (c ++ y) (omega arith), number_past 1 i (c ++ y), number_back 8 v y (omega arith), number_past 8 v y, lt-ltb i counter_count a, b, there)

-- ---- for every section the same
-- its right entries write these very bytes, and its good entries are read back
pub record Sure (s : ℕ) : Type 0 where
  pub right : (bs : List ℕ) → are_bytes bs ≡ true → (entry_in s bs).right ≡ true → Right s bs (entry_in s bs)
  pub back : (d : Difference) (y : List ℕ) → section_of d ≡ s → good_difference full d ≡ true → entry_in s (write_difference d ++ y) ≡ read_back d y

-- the files
pub sure_files : Sure 0
unfolding entry_in
sure_files = record { right = files_right; back = files_back }

-- the pointers
pub sure_pointers : Sure 1
unfolding entry_in
sure_pointers = record { right = pointers_right; back = pointers_back }

-- the counters
pub sure_counters : Sure 2
unfolding entry_in
sure_counters = record { right = counters_right; back = counters_back }
