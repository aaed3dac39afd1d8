-- Laws of entries found at places of the bytes: what is compared there, and what is kept of them. Assumes nothing.
use Rattle.std.specs.Prelude.{ℕ, ◌+◌, ◌-◌, ◌≤◌, ◌<◌, ◌≡◌, ◌⊎◌, Bool, not, ◌&&◌, ◌||◌, cond, Option, Some, None, List, [], ◌∷◌, ◌++◌, eqb, leb, length, take}
use Rattle.std.proofs.Math.Path.{refl, sym, ap}
use Rattle.std.proofs.Common.{◌∙◌, subst, inl, inr, arith, take-append-drop, take_at, drop-drop}
use Rattle.std.proofs.Math.Bool.{true, false}
use Rattle.std.proofs.lemmas.List.{append_cancel_right}
use borrow.Author.Tests.{ltb-false, lt-ltb, le-ltb, lt-leb, le-leb, ne_eqb}
use Rattle.std.proofs.Math.Dec.{ltb}
use Rattle.std.proofs.Math.ListN.{drop, length-drop}
use Rattle.lemmas.specs.Order.{lexb, by_first, clash}
use Rattle.lemmas.specs.Slices.{put, put_front}
use Rattle.model.specs.Key.{good_key}
use Rattle.model.specs.File.{full, good_file, good_pointer, level_count, max_counter, key_room}
use Rattle.model.specs.Snapshot.{write_key, write_file, same_bytes, byte_long, number_long, counter_count, keys_at}
use Rattle.model.proofs.Reading.{same_eq, eq_same}
use Rattle.model.specs.Difference.{only_right, changed}
use Rattle.model.specs.DifferenceBytes.{left_kind, right_kind, changed_kind, pointer_of}
use Rattle.keys.specs.declared.Key.{Key}
use Rattle.keys.specs.Key.{key_of, key_record, held}
use Rattle.keys.specs.KeyLaws.{key_of_record}
use Rattle.records.specs.declared.FileRecord.{FileRecord}
use Rattle.records.specs.Record.{file_of, record_of, well_record, sound_record}
use Rattle.records.specs.RecordLaws.{record_of_sound, file_of_record_of}
use Rattle.snapshot_parts.specs.LayingLaws.{key_long}
use Rattle.snapshot_parse.specs.Parsing.{At, number_in, key_length, key_in, after_key, file_in, after_file}
use Rattle.snapshot_parse.specs.ParsingLaws.{key_in_short}
use Rattle.patch_list.specs.Entries.{Reading, exact_file, exact_key, number_only, whole_file, file_entry, pointer_entry, counter_entry, level_of, number_of, Read, Kept, Found, last_standing}
use Rattle.patch_list.specs.declared.Entry.{Entry}

-- ---- bytes that are compared
-- what is written to the front of an output stands there
pub laid_front : (d out s : List ℕ) (n : ℕ) → out ≡ put d 0 s → n ≡ 0 + length s → take (n - 0) out ≡ s
laid_front d out s n e q = ap (take (n - 0)) (e ∙ put_front d s) ∙ take_at s (drop (length s) d) (n - 0) (omega arith)

-- the same bytes after two lists make no difference
same_after : (w u r : List ℕ) → same_bytes w u ≡ same_bytes (w ++ r) (u ++ r)
same_after w u r = go (same_bytes w u) refl (same_bytes (w ++ r) (u ++ r)) refl
  where
    go : (a : Bool) → same_bytes w u ≡ a → (b : Bool) → same_bytes (w ++ r) (u ++ r) ≡ b → a ≡ b
    go true p true q = refl
    go false p false q = refl
    go true p false q = clash (subst (λ (x : List ℕ). same_bytes (w ++ r) (x ++ r) ≡ true) (same_eq w u p) (eq_same (w ++ r))) q
    go false p true q = clash (ap (same_bytes w) (sym (append_cancel_right w u r (same_eq (w ++ r) (u ++ r) q))) ∙ eq_same w) p

-- a part of the bytes ends at a place
module _ (src : List ℕ) (at next : ℕ) (rest : List ℕ) (e : At src next rest) where
  -- it does not end before it begins, if no more bytes are left than there were
  place_up : at ≤ length src → length rest ≤ length (drop at src) → at ≤ next
  place_up h k = omega (arith, e.within, ap length e.rest, length-drop next src, length-drop at src)

  -- comparing it alone, or with the bytes after it
  lent_same : at ≤ next → (w : List ℕ) → same_bytes w (take (next - at) (drop at src)) ≡ same_bytes (w ++ rest) (drop at src)
  lent_same h w =
      let n = next - at in
      let u = take n (drop at src) in
      let on : at + n ≡ next = omega arith in
      let q : drop n (drop at src) ≡ rest = drop-drop n at src ∙ ap (λ (m : ℕ). drop m src) on ∙ e.rest in
      same_after w u rest ∙ ap (λ (x : List ℕ). same_bytes (w ++ rest) (u ++ x)) (sym q) ∙ ap (same_bytes (w ++ rest)) (take-append-drop n (drop at src))

-- after a key no more bytes are left
key_less : (bs : List ℕ) → length (after_key bs) ≤ length bs
unfolding after_key
key_less bs = omega (arith, length-drop (key_length bs) (drop 1 bs), length-drop 1 bs)

-- nor after a file
file_less : (bs : List ℕ) → length (after_file bs) ≤ length bs
unfolding after_file
file_less bs = omega (arith, key_less (after_key (drop keys_at bs)), key_less (drop keys_at bs), length-drop keys_at bs)

-- ---- tests one after another
-- the second fails
one_fails : (a : Bool) → (a && false) ≡ false
one_fails true = refl
one_fails false = refl

-- the third fails
two_fail : (a b : Bool) → (a && (b && false)) ≡ false
two_fail true b = one_fails b
two_fail false b = refl

-- ---- what is kept
-- an entry that reads as a right one is kept
pub read_kept : (src : List ℕ) (r : Reading) (e : Entry) → Read src r e true → Kept src r e
read_kept src r e k = record { right = k.right; next = k.next; level = k.level; number = k.number }

-- ---- files
-- a number that only the left has, of level l
module _ (src : List ℕ) (at l : ℕ) where
  -- its entry is not right if the level is none
  pub number_no_level : level_count ≤ l → (number_only l (drop at src)).right ≡ false
  unfolding number_only
  number_no_level g = rw (le-ltb l level_count g)

  -- nor if not all its bytes are there
  pub number_cut : length src - at < number_long → (number_only l (drop at src)).right ≡ false
  unfolding number_only
  number_cut h = rw (length-drop at src, lt-leb number_long (length src - at) h) (one_fails (ltb l level_count))

  -- if the level is one, it is right if they are there
  pub number_right : l < level_count → leb number_long (length src - at) ≡ (number_only l (drop at src)).right
  unfolding number_only
  number_right g = rw (lt-ltb l level_count g, length-drop at src)

  -- right or not, it reads as this number, and the place after it is this one
  pub number_read : (next n : ℕ) → n ≡ number_in number_long (drop at src) → At src next (drop number_long (drop at src)) → (b : Bool) → (number_only l (drop at src)).right ≡ b → Read src (number_only l (drop at src)) (record { next = next; level = l; number = n }) b
  unfolding number_only level_of number_of
  number_read next n u e b t = record { next = e; level = refl; number = u; right = t }

  -- it is kept if it is right
  pub number_kept : (next n : ℕ) → n ≡ number_in number_long (drop at src) → At src next (drop number_long (drop at src)) → l < level_count → number_long ≤ length src - at → Kept src (number_only l (drop at src)) (record { next = next; level = l; number = n })
  number_kept next n u e g h =
      read_kept src (number_only l (drop at src)) (record { next = next; level = l; number = n }) (number_read next n u e true (sym (number_right g) ∙ le-leb number_long (length src - at) h))

-- the record of a file as it is read, and the place after it
module _ (src : List ℕ) (at next : ℕ) (h : at ≤ length src) (e : At src next (after_file (drop at src))) where
  -- the place is no earlier
  pub file_up : at ≤ next
  file_up = place_up src at next (after_file (drop at src)) e h (file_less (drop at src))

  module _ (r : FileRecord) (q : r ≡ record_of (file_in (drop at src))) where
    -- it stands for the file
    stands : file_of r ≡ file_in (drop at src)
    unfolding file_in
    stands = ap file_of q ∙ file_of_record_of (file_in (drop at src)) (key_in_short (drop keys_at (drop at src))) (key_in_short (after_key (drop keys_at (drop at src))))

    -- it is well-formed if the file is good
    well : well_record r ≡ good_file full (file_in (drop at src))
    unfolding well_record file_in
    well =
        let s : sound_record r ≡ true = ap sound_record q ∙ record_of_sound (file_in (drop at src)) (key_in_short (drop keys_at (drop at src))) (key_in_short (after_key (drop keys_at (drop at src)))) in
        rw (s, stands)

    -- its entry, of kind k and level l
    module _ (k l : ℕ) where
      -- it is not right if it fails a test
      pub file_failed : (well_record r ≡ false) ⊎ ((leb k changed_kind ≡ false) ⊎ (level_count ≤ l)) → (whole_file k l (drop at src)).right ≡ false
      unfolding whole_file exact_file
      file_failed (inl t) = rw (sym well ∙ t) (two_fail (ltb l level_count) (leb k changed_kind))
      file_failed (inr (inl t)) = rw t (one_fails (ltb l level_count))
      file_failed (inr (inr g)) = rw (le-ltb l level_count g)

      -- if it passes them, it is right if these are the bytes that it writes
      pub file_right : l < level_count → leb k changed_kind ≡ true → well_record r ≡ true → same_bytes (write_file (file_of r)) (take (next - at) (drop at src)) ≡ (whole_file k l (drop at src)).right
      unfolding whole_file exact_file
      file_right g p t = lent_same src at next (after_file (drop at src)) e file_up (write_file (file_of r)) ∙ rw (stands, lt-ltb l level_count g, p, sym well ∙ t)

      -- right or not, it reads as this file, and the place after it is this one
      pub file_read : (b : Bool) → (whole_file k l (drop at src)).right ≡ b → Read src (whole_file k l (drop at src)) (record { next = next; level = l; number = r.number.0 }) b
      unfolding whole_file level_of number_of record_of
      file_read b t = record { next = e; level = go (eqb k right_kind); number = ap (λ (x : FileRecord). x.number.0) q ∙ of (eqb k right_kind); right = t }
        where
          go : (t : Bool) → l ≡ level_of (cond t (only_right l (file_in (drop at src))) (changed l (file_in (drop at src))))
          go true = refl
          go false = refl

          of : (t : Bool) → (file_in (drop at src)).number ≡ number_of (cond t (only_right l (file_in (drop at src))) (changed l (file_in (drop at src))))
          of true = refl
          of false = refl

      -- it is kept if it is right
      pub file_kept : (whole_file k l (drop at src)).right ≡ true → Kept src (whole_file k l (drop at src)) (record { next = next; level = l; number = r.number.0 })
      file_kept t = read_kept src (whole_file k l (drop at src)) (record { next = next; level = l; number = r.number.0 }) (file_read true t)

-- ---- pointers
-- the record of a key as it is read, and the place after it
module _ (src : List ℕ) (at next : ℕ) (h : at ≤ length src) (e : At src next (after_key (drop at src))) where
  -- the place is no earlier
  pub key_up : at ≤ next
  key_up = place_up src at next (after_key (drop at src)) e h (key_less (drop at src))

  module _ (k : Key) (q : k ≡ key_record (key_in (drop at src))) where
    -- it is within its room
    pub key_short : k.len ≤ key_room
    unfolding key_record
    key_short = rw q (key_in_short (drop at src))

    -- it stands for the key
    key_stands : key_of k ≡ key_in (drop at src)
    key_stands = ap key_of q ∙ key_of_record (key_in (drop at src)) (key_in_short (drop at src))

    -- an entry of pointers, whose key it is, with the level before it
    module _ (from l : ℕ) (u : l ≡ number_in byte_long (drop from src)) (v : drop at src ≡ drop byte_long (drop from src)) where
      -- whether it is right
      pointer_is_right : (pointer_entry (drop from src)).right ≡ (ltb l level_count && exact_key (drop at src))
      unfolding pointer_entry
      pointer_is_right = rw (← u, ← v)

      -- it is not if it fails a test
      pub pointer_failed : (good_pointer full (pointer_of (key_of k)) ≡ false) ⊎ (level_count ≤ l) → (pointer_entry (drop from src)).right ≡ false
      unfolding exact_key
      pointer_failed w = pointer_is_right ∙ go w
        where
          go : (good_pointer full (pointer_of (key_of k)) ≡ false) ⊎ (level_count ≤ l) → (ltb l level_count && (good_pointer full (pointer_of (key_in (drop at src))) && same_bytes (write_key (key_in (drop at src)) ++ after_key (drop at src)) (drop at src))) ≡ false
          go (inl t) = let none : good_pointer full (pointer_of (key_in (drop at src))) ≡ false = rw key_stands at t in rw none (one_fails (ltb l level_count))
          go (inr g) = rw (le-ltb l level_count g)

      -- if it passes them, it is right if these are the bytes that the key writes
      pub pointer_right : l < level_count → good_pointer full (pointer_of (key_of k)) ≡ true → same_bytes (write_key (key_of k)) (take (next - at) (drop at src)) ≡ (pointer_entry (drop from src)).right
      unfolding exact_key
      pointer_right g t =
          let bs = drop at src in
          let good : good_pointer full (pointer_of (key_in bs)) ≡ true = rw key_stands at t in
          let whole : (pointer_entry (drop from src)).right ≡ same_bytes (write_key (key_in bs) ++ after_key bs) bs = pointer_is_right ∙ rw (good, lt-ltb l level_count g) in
          lent_same src at next (after_key bs) e key_up (write_key (key_of k)) ∙ rw key_stands (sym whole)

      -- right or not, it reads as a pointer of this level, and the place after it is this one
      pub pointer_read : (b : Bool) → (pointer_entry (drop from src)).right ≡ b → Read src (pointer_entry (drop from src)) (record { next = next; level = l; number = 0 }) b
      unfolding pointer_entry level_of number_of
      pointer_read b t = record { next = record { within = e.within; rest = e.rest ∙ ap after_key v }; level = u; number = refl; right = t }

      -- it is kept if it is right
      pub pointer_kept : (pointer_entry (drop from src)).right ≡ true → Kept src (pointer_entry (drop from src)) (record { next = next; level = l; number = 0 })
      pointer_kept t = read_kept src (pointer_entry (drop from src)) (record { next = next; level = l; number = 0 }) (pointer_read true t)

-- the key of no bytes is that of a pointer that is not set
pub unset_pointer : (k : Key) → k.len ≡ 0 → good_pointer full (pointer_of (key_of k)) ≡ true
unfolding key_of held pointer_of good_pointer
unset_pointer k e = rw e

-- another is that of a pointer if it is good
pub set_pointer_lem : (k : Key) → length k.bytes ≡ key_room → k.len ≤ key_room → (k.len ≡ 0 → ⊥) → good_key full.longest (key_of k) ≡ good_pointer full (pointer_of (key_of k))
unfolding pointer_of good_pointer
set_pointer_lem k q h n = go (key_of k) (key_long k q h)
  where
    go : (x : List ℕ) → length x ≡ k.len → good_key full.longest x ≡ good_pointer full (pointer_of x)
    go [] e = absurd (n (sym e))
    go (b ∷ x) e = refl

-- ---- counters
-- an entry of counters: its place in a snapshot and its number
module _ (src : List ℕ) (from at i v : ℕ) (u : i ≡ number_in byte_long (drop from src)) (s : At src at (drop byte_long (drop from src))) (w : v ≡ number_in number_long (drop at src)) where
  -- whether it is right
  counter_is_right : (counter_entry (drop from src)).right ≡ (ltb i counter_count && (leb v max_counter && leb number_long (length src - at)))
  unfolding counter_entry
  counter_is_right = sym (rw (u, w, ← s.rest, length-drop at src))

  -- it is not if it fails a test
  pub counter_failed : (length src - at < number_long) ⊎ ((leb v max_counter ≡ false) ⊎ (counter_count ≤ i)) → (counter_entry (drop from src)).right ≡ false
  counter_failed o = counter_is_right ∙ go o
    where
      go : (length src - at < number_long) ⊎ ((leb v max_counter ≡ false) ⊎ (counter_count ≤ i)) → (ltb i counter_count && (leb v max_counter && leb number_long (length src - at))) ≡ false
      go (inl h) = rw (lt-leb number_long (length src - at) h) (two_fail (ltb i counter_count) (leb v max_counter))
      go (inr (inl k)) = rw k (one_fails (ltb i counter_count))
      go (inr (inr g)) = rw (le-ltb i counter_count g)

  -- if it passes the others, it is right if all its bytes are there
  pub counter_right : i < counter_count → leb v max_counter ≡ true → leb number_long (length src - at) ≡ (counter_entry (drop from src)).right
  counter_right g k = sym (counter_is_right ∙ rw (lt-ltb i counter_count g, k))

  -- the place after it
  module _ (next : ℕ) (e : At src next (drop number_long (drop at src))) where
    -- right or not, it reads as a counter of this place, and the place after it is this one
    pub counter_read : (b : Bool) → (counter_entry (drop from src)).right ≡ b → Read src (counter_entry (drop from src)) (record { next = next; level = i; number = 0 }) b
    unfolding counter_entry level_of number_of
    counter_read b t = record { next = record { within = e.within; rest = e.rest ∙ ap (drop number_long) s.rest }; level = u; number = refl; right = t }

    -- it is kept if it is right: it passes the tests
    pub counter_kept : i < counter_count → leb v max_counter ≡ true → number_long ≤ length src - at → Kept src (counter_entry (drop from src)) (record { next = next; level = i; number = 0 })
    counter_kept g k h =
        read_kept src (counter_entry (drop from src)) (record { next = next; level = i; number = 0 }) (counter_read true (sym (counter_right g k) ∙ le-leb number_long (length src - at) h))

-- ---- the order of two entries
module _ (l n m k : ℕ) where
  -- of different levels: by level
  by_level : (l ≡ m → ⊥) → lexb (l ∷ n ∷ []) (m ∷ k ∷ []) ≡ ltb l m
  unfolding lexb by_first
  by_level h = go (ltb l m) refl
    where
      go : (t : Bool) → ltb l m ≡ t → (t || (not (ltb m l) && (ltb n k || (not (ltb k n) && false)))) ≡ t
      go true p = refl
      go false p = let q : ltb m l ≡ true = lt-ltb m l (omega (arith, ltb-false l m p, h)) in rw q

  -- of one level: by number
  by_number_lem : l ≡ m → lexb (l ∷ n ∷ []) (m ∷ k ∷ []) ≡ ltb n k
  unfolding lexb by_first
  by_number_lem e =
      let a : ltb l m ≡ false = le-ltb l m (omega arith) in
      let b : ltb m l ≡ false = le-ltb m l (omega arith) in
      rw (a, b) (go (ltb n k) (ltb k n))
    where
      go : (x y : Bool) → (x || (not y && false)) ≡ x
      go true y = refl
      go false true = refl
      go false false = refl

-- whether an entry stands after the last one
-- it is the first
pub follows_first : (e : Entry) → true ≡ lexb (last_standing None) (e.level ∷ e.number ∷ [])
unfolding last_standing lexb
follows_first e = refl

module _ (last e : Entry) where
  -- it is of another level
  pub follows_level : (last.level ≡ e.level → ⊥) → ltb last.level e.level ≡ lexb (last_standing (Some last)) (e.level ∷ e.number ∷ [])
  unfolding last_standing
  follows_level n = sym (by_level last.level last.number e.level e.number n)

  -- it is of the same level
  pub follows_number : last.level ≡ e.level → ltb last.number e.number ≡ lexb (last_standing (Some last)) (e.level ∷ e.number ∷ [])
  unfolding last_standing
  follows_number q = sym (by_number_lem last.level last.number e.level e.number q)

-- ---- an entry of files by its kind
-- kind, level, and the place after them
module _ (src : List ℕ) (at mid body k l : ℕ) (u : k ≡ number_in byte_long (drop at src)) (s : At src mid (drop byte_long (drop at src))) (v : l ≡ number_in byte_long (drop mid src)) (t : At src body (drop byte_long (drop mid src))) where
  -- what follows the level decides, by the kind
  files_are : file_entry (drop at src) ≡ cond (eqb k left_kind) (number_only l (drop body src)) (whole_file k l (drop body src))
  unfolding file_entry
  files_are = rw (u, v, t.rest, s.rest)

  -- only the left has it
  pub files_left : k ≡ left_kind → (o : Option Entry) → Found src (number_only l (drop body src)) o → Found src (file_entry (drop at src)) o
  files_left z o f = subst (λ (r : Reading). Found src r o) (sym (files_are ∙ rw z)) f

  -- or not
  pub files_whole : (k ≡ left_kind → ⊥) → (o : Option Entry) → Found src (whole_file k l (drop body src)) o → Found src (file_entry (drop at src)) o
  files_whole z o f = subst (λ (r : Reading). Found src r o) (sym (files_are ∙ rw (ne_eqb k left_kind z))) f
