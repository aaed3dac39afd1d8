-- Laws of the parts of a snapshot in lent bytes: what each function writes, and how long it is. Assumes nothing.
use Rattle.std.specs.Prelude.{ℕ, suc, ◌+◌, ◌-◌, ◌/◌, ◌%◌, ◌≤◌, ◌<◌, ◌≡◌, Bool, cond, true, false, ◌&&◌, ◌||◌, List, [], ◌∷◌, ◌++◌, map, eqb, leb, length, get_or, set, drop}
use Rattle.std.proofs.Common.{refl, sym, ap, ◌∙◌, append_assoc, append-nil, arith, add-one, zero-add, leb-true, length-append, take, drop_of_length-le, length-take-le}
use Rattle.std.proofs.lemmas.List.{drop-drop}
use Rattle.std.specs.List.{count_by}
use Rattle.std.proofs.lemmas.List.Sums.{sum_by-cons}
use borrow.Rule.Slice.PartMut.{put_mid}
use Rattle.std.proofs.Math.Option.{none, some}
use Rattle.lemmas.specs.Lists.{all, join}
use Rattle.lemmas.specs.ListLaws.{and_left}
use Rattle.lemmas.specs.Little.{bytes, bytes_length, bytes_turn, bytes_end}
use Rattle.lemmas.specs.Slices.{put, put_whole, rest_cons}
use Rattle.lemmas.specs.Laying.{put_next, part_length}
use Rattle.model.specs.File.{File, full, good_pointer, key_room}
use Rattle.model.specs.Snapshot.{write_key, write_file, Entry, entries, write_entry, section, counters_long, byte_long, count_long, number_long}
use Rattle.model.proofs.SnapshotLaws.{write_key_length, write_file_length, write_entry_length}
use Rattle.keys.specs.declared.Key.{Key}
use Rattle.keys.specs.Key.{key_of, is_zero, sound, sound_key}
use Rattle.keys.specs.KeyLaws.{held_in}
use Rattle.records.specs.declared.FileRecord.{FileRecord}
use Rattle.records.specs.Record.{well_record}
use Rattle.records.specs.RecordLaws as records
use Rattle.store.specs.declared.Pointer.{Pointer}
use Rattle.store.specs.Store.{pointer_of, sound_pointer, well_pointer}
use Rattle.store.specs.StoreLaws as store

-- ---- a part of the output

-- a part of a list written anew is its items written over the list there
pub part_put : {A : Type 0} (a k : ℕ) (d s : List A) → length s ≡ k → put_mid a k d s ≡ put d a s
unfolding put
part_put {A} a k d s h = rw h (ap (λ (z : List A). take a d ++ (s ++ z)) (drop-drop k a d))

-- one byte of a number is written: writing the bytes that are left gives the same as before
pub number_turn : (out : List ℕ) (w i y : ℕ) → i < w → i < length out → put (set out i (y % 256)) (i + 1) (bytes (w - (i + 1)) (y / 256)) ≡ put out i (bytes (w - i) y)
number_turn out w i y h k = simp zero-add at (bytes_turn out 0 w i y h (omega arith))

-- all w bytes of a number written over as many: they are its bytes
pub number_laid : (d out : List ℕ) (w i x y : ℕ) → length d ≡ w → w ≤ i → put out i (bytes (w - i) y) ≡ put d 0 (bytes w x) → out ≡ bytes w x
number_laid d out w i x y h k e = sym (simp zero-add at (bytes_end out 0 w i y k)) ∙ e ∙ put_whole d (bytes w x) (bytes_length w x ∙ sym h)

-- ---- keys

-- a key of a sound record is within its room
pub sound_short : (k : Key) → sound_key k ≡ true → k.len ≤ key_room
unfolding sound_key sound
sound_short k s = leb-true k.len key_room (and_left (leb k.len key_room) (all is_zero (drop k.len k.bytes)) s)

-- it has as many bytes as its length says
pub key_long : (k : Key) → length k.bytes ≡ key_room → k.len ≤ key_room → length (key_of k) ≡ k.len
unfolding key_of
key_long k q h = rw (held_in key_room k.bytes k.len h) (length-take-le k.len k.bytes (omega arith))

-- ---- files

-- the keys of a well-formed record are within their room
pub record_short : (r : FileRecord) → well_record r ≡ true → (r.smallest.len ≤ key_room) × (r.largest.len ≤ key_room)
record_short r h =
    let s = (records.sound_says r).0 ((records.well_says r).0 h).0 in
    (sound_short r.smallest s.smallest, sound_short r.largest s.largest)

-- a file takes 16 bytes and those of its keys
pub write_file_parts : (f : File) → length (write_file f) ≡ 16 + length (write_key f.smallest) + length (write_key f.largest)
write_file_parts f = omega (arith, write_file_length f, write_key_length f.smallest, write_key_length f.largest)

-- writing the four parts of a file one after another writes the file
pub file_laid : (f : File) (out o₁ o₂ o₃ o₄ : List ℕ) (at next : ℕ) → at + length (write_file f) ≤ length out → o₁ ≡ put out at (bytes number_long f.number) → o₂ ≡ put o₁ (at + 8) (bytes number_long f.size)
    → o₃ ≡ put o₂ (at + 16) (write_key f.smallest) → next ≡ at + 16 + length (write_key f.smallest) → o₄ ≡ put o₃ next (write_key f.largest) → o₄ ≡ put out at (write_file f)
unfolding write_file
file_laid f out o₁ o₂ o₃ o₄ at next h e₁ e₂ e₃ e e₄ =
    let a = bytes number_long f.number in
    let b = bytes number_long f.size in
    let k = write_key f.smallest in
    let la = bytes_length 8 f.number in
    let lb = bytes_length 8 f.size in
    let lab = length-append a b in
    let labk = length-append (a ++ b) k in
    let all_parts = length-append (a ++ b ++ k) (write_key f.largest) in
    let two = put_next out o₁ o₂ at (at + 8) a b (omega arith) e₁ (omega arith) e₂ in
    let three = put_next out o₂ o₃ at (at + 16) (a ++ b) k (omega arith) two (omega arith) e₃ in
    put_next out o₃ o₄ at next (a ++ b ++ k) (write_key f.largest) (omega arith) three (omega arith) e₄

-- ---- counters

-- the section is its count and five numbers
counters_is : (a b c d e : ℕ) → bytes count_long 5 ++ bytes number_long a ++ bytes number_long b ++ bytes number_long c ++ bytes number_long d ++ bytes number_long e ≡ section (bytes number_long) (a ∷ b ∷ c ∷ d ∷ e ∷ [])
unfolding section join
counters_is a b c d e = simp (append_assoc, append-nil)

-- writing them one after another writes the section
pub counters_laid : (out o₁ o₂ o₃ o₄ o₅ o₆ : List ℕ) (at a b c d e : ℕ) → at + counters_long ≤ length out → o₁ ≡ put out at (bytes count_long 5) → o₂ ≡ put o₁ (at + 2) (bytes number_long a) → o₃ ≡ put o₂ (at + 10) (bytes number_long b)
    → o₄ ≡ put o₃ (at + 18) (bytes number_long c) → o₅ ≡ put o₄ (at + 26) (bytes number_long d) → o₆ ≡ put o₅ (at + 34) (bytes number_long e) → o₆ ≡ put out at (section (bytes number_long) (a ∷ b ∷ c ∷ d ∷ e ∷ []))
counters_laid out o₁ o₂ o₃ o₄ o₅ o₆ at a b c d e h e₁ e₂ e₃ e₄ e₅ e₆ =
    let x₁ = bytes count_long 5 in
    let x₂ = x₁ ++ bytes number_long a in
    let x₃ = x₂ ++ bytes number_long b in
    let x₄ = x₃ ++ bytes number_long c in
    let x₅ = x₄ ++ bytes number_long d in
    let n₁ : length x₁ ≡ 2 = bytes_length 2 5 in
    let n₂ : length x₂ ≡ 10 = omega (arith, length-append x₁ (bytes number_long a), bytes_length 8 a) in
    let n₃ : length x₃ ≡ 18 = omega (arith, length-append x₂ (bytes number_long b), bytes_length 8 b) in
    let n₄ : length x₄ ≡ 26 = omega (arith, length-append x₃ (bytes number_long c), bytes_length 8 c) in
    let n₅ : length x₅ ≡ 34 = omega (arith, length-append x₄ (bytes number_long d), bytes_length 8 d) in
    let l₂ = put_next out o₁ o₂ at (at + 2) x₁ (bytes number_long a) (omega arith) e₁ (omega arith) e₂ in
    let l₃ = put_next out o₂ o₃ at (at + 10) x₂ (bytes number_long b) (omega arith) l₂ (omega arith) e₃ in
    let l₄ = put_next out o₃ o₄ at (at + 18) x₃ (bytes number_long c) (omega arith) l₃ (omega arith) e₄ in
    let l₅ = put_next out o₄ o₅ at (at + 26) x₄ (bytes number_long d) (omega arith) l₄ (omega arith) e₅ in
    put_next out o₅ o₆ at (at + 34) x₅ (bytes number_long e) (omega arith) l₅ (omega arith) e₆ ∙ ap (put out at) (counters_is a b c d e)

-- ---- pointers

-- the key of a well-formed pointer is within its room
pub pointer_short : (p : Pointer) → well_pointer p ≡ true → p.key.len ≤ key_room
unfolding well_pointer sound_pointer
pointer_short p h =
    let a = sound_key p.key in
    let b = p.set || eqb p.key.len 0 in
    sound_short p.key (and_left a b (and_left (a && b) (good_pointer full (pointer_of p)) h))

-- a pointer takes one byte and those of its key
pub write_entry_parts : (e : Entry) → length (write_entry e) ≡ 1 + length (write_key e.key)
write_entry_parts e = omega (arith, write_entry_length e, write_key_length e.key)

-- writing level and key one after another writes the pointer
pub entry_laid : (e : Entry) (out o₁ o₂ : List ℕ) (at : ℕ) → at + length (write_entry e) ≤ length out → o₁ ≡ put out at (bytes byte_long e.level) → o₂ ≡ put o₁ (at + 1) (write_key e.key)
    → o₂ ≡ put out at (write_entry e)
unfolding write_entry
entry_laid e out o₁ o₂ at h e₁ e₂ =
    let one = bytes_length 1 e.level in
    let both_parts = length-append (bytes byte_long e.level) (write_key e.key) in
    put_next out o₁ o₂ at (at + 1) (bytes byte_long e.level) (write_key e.key) (omega arith) e₁ (omega arith) e₂

-- writing the count and the parts one after another writes the section
pub section_laid : {A : Type 0} (w : A → List ℕ) (xs : List A) (out o₁ o₂ : List ℕ) (at : ℕ) → at + length (section w xs) ≤ length out → o₁ ≡ put out at (bytes count_long (length xs)) → o₂ ≡ put o₁ (at + 2) (join (map w xs))
    → o₂ ≡ put out at (section w xs)
unfolding section
section_laid w xs out o₁ o₂ at h e₁ e₂ =
    let two = bytes_length 2 (length xs) in
    let both_parts = length-append (bytes count_long (length xs)) (join (map w xs)) in
    put_next out o₁ o₂ at (at + 2) (bytes count_long (length xs)) (join (map w xs)) (omega arith) e₁ (omega arith) e₂

-- as many are listed as are set
pub set_count : (i : ℕ) (ps : List Pointer) → length (entries i (map pointer_of ps)) ≡ count_by (λ p. p.set) ps
unfolding entries pointer_of
set_count i [] = refl
set_count i (p ∷ ps) = go p.set (set_count (suc i) ps) ∙ sym (sum_by-cons (λ (q : Pointer). cond q.set 1 0) p ps)
  where
    n : ℕ
    n = count_by (λ p. p.set) ps

    go : (t : Bool) → length (entries (suc i) (map pointer_of ps)) ≡ n → length (entries i (cond t (some (key_of p.key)) none ∷ map pointer_of ps)) ≡ cond t 1 0 + n
    go true h = omega arith
    go false h = omega arith

-- the pointers that are set, from level i on
abbrev pub set_from : ℕ → List Pointer → List Entry
set_from i ps = entries i (map pointer_of (drop i ps))

module _ (ps : List Pointer) (i : ℕ) where
  -- the pointer of level i is set: it is the first of them
  pub set_here : i < length ps → (get_or ps i store.past).set ≡ true → set_from i ps ≡ record { level = i; key = key_of (get_or ps i store.past).key } ∷ set_from (i + 1) ps
  unfolding entries pointer_of
  set_here h t = rw (rest_cons ps i store.past h, t, add-one)

  -- its bytes and those of the others are those that are left to write
  pub length_here : i < length ps → (get_or ps i store.past).set ≡ true
      → length (join (map write_entry (set_from i ps))) ≡ 1 + length (write_key (key_of (get_or ps i store.past).key)) + length (join (map write_entry (set_from (i + 1) ps)))
  length_here h t =
      let e : Entry = record { level = i; key = key_of (get_or ps i store.past).key } in
      let others = map write_entry (set_from (i + 1) ps) in
      omega (arith, part_length (write_entry e) others (map write_entry (set_from i ps)) (ap (map write_entry) (set_here h t)), write_entry_parts e)

  -- it is not: the others are left
  pub set_later : i < length ps → (get_or ps i store.past).set ≡ false → set_from i ps ≡ set_from (i + 1) ps
  unfolding entries pointer_of
  set_later h t = rw (rest_cons ps i store.past h, t, add-one)

  -- no level is left
  pub set_over : length ps ≤ i → set_from i ps ≡ []
  unfolding entries
  set_over h = rw (drop_of_length-le ps h)
