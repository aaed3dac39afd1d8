-- Parsing a snapshot gives the state that was written, with ties by rising number. Assumes nothing.
use Prim.Native.Nat.{ℕ, suc, ◌-◌, ◌^◌, ◌≤◌, ◌<◌, min}
use Rattle.std.specs.Prelude.{◌≡◌, length, get_or, drop, replicate}
use Rattle.std.proofs.Math.Path.{refl, sym, ap}
use Rattle.std.proofs.Common.{◌∙◌, length-append, take_at, drop_at, drop-drop}
use mathlib.Core.List.Memᴰ.{append_left as in_left}
use mathlib.Core.List.Memᴰ.{append_right as in_right}
use mathlib.Core.List.Memᴰ.{head as here}
use mathlib.Core.List.Memᴰ.{tail as there}
use mathlib.Core.List.{List, [], ◌∷◌, ◌++◌, map, append_assoc, append-nil, Memᴰ as In}
use Rattle.std.proofs.Math.Option.{none, some}
use native.Mathlib.Omega.{arith}
use Rattle.lemmas.specs.Lists.{sort, join, up_from}
use Rattle.lemmas.specs.ListLaws.{sort_in, sort_length}
use Rattle.lemmas.specs.Little.{number, bytes, bytes_length, bytes_number}
use Rattle.lemmas.specs.Laying.{map_places}
use Rattle.model.specs.File.{File, State, full, level, good_pointer, key_room, level_count, max_files}
use Rattle.model.proofs.Formed.{WF}
use Rattle.model.specs.Snapshot.{by_number, write_key, write_file, Entry, entries, write_entry, section, write_level, five_of, encode, placed, counters_long, byte_long, count_long, number_long}
use Rattle.model.proofs.SnapshotLaws.{entries_few, entries_among, file_facts}
use Rattle.model.proofs.Reading.{in_read_order, as_read, placed_back}
use Rattle.keys.specs.KeyLaws.{good_length}
use Rattle.records.specs.RecordLaws.{short_keys}
use Rattle.snapshot_parse.specs.Parsing.{number_in, key_length, key_in, after_key, file_in, after_file, parts_in, after_parts, entry_in, after_entry, entry_count, entries_in, after_entries, counters_in, levels_in, state_in}

-- ---- numbers and keys

module _ (w n : ℕ) (x : List ℕ) where
  -- a number that was written is read back
  pub number_back : n < 256 ^ w → number_in w (bytes w n ++ x) ≡ n
  unfolding number_in
  number_back h = ap number (take_at (bytes w n) x w (bytes_length w n)) ∙ bytes_number w n h

  -- the bytes after it
  pub number_past : drop w (bytes w n ++ x) ≡ x
  number_past = drop_at (bytes w n) x w (bytes_length w n)

module _ (k x : List ℕ) (h : length k ≤ key_room) where
  -- a key is its length byte, then its bytes
  key_is : write_key k ++ x ≡ bytes byte_long (length k) ++ (k ++ x)
  unfolding write_key
  key_is = append_assoc (bytes byte_long (length k)) k x

  -- its length
  key_length_lem : key_length (write_key k ++ x) ≡ length k
  unfolding key_length
  key_length_lem = ap (λ (bs : List ℕ). min (number_in byte_long bs) key_room) key_is ∙ ap (λ (n : ℕ). min n key_room) (number_back 1 (length k) (k ++ x) (omega arith)) ∙ omega arith

  -- the bytes after the length byte
  key_past : drop 1 (write_key k ++ x) ≡ k ++ x
  key_past = ap (drop 1) key_is ∙ number_past 1 (length k) (k ++ x)

  -- a key that was written is read back
  pub key_back : key_in (write_key k ++ x) ≡ k
  unfolding key_in
  key_back = rw (key_length_lem, key_past) (take_at k x (length k) refl)

  -- the bytes after it
  pub key_rest : after_key (write_key k ++ x) ≡ x
  unfolding after_key
  key_rest = rw (key_length_lem, key_past) (drop_at k x (length k) refl)

-- ---- files

-- a file whose numbers fit their widths and whose keys fit their room
pub record Fit (f : File) : Type 0 where
  pub number : f.number < 256 ^ 8
  pub size : f.size < 256 ^ 8
  pub smallest : length f.smallest ≤ key_room
  pub largest : length f.largest ≤ key_room

module _ (f : File) (x : List ℕ) (h : Fit f) where
  -- the bytes of the file's keys and those after it
  abbrev keys : List ℕ
  keys = write_key f.smallest ++ (write_key f.largest ++ x)

  -- a file is number, size and keys
  file_is : write_file f ++ x ≡ bytes number_long f.number ++ (bytes number_long f.size ++ keys)
  unfolding write_file
  file_is = simp append_assoc

  -- the bytes after the number
  past_number : drop 8 (write_file f ++ x) ≡ bytes number_long f.size ++ keys
  past_number = ap (drop 8) file_is ∙ number_past 8 f.number (bytes number_long f.size ++ keys)

  -- the bytes after the size
  past_size : drop 16 (write_file f ++ x) ≡ keys
  past_size = sym (drop-drop 8 8 (write_file f ++ x)) ∙ ap (drop 8) past_number ∙ number_past 8 f.size keys

  -- a file that was written is read back
  pub file_back : file_in (write_file f ++ x) ≡ f
  unfolding file_in
  file_back =
      let n = ap (number_in number_long) file_is ∙ number_back 8 f.number (bytes number_long f.size ++ keys) h.number in
      let z = ap (number_in number_long) past_number ∙ number_back 8 f.size keys h.size in
      let a = ap key_in past_size ∙ key_back f.smallest (write_key f.largest ++ x) h.smallest in
      let b = ap (λ (bs : List ℕ). key_in (after_key bs)) past_size ∙ ap key_in (key_rest f.smallest (write_key f.largest ++ x) h.smallest) ∙ key_back f.largest x h.largest in
      λ i. record { number = n i; size = z i; smallest = a i; largest = b i }

  -- the bytes after it
  pub file_rest : after_file (write_file f ++ x) ≡ x
  unfolding after_file
  file_rest = ap (λ (bs : List ℕ). after_key (after_key bs)) past_size ∙ ap after_key (key_rest f.smallest (write_key f.largest ++ x) h.smallest) ∙ key_rest f.largest x h.largest

-- ---- pointers

module _ (e : Entry) (x : List ℕ) (h : e.level < 256) (k : length e.key ≤ key_room) where
  -- a pointer is level and key
  entry_is : write_entry e ++ x ≡ bytes byte_long e.level ++ (write_key e.key ++ x)
  unfolding write_entry
  entry_is = append_assoc (bytes byte_long e.level) (write_key e.key) x

  -- the bytes after the level
  past_level : drop 1 (write_entry e ++ x) ≡ write_key e.key ++ x
  past_level = ap (drop 1) entry_is ∙ number_past 1 e.level (write_key e.key ++ x)

  -- a pointer that was written is read back
  pub entry_back : entry_in (write_entry e ++ x) ≡ e
  unfolding entry_in
  entry_back =
      let l = ap (number_in byte_long) entry_is ∙ number_back 1 e.level (write_key e.key ++ x) h in
      let q = ap key_in past_level ∙ key_back e.key x k in
      λ i. record { level = l i; key = q i }

  -- the bytes after it
  pub entry_rest : after_entry (write_entry e ++ x) ≡ x
  unfolding after_entry
  entry_rest = ap after_key past_level ∙ key_rest e.key x k

-- ---- parts and sections

module _ {A : Type 0} (w : A → List ℕ) (part : List ℕ → A) (after : List ℕ → List ℕ) where
  -- parts that were written one after another are read back, and the bytes after them
  pub parts_back : (xs : List A) (x : List ℕ) → ((a : A) → In a xs → (y : List ℕ) → (part (w a ++ y) ≡ a) × (after (w a ++ y) ≡ y))
      → (parts_in part after (length xs) (join (map w xs) ++ x) ≡ xs) × (after_parts part after (length xs) (join (map w xs) ++ x) ≡ x)
  unfolding parts_in after_parts join
  parts_back [] x h = (refl, refl)
  parts_back (a ∷ as') x h =
      let e = append_assoc (w a) (join (map w as')) x in
      let r = h a (here refl) (join (map w as') ++ x) in
      let t = parts_back as' x (λ b m. h b (there m)) in
      (rw (e, r.0, r.1, t.0), ap (after_parts part after (suc (length as'))) e ∙ ap (after_parts part after (length as')) r.1 ∙ t.1)

module _ {A : Type 0} (w : A → List ℕ) (xs : List A) (x : List ℕ) where
  -- a section is its count, then its parts
  section_is : section w xs ++ x ≡ bytes count_long (length xs) ++ (join (map w xs) ++ x)
  unfolding section
  section_is = append_assoc (bytes count_long (length xs)) (join (map w xs)) x

  -- its count is read back
  pub count_back : length xs < 65536 → number_in count_long (section w xs ++ x) ≡ length xs
  count_back h = ap (number_in count_long) section_is ∙ number_back 2 (length xs) (join (map w xs) ++ x) (omega arith)

  -- the bytes after the count
  pub count_rest : drop 2 (section w xs ++ x) ≡ join (map w xs) ++ x
  count_rest = ap (drop 2) section_is ∙ number_past 2 (length xs) (join (map w xs) ++ x)

-- the pointers' section
module _ (es : List Entry) (x : List ℕ) (few : length es ≤ level_count) (h : (e : Entry) → In e es → (e.level < 256) × (length e.key ≤ key_room)) where
  -- the number of pointers is read back
  entries_count : entry_count (section write_entry es ++ x) ≡ length es
  unfolding entry_count
  entries_count = ap (λ (n : ℕ). min n level_count) (count_back write_entry es x (omega arith)) ∙ omega arith

  -- the pointers are read back one after another
  each_back : (parts_in entry_in after_entry (length es) (join (map write_entry es) ++ x) ≡ es) × (after_parts entry_in after_entry (length es) (join (map write_entry es) ++ x) ≡ x)
  each_back = parts_back write_entry entry_in after_entry es x (λ e m y. let q = h e m in (entry_back e y q.0 q.1, entry_rest e y q.0 q.1))

  -- the whole section is read back
  entries_back : entries_in (section write_entry es ++ x) ≡ es
  unfolding entries_in
  entries_back = rw (entries_count, count_rest write_entry es x) each_back.0

  -- the bytes after it
  entries_rest : after_entries (section write_entry es ++ x) ≡ x
  unfolding after_entries
  entries_rest = rw (entries_count, count_rest write_entry es x) each_back.1

-- ---- levels

-- sections of levels within the room are read back, with ties by rising number
levels_back : (fss : List (List File)) (room : ℕ) (x : List ℕ) → length (join fss) ≤ room → room ≤ max_files → ((f : File) → In f (join fss) → Fit f)
    → levels_in (length fss) room (join (map write_level fss) ++ x) ≡ map in_read_order fss
unfolding levels_in join write_level in_read_order
levels_back [] room x h r g = refl
levels_back (fs ∷ fss) room x h r g =
    let gs = sort by_number fs in
    let y = join (map write_level fss) ++ x in
    let e = append_assoc (section write_file gs) (join (map write_level fss)) x in
    let long = sort_length by_number fs in
    let total = length-append fs (join fss) in
    let n : min (number_in count_long (section write_file gs ++ y)) room ≡ length gs = ap (λ (k : ℕ). min k room) (count_back write_file gs y (omega arith)) ∙ omega arith in
    let t = parts_back write_file file_in after_file gs y (λ f m z. let q = g f (in_left (join fss) ((sort_in by_number fs f).0 m)) in (file_back f z q, file_rest f z q)) in
    let ih = levels_back fss (room - length gs) x (omega arith) (omega arith) (λ f m. g f (in_right fs m)) in
    rw (e, n, count_rest write_file gs y, t.0, t.1, ih)

-- ---- counters

module _ (a b c d e : ℕ) (x : List ℕ) where
  -- the section of five counters
  abbrev five : List ℕ
  five = section (bytes number_long) (a ∷ b ∷ c ∷ d ∷ e ∷ [])

  -- it is its count, then the counters
  five_is : five ++ x ≡ bytes count_long 5 ++ (bytes number_long a ++ (bytes number_long b ++ (bytes number_long c ++ (bytes number_long d ++ (bytes number_long e ++ x)))))
  unfolding section join
  five_is = simp (append_assoc, append-nil)

  -- the bytes after the count
  past₀ : drop 2 (five ++ x) ≡ bytes number_long a ++ (bytes number_long b ++ (bytes number_long c ++ (bytes number_long d ++ (bytes number_long e ++ x))))
  past₀ = ap (drop 2) five_is ∙ number_past 2 5 (bytes number_long a ++ (bytes number_long b ++ (bytes number_long c ++ (bytes number_long d ++ (bytes number_long e ++ x)))))

  -- the bytes after the first counter
  past₁ : drop 10 (five ++ x) ≡ bytes number_long b ++ (bytes number_long c ++ (bytes number_long d ++ (bytes number_long e ++ x)))
  past₁ = sym (drop-drop 8 2 (five ++ x)) ∙ ap (drop 8) past₀ ∙ number_past 8 a (bytes number_long b ++ (bytes number_long c ++ (bytes number_long d ++ (bytes number_long e ++ x))))

  -- the bytes after the second
  past₂ : drop 18 (five ++ x) ≡ bytes number_long c ++ (bytes number_long d ++ (bytes number_long e ++ x))
  past₂ = sym (drop-drop 8 10 (five ++ x)) ∙ ap (drop 8) past₁ ∙ number_past 8 b (bytes number_long c ++ (bytes number_long d ++ (bytes number_long e ++ x)))

  -- the bytes after the third
  past₃ : drop 26 (five ++ x) ≡ bytes number_long d ++ (bytes number_long e ++ x)
  past₃ = sym (drop-drop 8 18 (five ++ x)) ∙ ap (drop 8) past₂ ∙ number_past 8 c (bytes number_long d ++ (bytes number_long e ++ x))

  -- the bytes after the fourth
  past₄ : drop 34 (five ++ x) ≡ bytes number_long e ++ x
  past₄ = sym (drop-drop 8 26 (five ++ x)) ∙ ap (drop 8) past₃ ∙ number_past 8 d (bytes number_long e ++ x)

  -- the bytes after all five
  five_rest : drop counters_long (five ++ x) ≡ x
  five_rest = sym (drop-drop 8 34 (five ++ x)) ∙ ap (drop 8) past₄ ∙ number_past 8 e x

  -- five counters that were written are read back
  five_back : a < 256 ^ 8 → b < 256 ^ 8 → c < 256 ^ 8 → d < 256 ^ 8 → e < 256 ^ 8 → counters_in (five ++ x) ≡ record { next = a; manifest = b; last = c; log = d; previous = e }
  unfolding counters_in
  five_back ha hb hc hd he =
      let n₀ = ap (number_in number_long) past₀ ∙ number_back 8 a (bytes number_long b ++ (bytes number_long c ++ (bytes number_long d ++ (bytes number_long e ++ x)))) ha in
      let n₁ = ap (number_in number_long) past₁ ∙ number_back 8 b (bytes number_long c ++ (bytes number_long d ++ (bytes number_long e ++ x))) hb in
      let n₂ = ap (number_in number_long) past₂ ∙ number_back 8 c (bytes number_long d ++ (bytes number_long e ++ x)) hc in
      let n₃ = ap (number_in number_long) past₃ ∙ number_back 8 d (bytes number_long e ++ x) hd in
      let n₄ = ap (number_in number_long) past₄ ∙ number_back 8 e x he in
      λ i. record { next = n₀ i; manifest = n₁ i; last = n₂ i; log = n₃ i; previous = n₄ i }

-- ---- the whole

module _ (t : State) (w : WF full t) where
  -- the pointers' section
  abbrev pointers : List ℕ
  pointers = section write_entry (entries 0 t.pointers)

  -- the levels' sections
  abbrev levels : List ℕ
  levels = join (map (λ l. write_level (level t l)) (up_from 0 level_count))

  -- the snapshot is counters, pointers, levels
  pub encode_is : encode t ≡ section (bytes number_long) (five_of t.counters) ++ (pointers ++ levels)
  unfolding encode
  encode_is = append_assoc (section (bytes number_long) (five_of t.counters)) pointers levels

  -- the counters are read back
  counters_back : counters_in (encode t) ≡ t.counters
  unfolding five_of
  counters_back =
      let c = t.counters in
      let h = w.counters in
      ap counters_in encode_is
      ∙ five_back c.next c.manifest c.last c.log c.previous (pointers ++ levels) (omega (arith, h c.next (here refl))) (omega (arith, h c.manifest (there (here refl))))
      (omega (arith, h c.last (there (there (here refl))))) (omega (arith, h c.log (there (there (there (here refl)))))) (omega (arith, h c.previous (there (there (there (there (here refl)))))))

  -- the bytes after the counters
  pub past_counters : drop counters_long (encode t) ≡ pointers ++ levels
  unfolding five_of
  past_counters = let c = t.counters in ap (drop counters_long) encode_is ∙ five_rest c.next c.manifest c.last c.log c.previous (pointers ++ levels)

  -- there are no more pointers than levels
  few : length (entries 0 t.pointers) ≤ level_count
  unfolding full
  few = omega (arith, entries_few 0 t.pointers, w.pointer_levels)

  -- pointers fit their bytes
  pub entries_fit : (e : Entry) → In e (entries 0 t.pointers) → (e.level < 256) × (length e.key ≤ key_room)
  unfolding full good_pointer
  entries_fit e m =
      let r = entries_among 0 t.pointers e m in
      (omega (arith, r.0, w.pointer_levels), good_length e.key (w.pointers (some e.key) r.1))

  -- the pointers are read back
  pointers_back : placed (entries_in (drop counters_long (encode t))) (replicate level_count none) ≡ t.pointers
  unfolding full
  pointers_back =
      ap (λ (bs : List ℕ). placed (entries_in bs) (replicate level_count none)) past_counters
      ∙ ap (λ (es : List Entry). placed es (replicate level_count none)) (entries_back (entries 0 t.pointers) levels few entries_fit)
      ∙ ap (λ (n : ℕ). placed (entries 0 t.pointers) (replicate n none)) (sym w.pointer_levels) ∙ placed_back t.pointers 0 [] refl

  -- files fit their bytes
  pub files_fit : (f : File) → In f (join t.files) → Fit f
  files_fit f m =
      let s = short_keys f (w.good f m) in
      record { number = omega (arith, w.words f m); size = omega (arith, (file_facts full f (w.good f m)).size); smallest = s.0; largest = s.1 }

  -- the levels' sections, level by level
  levels_are : levels ≡ join (map write_level t.files) ++ []
  unfolding full level
  levels_are =
      ap (λ (n : ℕ). join (map (λ l. write_level (get_or t.files l [])) (up_from 0 n))) (sym w.levels)
      ∙ ap join (map_places write_level t.files []) ∙ sym (append-nil (join (map write_level t.files)))

  -- the levels are read back, with ties by rising number
  files_back : levels_in level_count max_files (after_entries (drop counters_long (encode t))) ≡ map in_read_order t.files
  unfolding full
  files_back =
      ap (λ (bs : List ℕ). levels_in level_count max_files (after_entries bs)) past_counters
      ∙ ap (levels_in level_count max_files) (entries_rest (entries 0 t.pointers) levels few entries_fit ∙ levels_are)
      ∙ ap (λ (n : ℕ). levels_in n max_files (join (map write_level t.files) ++ [])) (sym w.levels)
      ∙ levels_back t.files max_files [] w.room (omega arith) files_fit

  -- parsing a snapshot gives the state that was written, with ties by rising number
  pub state_back : state_in (encode t) ≡ as_read t
  unfolding state_in as_read
  state_back = λ i. record { files = files_back i; pointers = pointers_back i; counters = counters_back i }
