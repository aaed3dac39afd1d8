-- A snapshot determines the state that it was written from, since each part shows where it ends. Assumes nothing.
use Rattle.std.specs.Prelude.{ℕ, zero, suc, ◌+◌, ◌*◌, ◌^◌, ◌<◌, ◌≤◌, ◌≡◌, refl, ◌↔◌, Bool, true, false, ltb, length, get_or}
use Rattle.std.proofs.Common.{ap, sym, ◌∙◌, subst, ltb-true, ltb-false, length-append, mul-le-mul_right, add-mul, arith}
use Rattle.std.proofs.Math.Path.{fun_ext}
use mathlib.Core.List.Memᴰ.{head as here}
use mathlib.Core.List.Memᴰ.{not-nil}
use mathlib.Core.List.Memᴰ.{tail as there}
use mathlib.Core.List.{List, [], ◌∷◌, ◌++◌, Memᴰ as In, map, append_assoc}
use Rattle.std.proofs.Math.Option.{Option, none, some}
use Rattle.std.proofs.Math.ListN.{get_or-eq_default}
use Rattle.lemmas.specs.Order.{clash}
use Rattle.lemmas.specs.Lists.{sort, chain, join, sum, up_from}
use Rattle.lemmas.specs.ListLaws.{sort_in, sort_length, join_in, join_length, append_apart, joined_most, joined_least, stretch_few}
use Rattle.lemmas.specs.Little.{bytes, bytes_length, bytes_apart}
use Rattle.lemmas.specs.UpFrom.{made_at}
use Rattle.lemmas.specs.Rising.{rising, rising_cons}
use Rattle.model.specs.Key.{Key, good_key, trailer_bytes}
use Rattle.model.specs.File.{Profile, full, File, Counters, State, level, max_counter, max_size, good_file, good_pointer, level_count}
use Rattle.model.specs.Snapshot.{by_number, write_key, write_file, Entry, entries, write_entry, section, write_level, five_of, encode, file_long, entry_long, fresh_long, longest_snapshot, byte_long, count_long, number_long}
use Rattle.model.specs.KeyLaws.{good_key_says}
use Rattle.model.proofs.Formed.{WF, good_file_says}

-- a way of writing from which the end of a part is known, whatever follows
pub record Delimited {A : Type 0} (Good : A → Type 0) (w : A → List ℕ) : Type 0 where
  pub apart : (a b : A) → Good a → Good b → (x y : List ℕ) → w a ++ x ≡ w b ++ y → (a ≡ b) × (x ≡ y)

-- the end of a key is known
key_apart : Delimited (λ (k : Key). length k < 256) write_key
unfolding write_key
key_apart = record {
  apart = λ a b g h x y e.
      let r = bytes_apart 1 (length a) (length b) g h (a ++ x) (b ++ y) (simp append_assoc at e) in
      append_apart a b x y r.0 r.1;
}

-- a file whose parts fit their widths
pub record Writable (f : File) : Type 0 where
  pub number : f.number < 256 ^ 8
  pub size : f.size < 256 ^ 8
  pub smallest : length f.smallest < 256
  pub largest : length f.largest < 256

-- the end of a file is known
file_apart : Delimited Writable write_file
unfolding write_file
file_apart = record {
  apart = λ a b g h x y e.
      let r₁ = bytes_apart 8 a.number b.number g.number h.number
      (bytes number_long a.size ++ (write_key a.smallest ++ (write_key a.largest ++ x))) (bytes number_long b.size ++ (write_key b.smallest ++ (write_key b.largest ++ y))) (simp append_assoc at e) in
      let r₂ = bytes_apart 8 a.size b.size g.size h.size (write_key a.smallest ++ (write_key a.largest ++ x)) (write_key b.smallest ++ (write_key b.largest ++ y)) r₁.1 in
      let r₃ = key_apart.apart a.smallest b.smallest g.smallest h.smallest (write_key a.largest ++ x) (write_key b.largest ++ y) r₂.1 in
      let r₄ = key_apart.apart a.largest b.largest g.largest h.largest x y r₃.1 in
      (λ i. record { number = r₁.0 i; size = r₂.0 i; smallest = r₃.0 i; largest = r₄.0 i }, r₄.1);
}

-- a pointer whose parts fit their widths
pub record WritableEntry (e : Entry) : Type 0 where
  pub level : e.level < 256
  pub key : length e.key < 256

-- the end of a pointer is known
entry_apart : Delimited WritableEntry write_entry
unfolding write_entry
entry_apart = record {
  apart = λ a b g h x y e.
      let r₁ = bytes_apart 1 a.level b.level g.level h.level (write_key a.key ++ x) (write_key b.key ++ y) (simp append_assoc at e) in
      let r₂ = key_apart.apart a.key b.key g.key h.key x y r₁.1 in
      (λ i. record { level = r₁.0 i; key = r₂.0 i }, r₂.1);
}

-- the end of a counter is known
number_apart : Delimited (λ n. n < 256 ^ 8) (bytes number_long)
number_apart = record { apart = bytes_apart 8 }

-- ---- sections
module _ {A : Type 0} (Good : A → Type 0) (w : A → List ℕ) (d : Delimited Good w) where
  -- the ends of equally many parts are known
  parts_apart : (xs ys : List A) → ((a : A) → In a xs → Good a) → ((a : A) → In a ys → Good a) → (x y : List ℕ)
      → length xs ≡ length ys → join (map w xs) ++ x ≡ join (map w ys) ++ y → (xs ≡ ys) × (x ≡ y)
  unfolding join
  parts_apart [] [] g h x y n e = (refl, e)
  parts_apart [] (b ∷ bs) g h x y n e = absurd (omega arith)
  parts_apart (a ∷ as') [] g h x y n e = absurd (omega arith)
  parts_apart (a ∷ as') (b ∷ bs) g h x y n e =
      let r = d.apart a b (g a (here refl)) (h b (here refl)) (join (map w as') ++ x) (join (map w bs) ++ y) (simp append_assoc at e) in
      let t = parts_apart as' bs (λ c m. g c (there m)) (λ c m. h c (there m)) x y (omega arith) r.1 in
      let p : a ≡ b = r.0 in
      let q : as' ≡ bs = t.0 in
      (cc, t.1)

  -- the parts are good, and their count fits two bytes
  abbrev Parts : List A → Type 0
  Parts xs = ((a : A) → In a xs → Good a) × (length xs < 65536)

  -- the end of a section is known
  section_apart : (xs ys : List A) → Parts xs → Parts ys → (x y : List ℕ) → section w xs ++ x ≡ section w ys ++ y → (xs ≡ ys) × (x ≡ y)
  unfolding section
  section_apart xs ys g h x y e =
      let r = bytes_apart 2 (length xs) (length ys) g.1 h.1 (join (map w xs) ++ x) (join (map w ys) ++ y) (simp append_assoc at e) in
      parts_apart xs ys g.0 h.0 x y r.0 r.1

-- ---- levels
-- a level whose files fit their widths and whose count fits two bytes
pub record WritableLevel (fs : List File) : Type 0 where
  pub files : (f : File) → In f fs → Writable f
  pub few : length (sort by_number fs) < 65536

-- the end of a level is known
level_apart : (fs gs : List File) → WritableLevel fs → WritableLevel gs → (x y : List ℕ) → write_level fs ++ x ≡ write_level gs ++ y → (sort by_number fs ≡ sort by_number gs) × (x ≡ y)
unfolding write_level
level_apart fs gs g h x y e = section_apart Writable write_file file_apart (sort by_number fs) (sort by_number gs)
    (λ f m. g.files f ((sort_in by_number fs f).0 m), g.few) (λ f m. h.files f ((sort_in by_number gs f).0 m), h.few) x y e

-- levels one after another
levels_apart : (u v : ℕ → List File) → ((l : ℕ) → WritableLevel (u l)) → ((l : ℕ) → WritableLevel (v l)) → (k n : ℕ)
    → join (map (λ l. write_level (u l)) (up_from k n)) ≡ join (map (λ l. write_level (v l)) (up_from k n)) → (i : ℕ) → i < n → sort by_number (u (k + i)) ≡ sort by_number (v (k + i))
unfolding join up_from
levels_apart u v g h k zero e i l = absurd (omega arith)
levels_apart u v g h k (suc n) e i l =
    let r = level_apart (u k) (v k) (g k) (h k) (join (map (λ l. write_level (u l)) (up_from (suc k) n))) (join (map (λ l. write_level (v l)) (up_from (suc k) n))) e in
    go (levels_apart u v g h (suc k) n r.1) r.0 i l
  where
    at : (a b : ℕ) → a ≡ b → sort by_number (u a) ≡ sort by_number (v a) → sort by_number (u b) ≡ sort by_number (v b)
    at a b q t = subst (λ (x : ℕ). sort by_number (u x) ≡ sort by_number (v x)) q t

    go : ((j : ℕ) → j < n → sort by_number (u (suc k + j)) ≡ sort by_number (v (suc k + j))) → sort by_number (u k) ≡ sort by_number (v k)
        → (j : ℕ) → j < suc n → sort by_number (u (k + j)) ≡ sort by_number (v (k + j))
    go ih t zero b = at k (k + 0) (omega arith) t
    go ih t (suc j) b = at (suc k + j) (k + suc j) (omega arith) (ih j (omega arith))

-- ---- pointers
-- from level l on, an entry is a pointer that is set, and stands at its level
pub entries_from_lem : (l : ℕ) (ps : List (Option Key)) (e : Entry) → In e (entries l ps) → (i : ℕ) × (e.level ≡ l + i) × (get_or ps i none ≡ some e.key)
unfolding entries
entries_from_lem l [] e m = absurd (not-nil m)
entries_from_lem l (none ∷ ps) e m = let w = entries_from_lem (suc l) ps e m in (suc w.0, omega (arith, w.1), w.2)
entries_from_lem l (some k ∷ ps) e (here q) = (0, omega (arith, ap (λ (x : Entry). x.level) q), ap (λ (x : Entry). some x.key) (sym q))
entries_from_lem l (some k ∷ ps) e (there m) = let w = entries_from_lem (suc l) ps e m in (suc w.0, omega (arith, w.1), w.2)

-- each pointer that is set has an entry
entries_to : (l : ℕ) (ps : List (Option Key)) (i : ℕ) (k : Key) → get_or ps i none ≡ some k → In (record { level = l + i; key = k }) (entries l ps)
unfolding entries
entries_to l [] zero k q = let z : true ≡ false = cc in clash refl z
entries_to l [] (suc i) k q = let z : true ≡ false = cc in clash refl z
entries_to l (none ∷ ps) zero k q = let z : true ≡ false = cc in clash refl z
entries_to l (some j ∷ ps) zero k q = let n : l + 0 ≡ l = omega arith in let r : k ≡ j = cc in here (λ i. record { level = n i; key = r i })
entries_to l (none ∷ ps) (suc i) k q = let n : suc l + i ≡ l + suc i = omega arith in subst (λ (m : ℕ). In (record { level = m; key = k }) (entries (suc l) ps)) n (entries_to (suc l) ps i k q)
entries_to l (some j ∷ ps) (suc i) k q = let n : suc l + i ≡ l + suc i = omega arith in there (subst (λ (m : ℕ). In (record { level = m; key = k }) (entries (suc l) ps)) n (entries_to (suc l) ps i k q))

-- so there is an entry exactly where the pointer of its level is its key
pub entries_in_lem : (ps : List (Option Key)) (e : Entry) → In e (entries 0 ps) ↔ (get_or ps e.level none ≡ some e.key)
entries_in_lem ps e = (
  λ m. let w = entries_from_lem 0 ps e m in let q : w.0 ≡ e.level = omega (arith, w.1) in subst (λ (i : ℕ). get_or ps i none ≡ some e.key) q w.2,
  λ h. let q : 0 + e.level ≡ e.level = omega arith in subst (λ (i : ℕ). In (record { level = i; key = e.key }) (entries 0 ps)) q (entries_to 0 ps e.level e.key h),
)

-- they rise by level
pub entries_rise : (l : ℕ) (ps : List (Option Key)) → rising (λ (e : Entry). e.level) (entries l ps) ≡ true
unfolding entries chain
entries_rise l [] = refl
entries_rise l (none ∷ ps) = entries_rise (suc l) ps
entries_rise l (some k ∷ ps) = rising_cons (λ (e : Entry). e.level) (record { level = l; key = k }) (entries (suc l) ps) (entries_rise (suc l) ps) (λ e m. omega (arith, (entries_from_lem (suc l) ps e m).1))

-- the entries determine the pointers
entries_same : (l : ℕ) (ps qs : List (Option Key)) → length ps ≡ length qs → entries l ps ≡ entries l qs → ps ≡ qs
unfolding entries
entries_same l [] [] n e = refl
entries_same l [] (q ∷ qs) n e = absurd (omega arith)
entries_same l (p ∷ ps) [] n e = absurd (omega arith)
entries_same l (none ∷ ps) (none ∷ qs) n e = let t = entries_same (suc l) ps qs (omega arith) e in cc
entries_same l (none ∷ ps) (some k ∷ qs) n e = absurd (omega (arith, (entries_from_lem (suc l) ps (record { level = l; key = k }) (subst (λ (es : List Entry). In (record { level = l; key = k }) es) (sym e) (here refl))).1))
entries_same l (some k ∷ ps) (none ∷ qs) n e = absurd (omega (arith, (entries_from_lem (suc l) qs (record { level = l; key = k }) (subst (λ (es : List Entry). In (record { level = l; key = k }) es) e (here refl))).1))
entries_same l (some k ∷ ps) (some j ∷ qs) n e =
    let h : ◌≡◌ {A = Entry} (record { level = l; key = k }) (record { level = l; key = j }) = cc in
    let q : k ≡ j = ap (λ (x : Entry). x.key) h in
    let t = entries_same (suc l) ps qs (omega arith) (cc) in
    cc

-- ---- the whole
-- a state whose parts fit their widths
pub record Storable (s : State) : Type 0 where
  pub counters : (n : ℕ) → In n (five_of s.counters) → n < 256 ^ 8
  pub pointers : (e : Entry) → In e (entries 0 s.pointers) → WritableEntry e
  pub few_pointers : length (entries 0 s.pointers) < 65536
  pub levels : (l : ℕ) → WritableLevel (level s l)

-- two states with the same counters, pointers and files at each level
pub record SameWritten (s t : State) : Type 0 where
  pub counters : s.counters ≡ t.counters
  pub pointers : s.pointers ≡ t.pointers
  pub levels : (l : ℕ) → l < level_count → sort by_number (level s l) ≡ sort by_number (level t l)

-- states that write the same bytes have these in common
pub encode_apart : (s t : State) → Storable s → Storable t → length s.pointers ≡ length t.pointers → encode s ≡ encode t → SameWritten s t
unfolding encode five_of
encode_apart s t g h n e =
    let sl = join (map (λ l. write_level (level s l)) (up_from 0 level_count)) in
    let tl = join (map (λ l. write_level (level t l)) (up_from 0 level_count)) in
    let r₁ = section_apart (λ n. n < 256 ^ 8) (bytes number_long) number_apart (five_of s.counters) (five_of t.counters) (g.counters, lit) (h.counters, lit)
    (section write_entry (entries 0 s.pointers) ++ sl) (section write_entry (entries 0 t.pointers) ++ tl) (simp append_assoc at e) in
    let r₂ = section_apart WritableEntry write_entry entry_apart (entries 0 s.pointers) (entries 0 t.pointers) (g.pointers, g.few_pointers) (h.pointers, h.few_pointers) sl tl r₁.1 in
    let five = r₁.0 in
    record {
      counters = λ i. record {
        next = at five 0 i;
        manifest = at five 1 i;
        last = at five 2 i;
        log = at five 3 i;
        previous = at five 4 i;
      };
      pointers = entries_same 0 s.pointers t.pointers n r₂.0;
      levels = λ l b. subst (λ (x : ℕ). sort by_number (level s x) ≡ sort by_number (level t x)) (omega arith) (levels_apart (level s) (level t) g.levels h.levels 0 level_count r₂.1 l b);
    }
  where
    lit : 5 < 65536
    lit = omega arith

    at : five_of s.counters ≡ five_of t.counters → (i : ℕ) → get_or (five_of s.counters) i 0 ≡ get_or (five_of t.counters) i 0
    at q i = ap (λ (x : List ℕ). get_or x i 0) q

-- ---- what fits in a snapshot
-- a profile whose states all fit
pub record Fits (p : Profile) : Type 0 where
  pub levels : p.levels ≤ level_count
  pub keys : p.longest + 8 < 256
  pub room : p.room < 65536

-- the full profile fits
pub full_fits : Fits full
unfolding full
full_fits = record { levels = omega arith; keys = omega arith; room = omega arith }

-- bounds on a file
pub record FileFacts (p : Profile) (f : File) : Type 0 where
  pub smallest : length f.smallest ≤ p.longest + 8
  pub largest : length f.largest ≤ p.longest + 8
  pub size : f.size ≤ max_size

-- a good file keeps these bounds
pub file_facts : (p : Profile) (f : File) → good_file p f ≡ true → FileFacts p f
file_facts p f h =
    let g = (good_file_says p f).0 h in
    record { smallest = ((good_key_says p.longest f.smallest).0 g.smallest).few_bytes; largest = ((good_key_says p.longest f.largest).0 g.largest).few_bytes; size = g.size }

-- there are no more entries than pointers
pub entries_few : (l : ℕ) (ps : List (Option Key)) → length (entries l ps) ≤ length ps
unfolding entries
entries_few l [] = omega arith
entries_few l (none ∷ ps) = omega (arith, entries_few (suc l) ps)
entries_few l (some k ∷ ps) = omega (arith, entries_few (suc l) ps)

-- an entry is a pointer that is set
pub entries_among : (l : ℕ) (ps : List (Option Key)) (e : Entry) → In e (entries l ps) → (e.level < l + length ps) × In (some e.key) ps
unfolding entries
entries_among l [] e m = absurd (not-nil m)
entries_among l (none ∷ ps) e m = let r = entries_among (suc l) ps e m in (omega (arith, r.0), there r.1)
entries_among l (some k ∷ ps) e (here q) = (omega (arith, ap (λ (x : Entry). x.level) q), here (ap (λ (x : Entry). some x.key) q))
entries_among l (some k ∷ ps) e (there m) = let r = entries_among (suc l) ps e m in (omega (arith, r.0), there r.1)

-- a good file can be written
pub writable : (p : Profile) (f : File) → Fits p → good_file p f ≡ true → f.number < 2 ^ 64 → Writable f
unfolding max_size
writable p f fit g n =
    let k = file_facts p f g in
    record { number = omega arith; size = omega (arith, k.size); smallest = omega (arith, k.smallest, fit.keys); largest = omega (arith, k.largest, fit.keys) }

-- a state fits in a snapshot if its files, pointers and counters are good, it has a pointer for each level, and no level has too many files
pub good_storable : (p : Profile) (s : State) → Fits p → ((l : ℕ) (f : File) → In f (level s l) → (good_file p f ≡ true) × (f.number < 2 ^ 64)) → ((l : ℕ) → length (level s l) < 65536)
    → length s.pointers ≡ p.levels → ((o : Option Key) → In o s.pointers → good_pointer p o ≡ true) → ((n : ℕ) → In n (five_of s.counters) → n ≤ max_counter) → Storable s
unfolding good_pointer
good_storable p s fit files few levels pointers counters = record {
  counters = λ n m. omega (arith, counters n m);
  pointers = λ e m. let r = entries_among 0 s.pointers e m in record {
    level = omega (arith, r.0, levels, fit.levels);
    key = omega (arith, ((good_key_says p.longest e.key).0 (pointers (some e.key) r.1)).few_bytes, fit.keys);
  };
  few_pointers = omega (arith, entries_few 0 s.pointers, levels, fit.levels);
  levels = λ l. record { files = λ f m. let g = files l f m in writable p f fit g.0 g.1; few = omega (arith, sort_length by_number (level s l), few l) };
}

-- a well-formed state fits in a snapshot
pub storable : (p : Profile) (s : State) → Fits p → WF p s → Storable s
unfolding level
storable p s fit w = good_storable p s fit (λ l f m. let i = join_in s.files l f m in (w.good f i, w.words f i)) (λ l. omega (arith, join_length s.files l, w.room, fit.room))
    w.pointer_levels w.pointers w.counters

-- ---- the length of a snapshot, and what its bytes depend on
-- the bytes depend on the counters, the pointers and the files by number alone
pub same_bytes_lem : (s t : State) → s.counters ≡ t.counters → s.pointers ≡ t.pointers → ((l : ℕ) → sort by_number (level s l) ≡ sort by_number (level t l)) → encode s ≡ encode t
unfolding encode write_level
same_bytes_lem s t c q h =
    let lv : ◌≡◌ {A = ℕ → List ℕ} (λ l. section write_file (sort by_number (level s l))) (λ l. section write_file (sort by_number (level t l))) = fun_ext (λ l. ap (λ (fs : List File). section write_file fs) (h l)) in
    ap (λ (x : Counters). section (bytes number_long) (five_of x) ++ section write_entry (entries 0 s.pointers) ++ join (map (λ l. section write_file (sort by_number (level s l))) (up_from 0 level_count))) c
    ∙ ap (λ (x : List (Option Key)). section (bytes number_long) (five_of t.counters) ++ section write_entry (entries 0 x) ++ join (map (λ l. section write_file (sort by_number (level s l))) (up_from 0 level_count))) q
    ∙ ap (λ (g : ℕ → List ℕ). section (bytes number_long) (five_of t.counters) ++ section write_entry (entries 0 t.pointers) ++ join (map g (up_from 0 level_count))) lv

-- a section: its count, then its parts
pub section_length : {A : Type 0} (w : A → List ℕ) (xs : List A) → length (section w xs) ≡ 2 + length (join (map w xs))
unfolding section
section_length w xs = omega (arith, length-append (bytes count_long (length xs)) (join (map w xs)), bytes_length 2 (length xs))

-- a section with parts of at most c bytes has at most 2 and c for each
section_most : {A : Type 0} (w : A → List ℕ) (c : ℕ) (xs : List A) → ((x : A) → In x xs → length (w x) ≤ c) → length (section w xs) ≤ 2 + length xs * c
section_most w c xs h = let a = joined_most w c xs h in omega (arith, section_length w xs)

-- a key: a length byte and its bytes
pub write_key_length : (k : Key) → length (write_key k) ≡ 1 + length k
unfolding write_key
write_key_length k = omega (arith, length-append (bytes byte_long (length k)) k, bytes_length 1 (length k))

-- a file: its own bytes and its two keys
pub write_file_length : (f : File) → length (write_file f) ≡ file_long + length f.smallest + length f.largest
unfolding write_file
write_file_length f = omega (
  arith,
  length-append (bytes number_long f.number ++ bytes number_long f.size ++ write_key f.smallest) (write_key f.largest),
  length-append (bytes number_long f.number ++ bytes number_long f.size) (write_key f.smallest),
  length-append (bytes number_long f.number) (bytes number_long f.size),
  bytes_length 8 f.number,
  bytes_length 8 f.size,
  write_key_length f.smallest,
  write_key_length f.largest,
)

-- the most bytes of a file
pub file_most : (p : Profile) (f : File) → good_file p f ≡ true → length (write_file f) ≤ file_long + 2 * (p.longest + trailer_bytes)
file_most p f g = let k = file_facts p f g in omega (arith, write_file_length f, k.smallest, k.largest)

-- a pointer: two bytes and its key
pub write_entry_length : (e : Entry) → length (write_entry e) ≡ entry_long + length e.key
unfolding write_entry
write_entry_length e = omega (arith, length-append (bytes byte_long e.level) (write_key e.key), bytes_length 1 e.level, write_key_length e.key)

-- the most bytes of a pointer
entry_most : (p : Profile) (e : Entry) → good_key p.longest e.key ≡ true → length (write_entry e) ≤ entry_long + (p.longest + trailer_bytes)
entry_most p e g = omega (arith, write_entry_length e, ((good_key_says p.longest e.key).0 g).few_bytes)

-- there are at most `room` files in all levels
held_most : (p : Profile) (s : State) → WF p s → sum (map (λ l. length (level s l)) (up_from 0 level_count)) ≤ p.room
unfolding level
held_most p s w = omega (arith, stretch_few s.files 0 level_count, w.room)

-- there are at most as many set pointers as levels
set_most : (p : Profile) (s : State) → WF p s → length (entries 0 s.pointers) ≤ p.levels
set_most p s w = omega (arith, entries_few 0 s.pointers, w.pointer_levels)

-- the most bytes of n levels from k on
levels_most : (p : Profile) (s : State) → WF p s → (k n : ℕ)
    → length (join (map (λ l. write_level (level s l)) (up_from k n))) ≤ n * 2 + sum (map (λ l. length (level s l)) (up_from k n)) * (file_long + 2 * (p.longest + trailer_bytes))
unfolding write_level join up_from sum level
levels_most p s w k zero = omega arith
levels_most p s w k (suc n) =
    let c = file_long + 2 * (p.longest + trailer_bytes) in
    let fs = get_or s.files k [] in
    let a = section_most write_file c (sort by_number fs) (λ f m. file_most p f (w.good f (join_in s.files k f ((sort_in by_number fs f).0 m)))) in
    let b = levels_most p s w (suc k) n in
    let e : length (sort by_number fs) * c ≡ length fs * c = ap (λ (x : ℕ). x * c) (sort_length by_number fs) in
    let r = join (map (λ l. section write_file (sort by_number (get_or s.files l []))) (up_from (suc k) n)) in
    let d : (length fs + sum (map (λ l. length (get_or s.files l [])) (up_from (suc k) n))) * c ≡ length fs * c + sum (map (λ l. length (get_or s.files l [])) (up_from (suc k) n)) * c
    = add-mul (length fs) (sum (map (λ l. length (get_or s.files l [])) (up_from (suc k) n))) c in
    omega (arith, length-append (section write_file (sort by_number fs)) r)

-- a level has no more files than a snapshot has bytes
pub level_few : (s : State) → length s.files ≤ level_count → (l : ℕ) → length (level s l) ≤ length (encode s)
unfolding encode write_level level
level_few s h l = go (ltb l level_count) refl
  where
    go : (t : Bool) → ltb l level_count ≡ t → length (get_or s.files l []) ≤ length (encode s)
    go true e =
        let fs = get_or s.files l [] in
        let wl : ℕ → List ℕ = λ l. section write_file (sort by_number (get_or s.files l [])) in
        let all = join (map wl (up_from 0 level_count)) in
        let at : get_or (map wl (up_from 0 level_count)) l [] ≡ section write_file (sort by_number fs) = made_at wl level_count l [] (ltb-true l level_count e) in
        omega (
          arith,
          sort_length by_number fs,
          joined_least write_file (sort by_number fs) (λ f m. omega (arith, write_file_length f)),
          section_length write_file (sort by_number fs),
          ap length at,
          join_length (map wl (up_from 0 level_count)) l,
          length-append (section (bytes number_long) (five_of s.counters) ++ section write_entry (entries 0 s.pointers)) all,
        )
    go false e = let q : get_or s.files l [] ≡ [] = get_or-eq_default s.files [] (omega (arith, ltb-false l level_count e)) in omega (arith, ap length q)

-- the most bytes of a snapshot
pub encode_length : (p : Profile) (s : State) → WF p s → length (encode s) ≤ fresh_long + p.levels * (entry_long + (p.longest + trailer_bytes)) + p.room * (file_long + 2 * (p.longest + trailer_bytes))
unfolding encode good_pointer five_of
encode_length p s w =
    let es = entries 0 s.pointers in
    let lv = join (map (λ l. write_level (level s l)) (up_from 0 level_count)) in
    let five = section_most (bytes number_long) 8 (five_of s.counters) (λ n m. omega (arith, bytes_length 8 n)) in
    let pointers = section_most write_entry (entry_long + (p.longest + trailer_bytes)) es (λ e m. entry_most p e (w.pointers (some e.key) (entries_among 0 s.pointers e m).1)) in
    let levels = levels_most p s w 0 level_count in
    let held = mul-le-mul_right (file_long + 2 * (p.longest + trailer_bytes)) (held_most p s w) in
    let set = mul-le-mul_right (entry_long + (p.longest + trailer_bytes)) (set_most p s w) in
    omega (arith, length-append (section (bytes number_long) (five_of s.counters) ++ section write_entry es) lv, length-append (section (bytes number_long) (five_of s.counters)) (section write_entry es))

-- with the full profile this is the longest snapshot
pub encode_most : (s : State) → WF full s → length (encode s) ≤ longest_snapshot
unfolding full
encode_most s w = encode_length full s w
