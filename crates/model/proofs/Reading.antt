-- Reading a snapshot: a state that is read writes the same bytes, and every well-formed state can be read back. Assumes nothing.
use Rattle.std.specs.Prelude.{ℕ, zero, suc, ◌+◌, ◌^◌, ◌<◌, ◌≤◌, ◌≡◌, refl, ◌⊎◌, Bool, cond, true, false, ◌&&◌, eqb, leb, length, get_or, replicate, take}
use Rattle.std.proofs.Common.{ap, ◌∙◌, subst, inl, inr, eqb-true, eq-eqb, le-leb, length-append, take_at, drop_at, arith}
use mathlib.Core.List.Memᴰ.{append_cases}
use mathlib.Core.List.Memᴰ.{append_left as in_left}
use mathlib.Core.List.Memᴰ.{append_right as in_right}
use mathlib.Core.List.Memᴰ.{head as here}
use mathlib.Core.List.Memᴰ.{tail as there}
use mathlib.Core.List.{List, [], ◌∷◌, ◌++◌, Memᴰ as In, map, append_assoc, append-nil}
use Rattle.std.proofs.Math.Option.{Option, none, some}
use Rattle.std.proofs.lemmas.List.{length-map, set_at}
use Rattle.std.proofs.Math.ListN.{get_or-map}
use Rattle.std.proofs.Math.Seq.{append_snoc}
use Rattle.lemmas.specs.Order.{clash}
use Rattle.lemmas.specs.Lists.{sort, join, distinct, up_from}
use Rattle.lemmas.specs.ListLaws.{and_left, and_right, both, tally, sort_in, sort_tally, sort_chain, tally_append, tally_map, distinct_tally, distinct_of_tally, sort_length, distinct_append, map_same}
use Rattle.lemmas.specs.Little.{number, bytes, bytes_length, bytes_number}
use Rattle.model.specs.Key.{Key, before}
use Rattle.model.specs.File.{Profile, File, State, level, numbers, by_smallest, apart, in_order, levelwise, well_formed, level_count}
use Rattle.model.specs.Snapshot.{by_number, write_key, write_file, Entry, entries, write_entry, section, write_level, five_of, encode, Read, Reader, onward, ◌>>=◌, give, times, read_bytes, read_number, read_key, read_file, read_section, read_level, read_pointer, placed, from_five, read_state, same_bytes, accept, decode, byte_long, count_long, number_long}
use Rattle.model.proofs.EditLaws.{by_smallest_order}
use Rattle.model.proofs.Formed.{WF, formed_says, good_file_order, numbers_append, distinct_level, apart_sorted, apart_ties}
use Rattle.model.proofs.SnapshotLaws.{Writable, WritableEntry, WritableLevel, Storable, Fits, storable, same_bytes_lem}
use Rattle.model.specs.ByNumber.{sorted_one, sort_distinct, same_by_number}

-- ---- a state that is read writes the same bytes
-- lists that pass the test are equal
pub same_eq : (a b : List ℕ) → same_bytes a b ≡ true → a ≡ b
unfolding same_bytes
same_eq [] [] e = refl
same_eq [] (y ∷ ys) e = clash e refl
same_eq (x ∷ xs) [] e = clash e refl
same_eq (x ∷ xs) (y ∷ ys) e =
    let p : x ≡ y = eqb-true x y (and_left (eqb x y) (same_bytes xs ys) e) in
    let q : xs ≡ ys = same_eq xs ys (and_right (eqb x y) (same_bytes xs ys) e) in
    cc

-- a list passes the test with itself
pub eq_same : (a : List ℕ) → same_bytes a a ≡ true
unfolding same_bytes
eq_same [] = refl
eq_same (x ∷ xs) = both (eqb x x) (same_bytes xs xs) (eq-eqb x x refl) (eq_same xs)

-- a state that is read is well-formed and writes these very bytes
pub decode_sound : (p : Profile) (bs : List ℕ) (s : State) → decode p bs ≡ some s → (well_formed p s ≡ true) × (encode s ≡ bs)
unfolding decode accept
decode_sound p bs s h = go (read_state p bs) h
  where
    test : State → Bool
    test t = well_formed p t && same_bytes (encode t) bs

    pass : (t : State) (b : Bool) → test t ≡ b → cond b (some t) none ≡ some s → (well_formed p s ≡ true) × (encode s ≡ bs)
    pass t true e k =
        let q : t ≡ s = cc in
        subst (λ (u : State). (well_formed p u ≡ true) × (encode u ≡ bs)) q
        (and_left (well_formed p t) (same_bytes (encode t) bs) e, same_eq (encode t) bs (and_right (well_formed p t) (same_bytes (encode t) bs) e))
    pass t false e k = let z : true ≡ false = cc in clash refl z

    go : (o : Option (Read State)) → accept p bs o ≡ some s → (well_formed p s ≡ true) × (encode s ≡ bs)
    go none k = let z : true ≡ false = cc in clash refl z
    go (some r) k = pass r.value (test r.value) refl k

-- ---- readers of what was written
-- the reader reads the value from these bytes, whatever follows
unfoldable pub Reads : {A : Type 0} → Reader A → List ℕ → A → Type 0
Reads {A} r w a = (x : List ℕ) → r (w ++ x) ≡ some (record { value = a; rest = x })

module _ {A B : Type 0} where
  -- one reader after another
  pub then : (r : Reader A) (f : A → Reader B) (v w : List ℕ) (a : A) (b : B) → Reads r v a → Reads (f a) w b → Reads (r >>= f) (v ++ w) b
  unfolding ◌>>=◌ onward Reads
  then r f v w a b h k x = rw (append_assoc, h (w ++ x)) (k x)

-- reading nothing
pub gives_it : {A : Type 0} (a : A) → Reads (give a) [] a
unfolding give Reads
gives_it a x = refl

-- the same bytes in another form
pub reads_as : {A : Type 0} (r : Reader A) (v w : List ℕ) (a : A) → v ≡ w → Reads r v a → Reads r w a
reads_as r v w a e h = subst (λ (u : List ℕ). Reads r u a) e h

-- n bytes
reads_bytes : (n : ℕ) (v : List ℕ) → length v ≡ n → Reads (read_bytes n) v v
unfolding read_bytes Reads
reads_bytes n v e x =
    let l : leb n (length (v ++ x)) ≡ true = le-leb n (length (v ++ x)) (omega (arith, length-append v x)) in
    rw (l, take_at v x n e, drop_at v x n e)

-- a number of a width
pub reads_number : (w n : ℕ) → n < 256 ^ w → Reads (read_number w) (bytes w n) n
unfolding read_number
reads_number w n h =
    reads_as (read_number w) (bytes w n ++ []) (bytes w n) n (append-nil (bytes w n))
    (then (read_bytes w) (λ bs. give (number bs)) (bytes w n) [] (bytes w n) n (reads_bytes w (bytes w n) (bytes_length w n)) (rw bytes_number (gives_it n)))

-- a key
pub reads_key : (k : Key) → length k < 256 → Reads read_key (write_key k) k
unfolding read_key write_key
reads_key k h = then (read_number byte_long) (λ n. read_bytes n) (bytes byte_long (length k)) k (length k) k (reads_number 1 (length k) h) (reads_bytes (length k) k refl)

-- a file
pub reads_file : (f : File) → Writable f → Reads read_file (write_file f) f
unfolding read_file write_file
reads_file f w =
    let n = f.number in
    let z = f.size in
    let a = f.smallest in
    let b = f.largest in
    let r₄ = then read_key (λ (b : Key). give (record { number = n; size = z; smallest = a; largest = b })) (write_key b) [] b f (reads_key b w.largest) (gives_it f) in
    let r₃ = then read_key (λ (a : Key). read_key >>= λ b. give (record { number = n; size = z; smallest = a; largest = b })) (write_key a) (write_key b ++ []) a f (reads_key a w.smallest) r₄ in
    let r₂ = then (read_number number_long) (λ (z : ℕ). read_key >>= λ a. read_key >>= λ b. give (record { number = n; size = z; smallest = a; largest = b }))
    (bytes number_long z) (write_key a ++ (write_key b ++ [])) z f (reads_number 8 z w.size) r₃ in
    reads_as read_file (bytes number_long n ++ (bytes number_long z ++ (write_key a ++ (write_key b ++ [])))) (write_file f) f (simp (append_assoc, append-nil))
    (then (read_number number_long) (λ (n : ℕ). read_number number_long >>= λ z. read_key >>= λ a. read_key >>= λ b. give (record { number = n; size = z; smallest = a; largest = b }))
    (bytes number_long n) (bytes number_long z ++ (write_key a ++ (write_key b ++ []))) n f (reads_number 8 n w.number) r₂)

-- a pointer
reads_entry : (e : Entry) → WritableEntry e → Reads read_pointer (write_entry e) e
unfolding read_pointer write_entry
reads_entry e w =
    let r₂ = then read_key (λ (k : Key). give (record { level = e.level; key = k })) (write_key e.key) [] e.key e (reads_key e.key w.key) (gives_it e) in
    reads_as read_pointer (bytes byte_long e.level ++ (write_key e.key ++ [])) (write_entry e) e (simp append-nil)
    (then (read_number byte_long) (λ (l : ℕ). read_key >>= λ k. give (record { level = l; key = k })) (bytes byte_long e.level) (write_key e.key ++ []) e.level e (reads_number 1 e.level w.level) r₂)

-- n parts, each written from an item and read as its value
pub reads_times : {A I : Type 0} (r : Reader A) (w : I → List ℕ) (v : I → A) (is : List I) → ((i : I) → In i is → Reads r (w i) (v i)) → Reads (times (length is) r) (join (map w is)) (map v is)
unfolding times join
reads_times r w v [] h = gives_it []
reads_times r w v (i ∷ is) h =
    let t = then (times (length is) r) (λ as'. give (v i ∷ as')) (join (map w is)) [] (map v is) (v i ∷ map v is) (reads_times r w v is (λ j m. h j (there m))) (gives_it (v i ∷ map v is)) in
    reads_as (times (suc (length is)) r) (w i ++ (join (map w is) ++ [])) (w i ++ join (map w is)) (v i ∷ map v is) (simp append-nil)
    (then r (λ a. times (length is) r >>= λ as'. give (a ∷ as')) (w i) (join (map w is) ++ []) (v i) (v i ∷ map v is) (h i (here refl)) t)

-- a section
pub reads_section : {A : Type 0} (r : Reader A) (w : A → List ℕ) (xs : List A) → ((a : A) → In a xs → Reads r (w a) a) → length xs < 65536 → Reads (read_section r) (section w xs) xs
unfolding read_section section
reads_section r w xs h few = then (read_number count_long) (λ n. times n r) (bytes count_long (length xs)) (join (map w xs)) (length xs) xs
    (reads_number 2 (length xs) few) (subst (λ (ys : List _). Reads (times (length xs) r) (join (map w xs)) ys) (map_same xs) (reads_times r w (λ x. x) xs h))

-- a level as it is read: ties by rising number
unfoldable pub in_read_order : List File → List File
in_read_order fs = sort by_smallest (sort by_number fs)

-- a level
reads_level : (fs : List File) → WritableLevel fs → Reads read_level (write_level fs) (in_read_order fs)
unfolding read_level write_level in_read_order
reads_level fs w =
    let gs = sort by_number fs in
    reads_as read_level (section write_file gs ++ []) (write_level fs) (in_read_order fs) (append-nil (section write_file gs))
    (then (read_section read_file) (λ hs. give (sort by_smallest hs)) (section write_file gs) [] gs (sort by_smallest gs)
    (reads_section read_file write_file gs (λ f m. reads_file f (w.files f ((sort_in by_number fs f).0 m))) w.few) (gives_it (sort by_smallest gs)))

-- ---- pointers
-- the entries put back in their places are the pointers
pub placed_back : (ps : List (Option Key)) (l : ℕ) (pre : List (Option Key)) → length pre ≡ l → placed (entries l ps) (pre ++ replicate (length ps) none) ≡ pre ++ ps
unfolding placed entries
placed_back [] l pre e = refl
placed_back (none ∷ ps) l pre e =
    let h = placed_back ps (suc l) (pre ++ none ∷ []) (omega (arith, length-append pre (none ∷ []))) in
    simp append_snoc at h
placed_back (some k ∷ ps) l pre e =
    let h = placed_back ps (suc l) (pre ++ some k ∷ []) (omega (arith, length-append pre (some k ∷ []))) in
    let q = set_at pre none (replicate (length ps) none) (some k) l e in
    ap (λ (x : List (Option Key)). placed (entries (suc l) ps) x) q ∙ (simp append_snoc at h)

-- ---- the state as it is read
-- its levels with ties by rising number
unfoldable pub as_read : State → State
as_read s = record { files = map in_read_order s.files; pointers = s.pointers; counters = s.counters }

-- the levels read are the state's, for as many as there are
levels_back : (g : ℕ → List File) (k m : ℕ) (fss : List (List File)) → ((i : ℕ) → i < length fss → g (k + i) ≡ get_or fss i []) → length fss ≤ m
    → take (length fss) (map (λ l. in_read_order (g l)) (up_from k m)) ≡ map in_read_order fss
unfolding up_from
levels_back g k m [] h b = refl
levels_back g k zero (fs ∷ fss) h b = absurd (omega arith)
levels_back g k (suc m) (fs ∷ fss) h b =
    let e : k + 0 ≡ k = omega arith in
    let first : g k ≡ fs = rw e at (h 0 (omega arith)) in
    let rest = levels_back g (suc k) m fss (λ i q. let e' : k + suc i ≡ suc k + i = omega arith in rw e' at (h (suc i) (omega arith))) (omega arith) in
    ap (λ (x : List File). in_read_order x ∷ take (length fss) (map (λ l. in_read_order (g l)) (up_from (suc k) m))) first ∙ ap (λ (r : List (List File)). in_read_order fs ∷ r) rest

-- all seven levels
seven_levels : (s : State) → Storable s → Reads (times level_count read_level) (join (map (λ l. write_level (level s l)) (up_from 0 level_count))) (map (λ l. in_read_order (level s l)) (up_from 0 level_count))
unfolding up_from
seven_levels s w = reads_times read_level (λ l. write_level (level s l)) (λ l. in_read_order (level s l)) (up_from 0 level_count) (λ l m. reads_level (level s l) (w.levels l))

-- a state
pub reads_state : (p : Profile) (s : State) → Storable s → length s.files ≡ p.levels → length s.pointers ≡ p.levels → p.levels ≤ level_count → Reads (read_state p) (encode s) (as_read s)
unfolding read_state encode as_read level five_of from_five
reads_state p s w nf np small =
    let ns = five_of s.counters in
    let es = entries 0 s.pointers in
    let cb = section (bytes number_long) ns in
    let pb = section write_entry es in
    let lb = join (map (λ l. write_level (level s l)) (up_from 0 level_count)) in
    let r₃ = then (times level_count read_level) (λ (gs : List (List File)). give (record { files = take p.levels gs; pointers = placed es (replicate p.levels none); counters = from_five ns })) lb [] fss (as_read s) levels
    (subst (λ (t : State). Reads (give read) [] t) whole (gives_it read)) in
    let r₂ = then (read_section read_pointer) (λ (es : List Entry). times level_count read_level >>= λ gs. give (record { files = take p.levels gs; pointers = placed es (replicate p.levels none); counters = from_five ns }))
    pb (lb ++ []) es (as_read s) (reads_section read_pointer write_entry es (λ e m. reads_entry e (w.pointers e m)) w.few_pointers) r₃ in
    reads_as (read_state p) (cb ++ (pb ++ (lb ++ []))) (encode s) (as_read s) (simp (append_assoc, append-nil))
    (then (read_section (read_number number_long)) (λ (ns : List ℕ). read_section read_pointer >>= λ es. times level_count read_level >>= λ gs. give (record { files = take p.levels gs; pointers = placed es (replicate p.levels none); counters = from_five ns }))
    cb (pb ++ (lb ++ [])) ns (as_read s) (reads_section (read_number number_long) (bytes number_long) ns (λ n m. reads_number 8 n (w.counters n m)) (omega arith)) r₂)
  where
    fss : List (List File)
    fss = map (λ l. in_read_order (level s l)) (up_from 0 level_count)

    read : State
    read = record { files = take p.levels fss; pointers = placed (entries 0 s.pointers) (replicate p.levels none); counters = s.counters }

    levels : Reads (times level_count read_level) (join (map (λ l. write_level (level s l)) (up_from 0 level_count))) fss
    levels = seven_levels s w

    files_are : take p.levels fss ≡ map in_read_order s.files
    files_are = rw (← nf) (levels_back (level s) 0 level_count s.files (λ i q. let e : 0 + i ≡ i = omega arith in rw e) (omega arith))

    pointers_are : placed (entries 0 s.pointers) (replicate p.levels none) ≡ s.pointers
    pointers_are = rw (← np) (placed_back s.pointers 0 [] refl)

    whole : read ≡ as_read s
    whole = λ i. record { files = files_are i; pointers = pointers_are i; counters = s.counters }

-- a level whose files are apart is read back as it is
pub apart_as_read : (fs : List File) → ((f : File) → In f fs → before f.largest f.smallest ≡ false) → apart fs ≡ true → distinct (numbers fs) ≡ true → fs ≡ in_read_order fs
unfolding in_read_order
apart_as_read fs g c d = sorted_one by_smallest by_smallest_order fs (in_read_order fs) (apart_sorted fs g c) (sort_chain by_smallest by_smallest_order (sort by_number fs))
    d (sort_distinct by_smallest (sort by_number fs) (sort_distinct by_number fs d))
    (λ f m. (sort_in by_smallest (sort by_number fs) f).1 ((sort_in by_number fs f).1 m)) (λ f m. (sort_in by_number fs f).0 ((sort_in by_smallest (sort by_number fs) f).0 m))
    (apart_ties fs g c)

-- ---- the state as read is well-formed
-- its files are the state's
join_read : (fss : List (List File)) (f : File) → In f (join (map in_read_order fss)) → In f (join fss)
unfolding join in_read_order
join_read [] f m = m
join_read (fs ∷ fss) f m = go (join_read fss f) (append_cases (in_read_order fs) m)
  where
    go : (In f (join (map in_read_order fss)) → In f (join fss)) → In f (in_read_order fs) ⊎ In f (join (map in_read_order fss)) → In f (fs ++ join fss)
    go ih (inl k) = in_left (join fss) ((sort_in by_number fs f).0 ((sort_in by_smallest (sort by_number fs) f).0 k))
    go ih (inr k) = in_right fs (ih k)

-- each file is there as often
as_read_tally : (q : File → Bool) (fss : List (List File)) → tally q (join (map in_read_order fss)) ≡ tally q (join fss)
unfolding join in_read_order
as_read_tally q [] = refl
as_read_tally q (fs ∷ fss) = omega (arith, tally_append q (in_read_order fs) (join (map in_read_order fss)), tally_append q fs (join fss), sort_tally by_smallest q (sort by_number fs), sort_tally by_number q fs, as_read_tally q fss)

-- there are as many files
as_read_length : (fss : List (List File)) → length (join (map in_read_order fss)) ≡ length (join fss)
unfolding join in_read_order
as_read_length [] = refl
as_read_length (fs ∷ fss) = omega (arith, length-append (in_read_order fs) (join (map in_read_order fss)), length-append fs (join fss), sort_length by_smallest (sort by_number fs), sort_length by_number fs, as_read_length fss)

-- a level in order is in order as read
one_ordered : (l : ℕ) (fs : List File) → ((f : File) → In f fs → before f.largest f.smallest ≡ false) → distinct (numbers fs) ≡ true → in_order l fs ≡ true → in_order l (in_read_order fs) ≡ true
unfolding in_order in_read_order
one_ordered zero fs g d h = sort_chain by_smallest by_smallest_order (sort by_number fs)
one_ordered (suc l) fs g d h = subst (λ (gs : List File). apart gs ≡ true) (apart_as_read fs g h d) h

-- the same for all levels
all_ordered : (l : ℕ) (fss : List (List File)) → ((f : File) → In f (join fss) → before f.largest f.smallest ≡ false) → distinct (numbers (join fss)) ≡ true → levelwise in_order l fss ≡ true → levelwise in_order l (map in_read_order fss) ≡ true
unfolding levelwise join
all_ordered l [] g d h = refl
all_ordered l (fs ∷ fss) g d h =
    let dd = distinct_append (numbers fs) (numbers (join fss)) (rw numbers_append at d) in
    both (in_order l (in_read_order fs)) (levelwise in_order (suc l) (map in_read_order fss))
    (one_ordered l fs (λ f m. g f (in_left (join fss) m)) dd.0 (and_left (in_order l fs) (levelwise in_order (suc l) fss) h))
    (all_ordered (suc l) fss (λ f m. g f (in_right fs m)) dd.1 (and_right (in_order l fs) (levelwise in_order (suc l) fss) h))

-- a well-formed state is well-formed as read
pub as_read_formed : (p : Profile) (s : State) → WF p s → WF p (as_read s)
unfolding as_read numbers
as_read_formed p s w = record {
  levels = length-map s.files in_read_order ∙ w.levels;
  good = λ f m. w.good f (join_read s.files f m);
  words = λ f m. w.words f (join_read s.files f m);
  distinct_numbers = distinct_of_tally (numbers (join (map in_read_order s.files))) (λ n. bound n);
  room = omega (arith, as_read_length s.files, w.room);
  ordered = all_ordered 0 s.files (λ f m. good_file_order p f (w.good f m)) w.distinct_numbers w.ordered;
  pointer_levels = w.pointer_levels;
  pointers = w.pointers;
  counters = w.counters;
}
  where
    bound : (n : ℕ) → tally (λ m. eqb m n) (numbers (join (map in_read_order s.files))) ≤ 1
    bound n = omega (
      arith,
      tally_map (λ m. eqb m n) (λ (f : File). f.number) (join (map in_read_order s.files)),
      as_read_tally (λ (f : File). eqb f.number n) s.files,
      tally_map (λ m. eqb m n) (λ (f : File). f.number) (join s.files),
      distinct_tally (numbers (join s.files)) n w.distinct_numbers,
    )

-- ---- it writes the same bytes
-- a level as it is read has its files by number in the same order
pub read_by_number : (fs : List File) → distinct (numbers fs) ≡ true → sort by_number (in_read_order fs) ≡ sort by_number fs
unfolding in_read_order
read_by_number fs d = same_by_number (in_read_order fs) fs (sort_distinct by_smallest (sort by_number fs) (sort_distinct by_number fs d)) d
    (λ f. (λ m. (sort_in by_number fs f).0 ((sort_in by_smallest (sort by_number fs) f).0 m), λ m. (sort_in by_smallest (sort by_number fs) f).1 ((sort_in by_number fs f).1 m)))

-- the state as read has the same snapshot
pub as_read_bytes : (p : Profile) (s : State) → WF p s → encode (as_read s) ≡ encode s
unfolding as_read level in_read_order sort
as_read_bytes p s w = same_bytes_lem (as_read s) s refl refl (λ l.
    let e : get_or (map in_read_order s.files) l [] ≡ in_read_order (get_or s.files l []) = get_or-map in_read_order s.files l [] in
    ap (λ (gs : List File). sort by_number gs) e ∙ read_by_number (get_or s.files l []) (distinct_level s.files l w.distinct_numbers))

-- ---- writing and reading back
-- every well-formed state is read back, level 0 ties by rising number
pub decode_encode : (p : Profile) → Fits p → (s : State) → WF p s → decode p (encode s) ≡ some (as_read s)
unfolding decode accept Reads
decode_encode p fit s w =
    let r : read_state p (encode s) ≡ some (record { value = as_read s; rest = [] }) = rw append-nil at (reads_state p s (storable p s fit w) w.levels w.pointer_levels fit.levels []) in
    let f : well_formed p (as_read s) ≡ true = (formed_says p (as_read s)).1 (as_read_formed p s w) in
    let b : same_bytes (encode (as_read s)) (encode s) ≡ true = rw (as_read_bytes p s w) (eq_same (encode s)) in
    rw (r, accept, f, b)
