-- A list of differences as bytes: there and back. Assumes nothing.
use Rattle.std.specs.Prelude.{ℕ, ◌^◌, ◌+◌, ◌*◌, ◌<◌, ◌≤◌, ◌≡◌, refl, ◌↔◌, ◌⊎◌, Bool, cond, true, false, ◌&&◌, eqb, leb}
use Rattle.std.proofs.Common.{ap, sym, ◌∙◌, inl, inr, arith}
use Rattle.std.proofs.Math.Path.{subst}
use mathlib.Core.List.Memᴰ.{append_cases}
use mathlib.Core.List.Memᴰ.{append_left as in_left}
use mathlib.Core.List.Memᴰ.{append_right as in_right}
use mathlib.Core.List.{List, [], ◌∷◌, ◌++◌, Memᴰ as In, append-nil}
use Rattle.std.proofs.Math.Option.{Option, none, some}
use borrow.Author.Tests.{eqb-true, eq-eqb, ltb-true, lt-ltb, leb-true, le-leb}
use Rattle.std.proofs.Math.Dec.{ltb}
use Rattle.std.proofs.Math.ListN.{length}
use Rattle.lemmas.specs.Order.{lexb, clash, by_first}
use Rattle.lemmas.specs.Lists.{keep, all, chain, join}
use Rattle.lemmas.specs.ListLaws.{and_left, and_right, both, keep_in, keep_length, join_in, all_in, get_or_in, sub_keep, sub_chain}
use Rattle.lemmas.specs.Little.{bytes}
use Rattle.lemmas.specs.Once.{strict_one, strict_append}
use Rattle.model.specs.Key.{Key}
use Rattle.model.specs.File.{Profile, File, State, level, max_counter, good_file, good_pointer, Counters, full}
use Rattle.model.specs.Snapshot.{five_of, same_bytes, write_key, write_file, section, Read, ◌>>=◌, give, read_number, read_key, read_file, read_section, byte_long, number_long, counter_count}
use Rattle.model.specs.KeyLaws.{good_key_says}
use Rattle.model.proofs.Formed.{WF}
use Rattle.model.proofs.SnapshotLaws.{Fits, writable, full_fits}
use Rattle.model.proofs.Reading.{same_eq, eq_same, Reads, then, gives_it, reads_as, reads_number, reads_key, reads_file, reads_section}
use Rattle.model.specs.Difference.{Difference, only_left, only_right, changed, pointer_is, counter_is, place, earlier, counter_at, differences, good_difference, good_list, Listed}
use Rattle.model.specs.DifferenceBytes.{section_of, key_of, write_difference, section_at, write_differences, read_file_of, read_file_difference, pointer_of, read_pointer_difference, read_counter_difference, read_differences, accept_list, decode_list}
use Rattle.model.proofs.DifferenceListedLaws.{number_of, listed_sound, within, pointer_inside, counter_inside}
use Rattle.model.proofs.DifferenceOrderLaws.{earlier_order, differences_ordered}
use Rattle.model.proofs.DifferenceLengthLaws.{differences_few, pointer_short, pointer_good}

-- ---- there and back
-- a profile whose lists can be kept: its snapshots can, and a section's count holds the most entries that a list has
pub record ListFits (p : Profile) : Type 0 where
  pub fits : Fits p
  pub entries : 2 * p.room + p.levels + 5 < 65536

-- the full profile's can
pub full_lists : ListFits full
unfolding full
full_lists = record { fits = full_fits; entries = omega arith }

-- a pointer of the bytes of a good pointer
pointer_back : (p : Profile) (o : Option Key) → good_pointer p o ≡ true → pointer_of (key_of o) ≡ o
unfolding good_pointer pointer_of key_of
pointer_back p none h = refl
pointer_back p (some []) h = absurd (omega (arith, ((good_key_says p.longest []).0 h).some_byte))
pointer_back p (some (b ∷ bs)) h = refl

-- what is good about an entry
pub two_tests : (a b c : Bool) → (a && (b && c)) ≡ true → (a ≡ true) × (b ≡ true) × (c ≡ true)
two_tests a b c h = let r = and_right a (b && c) h in (and_left a (b && c) h, and_left b c r, and_right b c r)

module _ (p : Profile) (fit : Fits p) where
  -- an entry of files
  reads_files : (d : Difference) → section_of d ≡ 0 → good_difference p d ≡ true → Reads read_file_difference (write_difference d) d
  unfolding section_of good_difference read_file_difference write_difference read_file_of
  reads_files (only_left l n) z g =
      let a = ltb-true l p.levels (and_left (ltb l p.levels) (ltb n (2 ^ 64)) g) in
      let b = ltb-true n (2 ^ 64) (and_right (ltb l p.levels) (ltb n (2 ^ 64)) g) in
      let d = only_left l n in
      then (read_number byte_long) (λ k. read_number byte_long >>= λ l. read_file_of k l) (bytes byte_long 0) (bytes byte_long l ++ bytes number_long n) 0 d (reads_number 1 0 (omega arith))
      (then (read_number byte_long) (λ l. read_file_of 0 l) (bytes byte_long l) (bytes number_long n) l d (reads_number 1 l (omega (arith, fit.levels)))
      (reads_as (read_file_of 0 l) (bytes number_long n ++ []) (bytes number_long n) d (append-nil (bytes number_long n)) (then (read_number number_long) (λ (n : ℕ). give (only_left l n)) (bytes number_long n) [] n d (reads_number 8 n (omega arith)) (gives_it d))))
  reads_files (only_right l f) z g =
      let t = two_tests (ltb l p.levels) (good_file p f) (ltb f.number (2 ^ 64)) g in
      let a = ltb-true l p.levels t.0 in
      let d = only_right l f in
      then (read_number byte_long) (λ k. read_number byte_long >>= λ l. read_file_of k l) (bytes byte_long 1) (bytes byte_long l ++ write_file f) 1 d (reads_number 1 1 (omega arith))
      (then (read_number byte_long) (λ l. read_file_of 1 l) (bytes byte_long l) (write_file f) l d (reads_number 1 l (omega (arith, fit.levels)))
      (reads_as (read_file_of 1 l) (write_file f ++ []) (write_file f) d (append-nil (write_file f))
      (then read_file (λ (f : File). give (only_right l f)) (write_file f) [] f d (reads_file f (writable p f fit t.1 (ltb-true f.number (2 ^ 64) t.2))) (gives_it d))))
  reads_files (changed l f) z g =
      let t = two_tests (ltb l p.levels) (good_file p f) (ltb f.number (2 ^ 64)) g in
      let a = ltb-true l p.levels t.0 in
      let d = changed l f in
      then (read_number byte_long) (λ k. read_number byte_long >>= λ l. read_file_of k l) (bytes byte_long 2) (bytes byte_long l ++ write_file f) 2 d (reads_number 1 2 (omega arith))
      (then (read_number byte_long) (λ l. read_file_of 2 l) (bytes byte_long l) (write_file f) l d (reads_number 1 l (omega (arith, fit.levels)))
      (reads_as (read_file_of 2 l) (write_file f ++ []) (write_file f) d (append-nil (write_file f))
      (then read_file (λ (f : File). give (changed l f)) (write_file f) [] f d (reads_file f (writable p f fit t.1 (ltb-true f.number (2 ^ 64) t.2))) (gives_it d))))
  reads_files (pointer_is l o) z g = absurd (omega arith)
  reads_files (counter_is i v) z g = absurd (omega arith)

  -- an entry of pointers
  reads_pointers : (d : Difference) → section_of d ≡ 1 → good_difference p d ≡ true → Reads read_pointer_difference (write_difference d) d
  unfolding section_of good_difference read_pointer_difference write_difference
  reads_pointers (only_left l n) z g = absurd (omega arith)
  reads_pointers (only_right l f) z g = absurd (omega arith)
  reads_pointers (changed l f) z g = absurd (omega arith)
  reads_pointers (pointer_is l o) z g =
      let a = ltb-true l p.levels (and_left (ltb l p.levels) (good_pointer p o) g) in
      let b = and_right (ltb l p.levels) (good_pointer p o) g in
      let k = key_of o in
      let d = pointer_is l (pointer_of k) in
      subst (λ (q : Option Key). Reads (read_number byte_long >>= λ l. read_key >>= λ k. give (pointer_is l (pointer_of k))) (bytes byte_long l ++ write_key (key_of o)) (pointer_is l q)) (pointer_back p o b)
      (then (read_number byte_long) (λ l. read_key >>= λ k. give (pointer_is l (pointer_of k))) (bytes byte_long l) (write_key k) l d (reads_number 1 l (omega (arith, fit.levels)))
      (reads_as (read_key >>= λ k. give (pointer_is l (pointer_of k))) (write_key k ++ []) (write_key k) d (append-nil (write_key k))
      (then read_key (λ k. give (pointer_is l (pointer_of k))) (write_key k) [] k d (reads_key k (omega (arith, pointer_short p o b, fit.keys))) (gives_it d))))
  reads_pointers (counter_is i v) z g = absurd (omega arith)

  -- an entry of counters
  reads_counters : (d : Difference) → section_of d ≡ 2 → good_difference p d ≡ true → Reads read_counter_difference (write_difference d) d
  unfolding section_of good_difference read_counter_difference write_difference max_counter
  reads_counters (only_left l n) z g = absurd (omega arith)
  reads_counters (only_right l f) z g = absurd (omega arith)
  reads_counters (changed l f) z g = absurd (omega arith)
  reads_counters (pointer_is l o) z g = absurd (omega arith)
  reads_counters (counter_is i v) z g =
      let a = ltb-true i 5 (and_left (ltb i counter_count) (leb v max_counter) g) in
      let b = leb-true v max_counter (and_right (ltb i counter_count) (leb v max_counter) g) in
      let d = counter_is i v in
      then (read_number byte_long) (λ i. read_number number_long >>= λ v. give (counter_is i v)) (bytes byte_long i) (bytes number_long v) i d (reads_number 1 i (omega arith))
      (reads_as (read_number number_long >>= λ v. give (counter_is i v)) (bytes number_long v ++ []) (bytes number_long v) d (append-nil (bytes number_long v)) (then (read_number number_long) (λ v. give (counter_is i v)) (bytes number_long v) [] v d (reads_number 8 v (omega arith)) (gives_it d)))

-- ---- a list in order is its three sections, one after another
-- the place of an entry begins with its section
pub section_place : (d : Difference) → (xs : List ℕ) × (place d ≡ section_of d ∷ xs)
unfolding place section_of
section_place (only_left l n) = (l ∷ n ∷ [], refl)
section_place (only_right l f) = (l ∷ f.number ∷ [], refl)
section_place (changed l f) = (l ∷ f.number ∷ [], refl)
section_place (pointer_is l o) = (l ∷ [], refl)
section_place (counter_is i v) = (i ∷ [], refl)

-- an entry of an earlier section is earlier
section_earlier : (d e : Difference) → section_of d < section_of e → earlier d e ≡ true
unfolding earlier lexb by_first
section_earlier d e h =
    let v = section_place d in
    let w = section_place e in
    let q : ltb (section_of d) (section_of e) ≡ true = lt-ltb (section_of d) (section_of e) h in
    rw (v.1, w.1, q)

-- the entries of a section
pub section_in : (k : ℕ) (ds : List Difference) (d : Difference) → In d (section_at k ds) ↔ (In d ds × (section_of d ≡ k))
unfolding section_at
section_in k ds d = (
  λ m. let r = (keep_in (λ d. eqb (section_of d) k) ds d).0 m in (r.0, eqb-true (section_of d) k r.1),
  λ h. (keep_in (λ d. eqb (section_of d) k) ds d).1 (h.0, eq-eqb (section_of d) k h.1),
)

-- there are three
section_three : (d : Difference) → (section_of d ≡ 0) ⊎ ((section_of d ≡ 1) ⊎ (section_of d ≡ 2))
unfolding section_of
section_three (only_left l n) = inl refl
section_three (only_right l f) = inl refl
section_three (changed l f) = inl refl
section_three (pointer_is l o) = inr (inl refl)
section_three (counter_is i v) = inr (inr refl)

-- a section of a list in order is in order
section_ordered : (k : ℕ) (ds : List Difference) → chain earlier ds ≡ true → chain earlier (section_at k ds) ≡ true
unfolding section_at
section_ordered k ds c = sub_chain earlier (λ d. Unit {0}) (λ a b d g. earlier_order.trans a b d) (λ d m. tt) (sub_keep (λ d. eqb (section_of d) k) ds) c

-- three lists in order, one of each section, are in order one after another
pub three_ordered : (a b c : List Difference) → ((d : Difference) → In d a → section_of d ≡ 0) → ((d : Difference) → In d b → section_of d ≡ 1) → ((d : Difference) → In d c → section_of d ≡ 2)
    → chain earlier a ≡ true → chain earlier b ≡ true → chain earlier c ≡ true → chain earlier (a ++ (b ++ c)) ≡ true
three_ordered a b c h₀ h₁ h₂ u v w =
    strict_append earlier earlier_order a (b ++ c) u (strict_append earlier earlier_order b c v w (λ d e m k. section_earlier d e (omega (arith, h₁ d m, h₂ e k)))) (λ d e m k. first d e m (append_cases b k))
  where
    first : (d e : Difference) → In d a → In e b ⊎ In e c → earlier d e ≡ true
    first d e m (inl k) = section_earlier d e (omega (arith, h₀ d m, h₁ e k))
    first d e m (inr k) = section_earlier d e (omega (arith, h₀ d m, h₂ e k))

-- so the sections joined are the list
sections_back : (ds : List Difference) → chain earlier ds ≡ true → section_at 0 ds ++ (section_at 1 ds ++ section_at 2 ds) ≡ ds
sections_back ds c = strict_one earlier earlier_order (section_at 0 ds ++ (section_at 1 ds ++ section_at 2 ds)) ds
    (three_ordered (section_at 0 ds) (section_at 1 ds) (section_at 2 ds) (λ d m. ((section_in 0 ds d).0 m).1) (λ d m. ((section_in 1 ds d).0 m).1) (λ d m. ((section_in 2 ds d).0 m).1)
    (section_ordered 0 ds c) (section_ordered 1 ds c) (section_ordered 2 ds c))
    c (λ d m. from d (append_cases (section_at 0 ds) m)) (λ d m. to d m (section_three d))
  where
    two : (d : Difference) → In d (section_at 1 ds) ⊎ In d (section_at 2 ds) → In d ds
    two d (inl m) = ((section_in 1 ds d).0 m).0
    two d (inr m) = ((section_in 2 ds d).0 m).0

    from : (d : Difference) → In d (section_at 0 ds) ⊎ In d (section_at 1 ds ++ section_at 2 ds) → In d ds
    from d (inl m) = ((section_in 0 ds d).0 m).0
    from d (inr m) = two d (append_cases (section_at 1 ds) m)

    to : (d : Difference) → In d ds → (section_of d ≡ 0) ⊎ ((section_of d ≡ 1) ⊎ (section_of d ≡ 2)) → In d (section_at 0 ds ++ (section_at 1 ds ++ section_at 2 ds))
    to d m (inl e) = in_left (section_at 1 ds ++ section_at 2 ds) ((section_in 0 ds d).1 (m, e))
    to d m (inr (inl e)) = in_right (section_at 0 ds) (in_left (section_at 2 ds) ((section_in 1 ds d).1 (m, e)))
    to d m (inr (inr e)) = in_right (section_at 0 ds) (in_right (section_at 1 ds) ((section_in 2 ds d).1 (m, e)))

-- a section has no more entries than the list
section_few : (k : ℕ) (ds : List Difference) → length (section_at k ds) ≤ length ds
unfolding section_at
section_few k ds = keep_length (λ d. eqb (section_of d) k) ds

-- what a good list says
pub good_list_says : (p : Profile) (ds : List Difference) → good_list p ds ≡ true ↔ (((d : Difference) → In d ds → good_difference p d ≡ true) × (chain earlier ds ≡ true))
unfolding good_list
good_list_says p ds = (
  λ h. ((all_in (good_difference p) ds).0 (and_left (all (good_difference p) ds) (chain earlier ds) h), and_right (all (good_difference p) ds) (chain earlier ds) h),
  λ w. both (all (good_difference p) ds) (chain earlier ds) ((all_in (good_difference p) ds).1 w.0) w.1,
)

-- the three sections are read as they were written
reads_list : (p : Profile) → Fits p → (ds : List Difference) → good_list p ds ≡ true → ((k : ℕ) → length (section_at k ds) < 65536) → Reads read_differences (write_differences ds) ds
unfolding read_differences write_differences
reads_list p fit ds g few =
    let w = (good_list_says p ds).0 g in
    let a = section_at 0 ds in
    let b = section_at 1 ds in
    let c = section_at 2 ds in
    let wa = section write_difference a in
    let wb = section write_difference b in
    let wc = section write_difference c in
    let all = a ++ (b ++ c) in
    let ra = reads_section read_file_difference write_difference a (λ d m. let r = (section_in 0 ds d).0 m in reads_files p fit d r.1 (w.0 d r.0)) (few 0) in
    let rb = reads_section read_pointer_difference write_difference b (λ d m. let r = (section_in 1 ds d).0 m in reads_pointers p fit d r.1 (w.0 d r.0)) (few 1) in
    let rc = reads_section read_counter_difference write_difference c (λ d m. let r = (section_in 2 ds d).0 m in reads_counters p fit d r.1 (w.0 d r.0)) (few 2) in
    subst (λ (es : List Difference). Reads (read_section read_file_difference >>= λ fs. read_section read_pointer_difference >>= λ ps. read_section read_counter_difference >>= λ cs. give (fs ++ (ps ++ cs))) (wa ++ (wb ++ wc)) es)
    (sections_back ds w.1)
    (then (read_section read_file_difference) (λ fs. read_section read_pointer_difference >>= λ ps. read_section read_counter_difference >>= λ cs. give (fs ++ (ps ++ cs))) wa (wb ++ wc) a all ra
    (then (read_section read_pointer_difference) (λ ps. read_section read_counter_difference >>= λ cs. give (a ++ (ps ++ cs))) wb wc b all rb
    (reads_as (read_section read_counter_difference >>= λ cs. give (a ++ (b ++ cs))) (wc ++ []) wc all (append-nil wc) (then (read_section read_counter_difference) (λ cs. give (a ++ (b ++ cs))) wc [] c all rc (gives_it all)))))

-- a good list is read back, if the count of each section fits its two bytes
pub decode_list_sections : (p : Profile) → Fits p → (ds : List Difference) → good_list p ds ≡ true → ((k : ℕ) → length (section_at k ds) < 65536) → decode_list p (write_differences ds) ≡ some ds
unfolding decode_list accept_list Reads
decode_list_sections p fit ds g few =
    let r : read_differences (write_differences ds) ≡ some (record { value = ds; rest = [] }) = rw append-nil at (reads_list p fit ds g few []) in
    let b : same_bytes (write_differences ds) (write_differences ds) ≡ true = eq_same (write_differences ds) in
    rw (r, accept_list, g, b)

-- which it does in a list of fewer entries
pub decode_list_back : (p : Profile) → Fits p → (ds : List Difference) → good_list p ds ≡ true → length ds < 65536 → decode_list p (write_differences ds) ≡ some ds
decode_list_back p fit ds g few = decode_list_sections p fit ds g (λ k. omega (arith, section_few k ds))

-- what is read is a good list and writes these very bytes
pub decode_list_sound : (p : Profile) (bs : List ℕ) (ds : List Difference) → decode_list p bs ≡ some ds → (good_list p ds ≡ true) × (write_differences ds ≡ bs)
unfolding decode_list accept_list
decode_list_sound p bs ds h = go (read_differences bs) h
  where
    test : List Difference → Bool
    test es = good_list p es && same_bytes (write_differences es) bs

    pass : (es : List Difference) (b : Bool) → test es ≡ b → cond b (some es) none ≡ some ds → (good_list p ds ≡ true) × (write_differences ds ≡ bs)
    pass es true e k =
        let q : es ≡ ds = cc in
        subst (λ (u : List Difference). (good_list p u ≡ true) × (write_differences u ≡ bs)) q
        (and_left (good_list p es) (same_bytes (write_differences es) bs) e, same_eq (write_differences es) bs (and_right (good_list p es) (same_bytes (write_differences es) bs) e))
    pass es false e k = let z : true ≡ false = cc in clash refl z

    go : (o : Option (Read (List Difference))) → accept_list p bs o ≡ some ds → (good_list p ds ≡ true) × (write_differences ds ≡ bs)
    go none k = let z : true ≡ false = cc in clash refl z
    go (some r) k = pass r.value (test r.value) refl k

-- ---- the list of two well-formed states can be kept
-- there are five counters
five_length : (c : Counters) → length (five_of c) ≡ 5
unfolding five_of
five_length c = refl

module _ (p : Profile) (s t : State) (ws : WF p s) (wt : WF p t) where
  -- a file of a level is good, and the level is one of the profile's
  file_there : (u : State) → WF p u → (l : ℕ) (f : File) → In f (level u l) → (ltb l p.levels ≡ true) × (good_file p f ≡ true) × (ltb f.number (2 ^ 64) ≡ true)
  unfolding level
  file_there u w l f m =
      let i = join_in u.files l f m in
      (lt-ltb l p.levels (omega (arith, within u l f m, w.levels)), w.good f i, lt-ltb f.number (2 ^ 64) (w.words f i))

  -- each entry that is called for is good
  called_good : (d : Difference) → Listed s t d → good_difference p d ≡ true
  unfolding Listed good_difference counter_at
  called_good (only_left l n) h =
      let v = number_of n (level s l) h.0 in
      let r = file_there s ws l v.0 v.1 in
      both (ltb l p.levels) (ltb n (2 ^ 64)) r.0 (subst (λ (k : ℕ). ltb k (2 ^ 64) ≡ true) v.2 r.2)
  called_good (only_right l g) h =
      let r = file_there t wt l g h.0 in
      both (ltb l p.levels) (good_file p g && ltb g.number (2 ^ 64)) r.0 (both (good_file p g) (ltb g.number (2 ^ 64)) r.1 r.2)
  called_good (changed l g) h =
      let r = file_there t wt l g h.0 in
      both (ltb l p.levels) (good_file p g && ltb g.number (2 ^ 64)) r.0 (both (good_file p g) (ltb g.number (2 ^ 64)) r.1 r.2)
  called_good (pointer_is l o) h =
      both (ltb l p.levels) (good_pointer p o) (lt-ltb l p.levels (pointer_inside p s t ws wt l h.1)) (subst (λ (q : Option Key). good_pointer p q ≡ true) (sym h.0) (pointer_good p t wt l))
  called_good (counter_is i v) h =
      let k = counter_inside p s t ws wt i h.1 in
      both (ltb i counter_count) (leb v max_counter) (lt-ltb i counter_count k) (le-leb v max_counter (subst (λ (n : ℕ). n ≤ max_counter) (sym h.0) (wt.counters (counter_at t i) (get_or_in (five_of t.counters) i 0 (five_there i k)))))
    where
      five_there : (i : ℕ) → i < 5 → i < length (five_of t.counters)
      five_there i k = omega (arith, five_length t.counters)

  -- so the list is good
  pub differences_good : good_list p (differences s t) ≡ true
  differences_good = (good_list_says p (differences s t)).1 (λ d m. called_good d (listed_sound s t d m), differences_ordered p s t ws wt)

  -- and is read back
  pub differences_back : ListFits p → decode_list p (write_differences (differences s t)) ≡ some (differences s t)
  differences_back fit = decode_list_back p fit.fits (differences s t) differences_good (omega (arith, differences_few p s t ws wt, fit.entries))

-- good lists that write the same bytes are one
pub lists_apart : (p : Profile) → Fits p → (ds es : List Difference) → good_list p ds ≡ true → good_list p es ≡ true → length ds < 65536 → length es < 65536 → write_differences ds ≡ write_differences es → ds ≡ es
lists_apart p fit ds es g h few few' e =
    let a = decode_list_back p fit ds g few in
    let b = decode_list_back p fit es h few' in
    let q : some ds ≡ some es = sym a ∙ ap (decode_list p) e ∙ b in
    cc

-- the empty list writes six zeros: three counts
pub nothing_bytes : write_differences [] ≡ 0 ∷ 0 ∷ 0 ∷ 0 ∷ 0 ∷ 0 ∷ []
unfolding write_differences section_at keep section join bytes
nothing_bytes = refl
