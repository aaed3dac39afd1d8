-- A list applied to a left state, made by going through both once: each level by rising number, the pointers by level, the counters by place. Assumes nothing.
use Rattle.std.specs.Prelude.{ℕ, ◌^◌, ◌<◌, ◌≤◌, ◌≡◌, refl, ◌↔◌, ◌⊎◌, Bool, cond, false, not, ◌&&◌, eqb, leb, length}
use Rattle.std.proofs.Math.Path.{ap, sym, subst}
use Rattle.std.proofs.Common.{◌∙◌, inl, inr, arith}
use Rattle.std.proofs.Math.Bool.{true}
use mathlib.Core.List.Memᴰ.{append_cases}
use mathlib.Core.List.Memᴰ.{append_left as in_left}
use mathlib.Core.List.Memᴰ.{append_right as in_right}
use mathlib.Core.List.Memᴰ.{head as here}
use mathlib.Core.List.Memᴰ.{not-nil}
use mathlib.Core.List.Memᴰ.{of_map}
use mathlib.Core.List.Memᴰ.{tail as there}
use mathlib.Core.List.{List, [], ◌∷◌, ◌++◌, map, Memᴰ as In, append-nil}
use Rattle.std.proofs.Math.Option.{Option, none, some}
use borrow.Author.Tests.{eqb-true, eq-eqb, ltb-true, leb-true, not-true}
use Rattle.std.proofs.Math.Dec.{ltb}
use Rattle.std.proofs.lemmas.List.{length-map}
use Rattle.lemmas.specs.Order.{clash}
use Rattle.lemmas.specs.Lists.{push, any, keep, sort, chain, join, up_from, distinct}
use Rattle.lemmas.specs.ListLaws.{and_left, and_right, both, any_in, keep_in, sort_in, join_in, get_or_in, up_from_in, and_true, map_same as map-own}
use Rattle.lemmas.specs.Maps.{of_join_map, map_same, map_same_in}
use Rattle.lemmas.specs.UpFrom.{made_at, up_from_length}
use Rattle.lemmas.specs.Once.{in_any, in_join_map, distinct_once, strict_once}
use Rattle.lemmas.specs.Compare.{overlay}
use Rattle.lemmas.specs.Rising.{rising, sort_rises, keep_rises}
use Rattle.lemmas.specs.OverlayLaws.{Left, overlay_is}
use Rattle.model.specs.Key.{Key}
use Rattle.model.specs.Answer.{◌⇒◌, refused, first_of}
use Rattle.model.specs.File.{Profile, File, State, level, pointer, numbers, by_smallest, good_file, good_pointer, max_counter, full, well_formed}
use Rattle.model.proofs.Formed.{WF, formed_says}
use Rattle.model.specs.Snapshot.{by_number, Entry, entries, encode, read_state, accept, decode, five_of, from_five, longest_snapshot, counter_count}
use Rattle.model.proofs.SnapshotLaws.{Fits, Storable, entries_in_lem, entries_rise, entries_among, good_storable, level_few, encode_most}
use Rattle.model.proofs.Reading.{Reads, in_read_order, as_read, read_by_number, reads_state, eq_same}
use Rattle.model.specs.Calls.{write, read, or_bad}
use Rattle.model.specs.Difference.{Difference, only_left, only_right, changed, pointer_is, counter_is, place, earlier, names, counter_at, good_difference, good_list}
use Rattle.model.specs.DifferenceBytes.{section_of, section_at, decode_list, on_given, fitting, patching}
use Rattle.model.specs.Patched.{brings, patched_level, pointer_after, counter_by, counter_after, patched}
use Rattle.model.proofs.DifferenceListedLaws.{fails, within, numbers_once}
use Rattle.model.proofs.DifferenceOrderLaws.{earlier_order, place_same, earlier_files, in_turn}
use Rattle.model.proofs.PatchedLaws.{brings_says, patched_distinct, pointer_kept, counter_kept, patched_file, patched_pointer, pointer_after_lem}
use Rattle.model.proofs.DifferenceLengthLaws.{pointer_good}
use Rattle.model.proofs.DifferenceReadingLaws.{two_tests, section_in, good_list_says, decode_list_sound}
use Rattle.model.proofs.DifferingLaws.{snapshot_says, patching_both}

-- the number that an entry of files names
unfoldable pub number_named : Difference → ℕ
number_named (only_left l n) = n
number_named (only_right l f) = f.number
number_named (changed l f) = f.number
number_named (pointer_is l o) = 0
number_named (counter_is i v) = 0

-- an entry of files of this level
unfoldable pub is_of_level : ℕ → Difference → Bool
is_of_level l (only_left m n) = eqb m l
is_of_level l (only_right m f) = eqb m l
is_of_level l (changed m f) = eqb m l
is_of_level l (pointer_is m o) = false
is_of_level l (counter_is i v) = false

-- the entries of files of a level, in order
unfoldable pub of_level : ℕ → List Difference → List Difference
of_level l ds = keep (is_of_level l) ds

-- the level of an entry of pointers
unfoldable pub pointer_level : Difference → ℕ
pointer_level (only_left l n) = 0
pointer_level (only_right l f) = 0
pointer_level (changed l f) = 0
pointer_level (pointer_is l o) = l
pointer_level (counter_is i v) = 0

-- a pointer with its level, if it is set
unfoldable pub set_pointer : ℕ → Option Key → List Entry
set_pointer l none = []
set_pointer l (some k) = record { level = l; key = k } ∷ []

-- the pointer that an entry brings, if it does
unfoldable pub brings_pointer : Difference → List Entry
brings_pointer (only_left l n) = []
brings_pointer (only_right l f) = []
brings_pointer (changed l f) = []
brings_pointer (pointer_is l o) = set_pointer l o
brings_pointer (counter_is i v) = []

-- ---- a level
-- an entry names a number at a level: it is of that level, and its number is that
names_is : (l n : ℕ) (d : Difference) → names l n d ≡ (is_of_level l d && eqb (number_named d) n)
unfolding names is_of_level number_named
names_is l n (only_left m k) = refl
names_is l n (only_right m f) = refl
names_is l n (changed m f) = refl
names_is l n (pointer_is m o) = refl
names_is l n (counter_is i v) = refl

-- an entry of a level names its own number there
pub names_own : (l : ℕ) (d : Difference) → is_of_level l d ≡ true → names l (number_named d) d ≡ true
names_own l d h = names_is l (number_named d) d ∙ both (is_of_level l d) (eqb (number_named d) (number_named d)) h (eq-eqb (number_named d) (number_named d) refl)

-- a number is named exactly where an entry of the level names it
level_names : (l n : ℕ) (ds : List Difference) → any (names l n) ds ≡ true ↔ ((d : Difference) × In d (of_level l ds) × (number_named d ≡ n))
unfolding of_level
level_names l n ds = (
  λ h.
      let w = any_in (names l n) ds h in
      let d = w.0 in
      let b = sym (names_is l n d) ∙ w.2 in
      (d, (keep_in (is_of_level l) ds d).1 (w.1, and_left (is_of_level l d) (eqb (number_named d) n) b), eqb-true (number_named d) n (and_right (is_of_level l d) (eqb (number_named d) n) b)),
  λ h. let k = (keep_in (is_of_level l) ds h.0).0 h.1 in in_any (names l n) ds h.0 k.0 (subst (λ (m : ℕ). names l m h.0 ≡ true) h.2 (names_own l h.0 k.1)),
)

-- an entry that brings a file is of the level, and names the file's number
brings_own : (l : ℕ) (d : Difference) (f : File) → In f (brings l d) → (is_of_level l d ≡ true) × (f.number ≡ number_named d)
unfolding is_of_level number_named
brings_own l d f m = go (brings_says l d f m)
  where
    own : (c : Difference) → d ≡ c → is_of_level l c ≡ true → f.number ≡ number_named c → (is_of_level l d ≡ true) × (f.number ≡ number_named d)
    own c e h q = (ap (is_of_level l) e ∙ h, q ∙ ap number_named (sym e))

    go : (d ≡ only_right l f) ⊎ (d ≡ changed l f) → (is_of_level l d ≡ true) × (f.number ≡ number_named d)
    go (inl e) = own (only_right l f) e (eq-eqb l l refl) refl
    go (inr e) = own (changed l f) e (eq-eqb l l refl) refl

-- one file, or none
pushed_few : (b : Bool) (f : File) → rising (λ (f : File). f.number) (push b f []) ≡ true
unfolding push chain
pushed_few true f = refl
pushed_few false f = refl

-- an entry brings no two files
brings_few : (l : ℕ) (d : Difference) → rising (λ (f : File). f.number) (brings l d) ≡ true
unfolding brings chain
brings_few l (only_left m k) = refl
brings_few l (only_right m f) = pushed_few (eqb m l) f
brings_few l (changed m f) = pushed_few (eqb m l) f
brings_few l (pointer_is m o) = refl
brings_few l (counter_is i v) = refl

-- the entries of a level in a list in order rise by number
level_rises : (l : ℕ) (ds : List Difference) → chain earlier ds ≡ true → rising number_named (of_level l ds) ≡ true
unfolding of_level
level_rises l ds c = keep_rises number_named earlier earlier_order (is_of_level l) ds c
    (λ d e a b h. go (number_named d) (number_named e) ((earlier_files d e l (number_named d) l (number_named e) (names_own l d a) (names_own l e b)).0 h))
  where
    go : (n k : ℕ) → (l < l) ⊎ ((l ≡ l) × (n < k)) → n < k
    go n k (inl h) = absurd (omega arith)
    go n k (inr h) = h.1

-- a list in order, and a level with no number twice
module _ (l : ℕ) (ds : List Difference) (fs : List File) (c : chain earlier ds ≡ true) (d : distinct (numbers fs) ≡ true) where
  -- no entry names the file
  abbrev is_kept : File → Bool
  is_kept f = not (any (names l f.number) ds)

  -- what is kept and what is brought
  abbrev parts : List File
  parts = keep is_kept fs ++ join (map (brings l) ds)

  -- no number stands twice among them
  parts_once : distinct (numbers parts) ≡ true
  parts_once = patched_distinct ds l fs (strict_once earlier earlier_order place place_same ds c) d

  -- the level after the list is in the order in which it is read
  level_read : in_read_order (patched_level ds l fs) ≡ patched_level ds l fs
  unfolding patched_level in_read_order
  level_read = ap (sort by_smallest) (read_by_number parts parts_once)

  -- by rising number it is made by one walk over the level and the entries of the level
  level_overlaid : sort by_number (patched_level ds l fs) ≡ overlay (λ (f : File). f.number) number_named (brings l) (sort by_number fs) (of_level l ds)
  unfolding patched_level in_read_order by_number numbers of_level
  level_overlaid =
      read_by_number parts parts_once
      ∙ overlay_is (λ (f : File). f.number) number_named (brings l) (λ e f m. (brings_own l e f m).1) (brings_few l) (sort by_number fs) (of_level l ds) (sort by_number parts)
      (rises fs d) (level_rises l ds c) (rises parts parts_once) (λ f. (λ m. from f (append_cases (keep is_kept fs) ((sort_in by_number parts f).0 m)), λ h. (sort_in by_number parts f).1 (to f h)))
    where
      rises : (gs : List File) → distinct (numbers gs) ≡ true → rising (λ (f : File). f.number) (sort by_number gs) ≡ true
      rises gs e = sort_rises (λ (f : File). f.number) gs (distinct_once (λ (f : File). f.number) gs e)

      Here : File → Type 0
      Here f = Left (λ (f : File). f.number) number_named (brings l) (sort by_number fs) (of_level l ds) f

      from : (f : File) → In f (keep is_kept fs) ⊎ In f (join (map (brings l) ds)) → Here f
      from f (inl m) =
          let k = (keep_in is_kept fs f).0 m in
          inl ((sort_in by_number fs f).1 k.0, λ e i q. clash ((level_names l f.number ds).1 (e, i, q)) (not-true (any (names l f.number) ds) k.1))
      from f (inr m) = let v = of_join_map (brings l) ds f m in inr (v.0, (keep_in (is_of_level l) ds v.0).1 (v.1, (brings_own l v.0 f v.2).0), v.2)

      to : (f : File) → Here f → In f parts
      to f (inl h) =
          let none : any (names l f.number) ds ≡ false = fails (any (names l f.number) ds) (λ e. let v = (level_names l f.number ds).0 e in h.1 v.0 v.1 v.2) in
          in_left (join (map (brings l) ds)) ((keep_in is_kept fs f).1 ((sort_in by_number fs f).0 h.0, rw none))
      to f (inr h) = in_right (keep is_kept fs) (in_join_map (brings l) ds h.0 f ((keep_in (is_of_level l) ds h.0).0 h.1).0 h.2)

-- ---- pointers
-- an entry of the section of pointers
pointer_entry_lem : (d : Difference) → section_of d ≡ 1 → (o : Option Key) × (d ≡ pointer_is (pointer_level d) o)
unfolding section_of pointer_level
pointer_entry_lem (only_left l n) h = absurd (omega arith)
pointer_entry_lem (only_right l f) h = absurd (omega arith)
pointer_entry_lem (changed l f) h = absurd (omega arith)
pointer_entry_lem (pointer_is l o) h = (o, refl)
pointer_entry_lem (counter_is i v) h = absurd (omega arith)

-- a pointer that is set, with its level
set_says : (l : ℕ) (o : Option Key) (e : Entry) → In e (set_pointer l o) → pointer_is l o ≡ pointer_is e.level (some e.key)
unfolding set_pointer
set_says l none e m = absurd (not-nil m)
set_says l (some k) e (here q) = ap (λ (x : Entry). pointer_is x.level (some x.key)) (sym q)
set_says l (some k) e (there m) = absurd (not-nil m)

-- an entry that brings a pointer is the entry of that pointer
brings_pointer_lem : (d : Difference) (e : Entry) → In e (brings_pointer d) → d ≡ pointer_is e.level (some e.key)
unfolding brings_pointer
brings_pointer_lem (only_left l n) e m = absurd (not-nil m)
brings_pointer_lem (only_right l f) e m = absurd (not-nil m)
brings_pointer_lem (changed l f) e m = absurd (not-nil m)
brings_pointer_lem (pointer_is l o) e m = set_says l o e m
brings_pointer_lem (counter_is i v) e m = absurd (not-nil m)

-- it brings no two
pointer_few : (d : Difference) → rising (λ (e : Entry). e.level) (brings_pointer d) ≡ true
unfolding brings_pointer set_pointer chain
pointer_few (only_left l n) = refl
pointer_few (only_right l f) = refl
pointer_few (changed l f) = refl
pointer_few (pointer_is l none) = refl
pointer_few (pointer_is l (some k)) = refl
pointer_few (counter_is i v) = refl

-- the entries of pointers in a list in order rise by level
pointers_rise : (ds : List Difference) → chain earlier ds ≡ true → rising pointer_level (section_at 1 ds) ≡ true
unfolding section_at
pointers_rise ds c = keep_rises pointer_level earlier earlier_order (λ d. eqb (section_of d) 1) ds c
    (λ d e a b h. let v = pointer_entry_lem d (eqb-true (section_of d) 1 a) in let w = pointer_entry_lem e (eqb-true (section_of e) 1 b) in
    let q : earlier (pointer_is (pointer_level d) v.0) (pointer_is (pointer_level e) w.0) ≡ true = rw (← v.1, ← w.1) h in
    ltb-true (pointer_level d) (pointer_level e) (sym (in_turn.pointers_by_level (pointer_level d) (pointer_level e) v.0 w.0) ∙ q))

-- ---- counters
-- only the entries of counters count for a counter
counter_section : (i : ℕ) (ds : List Difference) (old : ℕ) → counter_after i ds old ≡ counter_after i (section_at 2 ds) old
unfolding section_at section_of keep push counter_after counter_by
counter_section i [] old = refl
counter_section i (only_left l n ∷ ds) old = counter_section i ds old
counter_section i (only_right l f ∷ ds) old = counter_section i ds old
counter_section i (changed l f ∷ ds) old = counter_section i ds old
counter_section i (pointer_is l o ∷ ds) old = counter_section i ds old
counter_section i (counter_is j v ∷ ds) old = counter_section i ds (cond (eqb j i) v old)

-- ---- a state after a list
-- it has as many levels
pub patched_levels : (s : State) (ds : List Difference) → (length (patched s ds).files ≡ length s.files) × (length (patched s ds).pointers ≡ length s.pointers)
unfolding patched
patched_levels s ds = (
  length-map (up_from 0 (length s.files)) (λ l. patched_level ds l (level s l)) ∙ up_from_length 0 (length s.files),
  length-map (up_from 0 (length s.pointers)) (λ l. pointer_after l ds (pointer s l)) ∙ up_from_length 0 (length s.pointers),
)

-- a good list applied to a well-formed state
module _ (p : Profile) (s : State) (ds : List Difference) (w : WF p s) (g : good_list p ds ≡ true) where
  -- each entry is good
  each : (d : Difference) → In d ds → good_difference p d ≡ true
  each = ((good_list_says p ds).0 g).0

  -- the list is in order
  in_order_lem : chain earlier ds ≡ true
  in_order_lem = ((good_list_says p ds).0 g).1

  -- a level after a list, by rising number, is made by one walk over the level and the entries of the level
  pub overlaid_level : (l : ℕ) → l < p.levels
      → sort by_number (level (patched s ds) l) ≡ overlay (λ (f : File). f.number) number_named (brings l) (sort by_number (level s l)) (of_level l ds)
  unfolding patched level
  overlaid_level l h =
      ap (sort by_number) (made_at (λ l. patched_level ds l (level s l)) (length s.files) l [] (omega (arith, w.levels)))
      ∙ level_overlaid l ds (level s l) in_order_lem (numbers_once p s w l)

  -- a pointer is set after a list
  set_after : (e : Entry) → e.level < p.levels → In e (entries 0 (patched s ds).pointers) ↔ (pointer_after e.level ds (pointer s e.level) ≡ some e.key)
  unfolding pointer
  set_after e h =
      let q = patched_pointer s ds e.level (omega (arith, w.pointer_levels)) in
      let r = entries_in_lem (patched s ds).pointers e in
      (λ m. sym q ∙ r.0 m, λ a. r.1 (q ∙ a))

  -- the pointers that are set after a list are made by one walk over those that were and the entries of pointers
  pub overlaid_pointers : entries 0 (patched s ds).pointers ≡ overlay (λ (e : Entry). e.level) pointer_level brings_pointer (entries 0 s.pointers) (section_at 1 ds)
  unfolding pointer pointer_level brings_pointer set_pointer section_of good_difference
  overlaid_pointers = overlay_is (λ (e : Entry). e.level) pointer_level brings_pointer (λ d e m. ap pointer_level (sym (brings_pointer_lem d e m))) pointer_few (entries 0 s.pointers) (section_at 1 ds) (entries 0 (patched s ds).pointers)
      (entries_rise 0 s.pointers) (pointers_rise ds in_order_lem) (entries_rise 0 (patched s ds).pointers) (λ e. (λ m. from e m, λ h. to e h))
    where
      Here : Entry → Type 0
      Here e = Left (λ (e : Entry). e.level) pointer_level brings_pointer (entries 0 s.pointers) (section_at 1 ds) e

      stays : (l : ℕ) → ((d : Difference) → In d (section_at 1 ds) → pointer_level d ≡ l → ⊥) → pointer_after l ds (pointer s l) ≡ pointer s l
      stays l n = (pointer_after_lem l ds (pointer s l) in_order_lem).1 (λ o i. n (pointer_is l o) ((section_in 1 ds (pointer_is l o)).1 (i, refl)) refl)

      from : (e : Entry) → In e (entries 0 (patched s ds).pointers) → Here e
      from e m = go (any (λ d. eqb (pointer_level d) e.level) (section_at 1 ds)) refl
        where
          after : pointer_after e.level ds (pointer s e.level) ≡ some e.key
          after = (set_after e (omega (arith, (entries_among 0 (patched s ds).pointers e m).0, (patched_levels s ds).1, w.pointer_levels))).0 m

          go : (b : Bool) → any (λ d. eqb (pointer_level d) e.level) (section_at 1 ds) ≡ b → Here e
          go true h =
              let v = any_in (λ d. eqb (pointer_level d) e.level) (section_at 1 ds) h in
              let i = (section_in 1 ds v.0).0 v.1 in
              let o = pointer_entry_lem v.0 i.1 in
              let q : v.0 ≡ pointer_is e.level o.0 = o.1 ∙ ap (λ (l : ℕ). pointer_is l o.0) (eqb-true (pointer_level v.0) e.level v.2) in
              let k : o.0 ≡ some e.key = sym ((pointer_after_lem e.level ds (pointer s e.level) in_order_lem).0 o.0 (subst (λ (x : Difference). In x ds) q i.0)) ∙ after in
              inr (v.0, v.1, subst (λ (x : Difference). In e (brings_pointer x)) (sym (q ∙ ap (pointer_is e.level) k)) (here refl))
          go false h =
              let n : (d : Difference) → In d (section_at 1 ds) → pointer_level d ≡ e.level → ⊥ = λ d i q. clash (in_any (λ d. eqb (pointer_level d) e.level) (section_at 1 ds) d i (eq-eqb (pointer_level d) e.level q)) h in
              inl ((entries_in_lem s.pointers e).1 (sym (stays e.level n) ∙ after), n)

      to : (e : Entry) → Here e → In e (entries 0 (patched s ds).pointers)
      to e (inl h) =
          let b = (entries_among 0 s.pointers e h.0).0 in
          (set_after e (omega (arith, w.pointer_levels))).1 (stays e.level h.1 ∙ (entries_in_lem s.pointers e).0 h.0)
      to e (inr h) =
          let i : In (pointer_is e.level (some e.key)) ds = subst (λ (x : Difference). In x ds) (brings_pointer_lem h.0 e h.2) ((section_in 1 ds h.0).0 h.1).0 in
          let b = and_left (ltb e.level p.levels) (good_pointer p (some e.key)) (each (pointer_is e.level (some e.key)) i) in
          (set_after e (ltb-true e.level p.levels b)).1 ((pointer_after_lem e.level ds (pointer s e.level) in_order_lem).0 (some e.key) i)

  -- the counters after a list are each made by the entries of counters
  pub overlaid_counters : five_of (patched s ds).counters ≡ map (λ i. counter_after i (section_at 2 ds) (counter_at s i)) (up_from 0 counter_count)
  unfolding five_of patched from_five up_from
  overlaid_counters = map_same (λ i. counter_after i ds (counter_at s i)) (λ i. counter_after i (section_at 2 ds) (counter_at s i)) (up_from 0 counter_count) (λ i. counter_section i ds (counter_at s i))

  -- ---- the outcome fits in a snapshot where its bytes are few
  -- a file of the outcome is good
  outcome_files : (l : ℕ) (f : File) → In f (level (patched s ds) l) → (good_file p f ≡ true) × (f.number < 2 ^ 64)
  unfolding level good_difference
  outcome_files l f m = go ((patched_file s ds l (omega (arith, within (patched s ds) l f m, (patched_levels s ds).0)) f).0 m)
    where
      told : (ltb l p.levels && (good_file p f && ltb f.number (2 ^ 64))) ≡ true → (good_file p f ≡ true) × (f.number < 2 ^ 64)
      told h = let t = two_tests (ltb l p.levels) (good_file p f) (ltb f.number (2 ^ 64)) h in (t.1, ltb-true f.number (2 ^ 64) t.2)

      go : (In f (level s l) × (any (names l f.number) ds ≡ false)) ⊎ (In (only_right l f) ds ⊎ In (changed l f) ds) → (good_file p f ≡ true) × (f.number < 2 ^ 64)
      go (inl h) = let i = join_in s.files l f h.0 in (w.good f i, w.words f i)
      go (inr (inl i)) = told (each (only_right l f) i)
      go (inr (inr i)) = told (each (changed l f) i)

  -- a pointer of the outcome is good
  outcome_pointers : (o : Option Key) → In o (patched s ds).pointers → good_pointer p o ≡ true
  unfolding patched good_difference
  outcome_pointers o m =
      let v = of_map (λ l. pointer_after l ds (pointer s l)) (up_from 0 (length s.pointers)) m in
      let l = v.0 in
      subst (λ (q : Option Key). good_pointer p q ≡ true) v.2 (pointer_kept (λ q. good_pointer p q ≡ true) l ds (pointer s l)
      (λ q i. and_right (ltb l p.levels) (good_pointer p q) (each (pointer_is l q) i)) (pointer_good p s w l))

  -- a counter of the outcome is bounded
  outcome_counters : (n : ℕ) → In n (five_of (patched s ds).counters) → n ≤ max_counter
  unfolding patched five_of from_five up_from counter_at good_difference
  outcome_counters n m =
      let v = of_map (λ i. counter_after i ds (counter_at s i)) (up_from 0 counter_count) m in
      let i = v.0 in
      let b = (up_from_in 0 counter_count i).0 v.1 in
      subst (λ (k : ℕ). k ≤ max_counter) v.2 (counter_kept (λ k. k ≤ max_counter) i ds (counter_at s i)
      (λ k j. leb-true k max_counter (and_right (ltb i counter_count) (leb k max_counter) (each (counter_is i k) j))) (w.counters (counter_at s i) (get_or_in (five_of s.counters) i 0 b.1)))

  -- so it fits
  pub outcome_storable : Fits p → length (encode (patched s ds)) < 65536 → Storable (patched s ds)
  outcome_storable fit few = good_storable p (patched s ds) fit outcome_files (λ l. omega (arith, level_few (patched s ds) (omega (arith, (patched_levels s ds).0, w.levels, fit.levels)) l))
      ((patched_levels s ds).1 ∙ w.pointer_levels) outcome_pointers outcome_counters

  -- it is as a snapshot of it is read
  pub outcome_read : as_read (patched s ds) ≡ patched s ds
  unfolding as_read patched
  outcome_read = λ j. record { files = files j; pointers = (patched s ds).pointers; counters = (patched s ds).counters }
    where
      at : (fs : List File) → In fs (patched s ds).files → in_read_order fs ≡ fs
      at fs m =
          let v = of_map (λ l. patched_level ds l (level s l)) (up_from 0 (length s.files)) m in
          subst (λ (gs : List File). in_read_order gs ≡ gs) v.2 (level_read v.0 ds (level s v.0) in_order_lem (numbers_once p s w v.0))

      files : map in_read_order (patched s ds).files ≡ (patched s ds).files
      files = map_same_in in_read_order (λ fs. fs) (patched s ds).files at ∙ map-own (patched s ds).files

  -- so its bytes are a snapshot exactly where it is well-formed, and then it is what they are read as
  pub outcome_decode : Fits p → length (encode (patched s ds)) < 65536 → decode p (encode (patched s ds)) ≡ cond (well_formed p (patched s ds)) (some (patched s ds)) none
  unfolding decode accept Reads
  outcome_decode fit few =
      let u = patched s ds in
      let n = patched_levels s ds in
      let r : read_state p (encode u) ≡ some (record { value = as_read u; rest = [] }) = rw append-nil at (reads_state p u (outcome_storable fit few) (n.0 ∙ w.levels) (n.1 ∙ w.pointer_levels) fit.levels []) in
      rw (r, accept, outcome_read, eq_same (encode u), and_true)

-- so the call answers by its outcome's bytes: 14 where they are no snapshot, then 13, else the bytes
pub patching_candidate : (p : Profile) → Fits p → (left list : List ℕ) (room : ℕ) (s : State) (ds : List Difference) → decode p left ≡ some s → decode_list p list ≡ some ds → length (encode (patched s ds)) < 65536
    → patching p left list room ≡ on_given (read p (encode (patched s ds))) (λ t. fitting room (encode (patched s ds)))
unfolding write read or_bad on_given fitting first_of ◌⇒◌
patching_candidate p fit left list room s ds e f few =
    patching_both p left list room s ds e f ∙ go (well_formed p (patched s ds)) refl (outcome_decode p s ds (snapshot_says p left s e).0 (decode_list_sound p list ds f).0 fit few)
  where
    go : (b : Bool) → well_formed p (patched s ds) ≡ b → decode p (encode (patched s ds)) ≡ cond (well_formed p (patched s ds)) (some (patched s ds)) none
        → write p (patched s ds) room ≡ on_given (read p (encode (patched s ds))) (λ t. fitting room (encode (patched s ds)))
    go true h q = rw (q, h)
    go false h q = rw (q, h)

-- an outcome that is longer than every snapshot is not well-formed
pub patching_long : (left list : List ℕ) (room : ℕ) (s : State) (ds : List Difference) → decode full left ≡ some s → decode_list full list ≡ some ds → longest_snapshot < length (encode (patched s ds)) → patching full left list room ≡ refused 14
unfolding write first_of ◌⇒◌
patching_long left list room s ds e f long =
    let n : well_formed full (patched s ds) ≡ false = fails (well_formed full (patched s ds)) (λ h. omega (arith, encode_most (patched s ds) ((formed_says full (patched s ds)).0 h))) in
    patching_both full left list room s ds e f ∙ rw n
