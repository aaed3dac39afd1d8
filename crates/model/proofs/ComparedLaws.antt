-- The list of differences, made by going through both states once: each level by rising number, the pointers by level, the counters by place. Assumes nothing.
use Prim.Native.Nat.{ℕ, zero, suc}
use Rattle.std.specs.Prelude.{◌≡◌, refl, ◌↔◌, ◌⊎◌, Bool, true, false, cond, eqb}
use Rattle.std.proofs.Math.Path.{ap, sym, subst}
use Rattle.std.proofs.Common.{◌∙◌, inl, inr, ltb-true, arith}
use Rattle.std.proofs.Math.Bool.{not}
use mathlib.Core.List.Memᴰ.{append_cases}
use mathlib.Core.List.Memᴰ.{append_left as in_left}
use mathlib.Core.List.Memᴰ.{append_right as in_right}
use mathlib.Core.List.Memᴰ.{map as in_map}
use mathlib.Core.List.Memᴰ.{of_map}
use mathlib.Core.List.{List, [], ◌∷◌, ◌++◌, map, Memᴰ as In, append-nil}
use Rattle.std.proofs.Math.Option.{Option, none, some}
use Rattle.std.proofs.lemmas.Bool.{not-true}
use Rattle.std.proofs.Math.Dec.{ltb}
use Rattle.std.proofs.Math.ListN.{length}
use Rattle.lemmas.specs.Order.{clash, nat_order}
use Rattle.lemmas.specs.Lists.{push, keep, any, sort, chain, join, up_from, distinct}
use Rattle.lemmas.specs.ListLaws.{any_in, keep_in, keep_all, keep_append, sort_in, sub_keep, sub_chain}
use Rattle.lemmas.specs.Maps.{push_map, chain_map, of_join_map}
use Rattle.lemmas.specs.UpFrom.{up_from_whole}
use Rattle.lemmas.specs.Once.{in_any, in_join_map, none_in, strict_one, distinct_once}
use Rattle.lemmas.specs.Compare.{compare}
use Rattle.lemmas.specs.Rising.{up_from_rising, sort_rises, strict_join}
use Rattle.lemmas.specs.CompareLaws.{CalledFor, at_left, at_right, at_both, compare_first, compare_second, compare_both, compare_sorted_in, compare_ordered}
use Rattle.model.specs.Key.{Key}
use Rattle.model.specs.File.{Profile, File, State, level, pointer, numbers}
use Rattle.model.proofs.Formed.{WF}
use Rattle.model.specs.Snapshot.{by_number, Entry, entries, section, same_bytes, counter_count}
use Rattle.model.proofs.SnapshotLaws.{entries_from_lem}
use Rattle.model.specs.Difference.{Difference, only_left, only_right, changed, pointer_is, counter_is, place, earlier, has_number, same_contents, differs, same_pointer, counter_at, only_lefts, only_rights, changes, at_level, pointer_differences, counter_differences, unordered, differences}
use Rattle.model.specs.DifferenceBytes.{section_of, section_at, write_difference, write_differences}
use Rattle.model.proofs.DifferenceListedLaws.{number_there, number_of, same_file_lem, contents_own, differs_says, fails, numbers_once}
use Rattle.model.proofs.DifferenceOrderLaws.{earlier_order, level_place, pointer_place, counter_place, names_place, earlier_files, in_turn, differences_ordered}
use Rattle.model.proofs.DifferenceReadingLaws.{section_place, three_ordered}

-- what differs at a level, of both its lists by rising number
unfoldable pub compared_level : ℕ → List File → List File → List Difference
compared_level l xs ys = compare (λ (f : File). f.number) same_contents (λ (f : File). only_left l f.number) (only_right l) (changed l) xs ys

-- the levels of two states, one after another
unfoldable pub compared_levels : State → State → List Difference
compared_levels s t = join (map (λ l. compared_level l (sort by_number (level s l)) (sort by_number (level t l))) (up_from 0 (length s.files)))

-- the pointers that differ, of those that are set, by rising level
unfoldable pub compared_pointers : List Entry → List Entry → List Difference
compared_pointers es fs = compare (λ (e : Entry). e.level) (λ e f. same_bytes e.key f.key) (λ (e : Entry). pointer_is e.level none) (λ (e : Entry). pointer_is e.level (some e.key)) (λ (e : Entry). pointer_is e.level (some e.key)) es fs

-- ---- a level
-- a list lacks a number: no file of it has the number
lacks : (n : ℕ) (fs : List File) → not (has_number n fs) ≡ true ↔ ((f : File) → In f fs → f.number ≡ n → ⊥)
lacks n fs = (
  λ h f m e. clash (subst (λ (k : ℕ). has_number k fs ≡ true) e (number_there fs f m)) (not-true (has_number n fs) h),
  λ h. rw (fails (has_number n fs) (λ e. let w = number_of n fs e in h w.0 w.1 w.2)),
)

module _ (l : ℕ) (xs ys : List File) where
  -- what one walk calls for
  abbrev Called : Difference → Type 0
  Called d = CalledFor (λ (f : File). f.number) same_contents (λ (f : File). only_left l f.number) (only_right l) (changed l) xs ys d

  -- what differs, by the tests of each file
  abbrev tested : List Difference
  tested = only_lefts l xs ys ++ (only_rights l xs ys ++ changes l xs ys)

  -- what the walk calls for is found by the tests
  called_tested : (d : Difference) → Called d → In d tested
  unfolding only_lefts only_rights changes
  called_tested d (at_left f m n e) =
      let k = (keep_in (λ (f : File). not (has_number f.number ys)) xs f).1 (m, (lacks f.number ys).1 (λ g i q. n g i (sym q))) in
      subst (λ (d : Difference). In d tested) e (in_left (only_rights l xs ys ++ changes l xs ys) (in_map (λ (f : File). only_left l f.number) k))
  called_tested d (at_right g m n e) =
      let k = (keep_in (λ (g : File). not (has_number g.number xs)) ys g).1 (m, (lacks g.number xs).1 n) in
      subst (λ (d : Difference). In d tested) e (in_right (only_lefts l xs ys) (in_left (changes l xs ys) (in_map (only_right l) k)))
  called_tested d (at_both f g m n q s e) =
      let t = (differs_says f g).1 (q, λ i. clash (subst (λ (h : File). same_contents f h ≡ true) i (contents_own f)) s) in
      let k = (keep_in (λ (g : File). any (λ f. differs f g) xs) ys g).1 (n, in_any (λ f. differs f g) xs f m t) in
      subst (λ (d : Difference). In d tested) e (in_right (only_lefts l xs ys) (in_right (only_rights l xs ys) (in_map (changed l) k)))

  -- and the other way
  tested_called : (d : Difference) → In d tested → Called d
  unfolding only_lefts only_rights changes
  tested_called d m = go (append_cases (only_lefts l xs ys) m)
    where
      two : In d (only_rights l xs ys) ⊎ In d (changes l xs ys) → Called d
      two (inl k) =
          let w = of_map (only_right l) (keep (λ (g : File). not (has_number g.number xs)) ys) k in
          let r = (keep_in (λ (g : File). not (has_number g.number xs)) ys w.0).0 w.1 in
          at_right w.0 r.0 ((lacks w.0.number xs).0 r.1) w.2
      two (inr k) =
          let w = of_map (changed l) (keep (λ (g : File). any (λ f. differs f g) xs) ys) k in
          let r = (keep_in (λ (g : File). any (λ f. differs f g) xs) ys w.0).0 w.1 in
          let v = any_in (λ f. differs f w.0) xs r.1 in
          let s = (differs_says v.0 w.0).0 v.2 in
          at_both v.0 w.0 v.1 r.0 s.0 (fails (same_contents v.0 w.0) (λ h. s.1 (same_file_lem v.0 w.0 s.0 h))) w.2

      go : In d (only_lefts l xs ys) ⊎ In d (only_rights l xs ys ++ changes l xs ys) → Called d
      go (inl k) =
          let w = of_map (λ (f : File). only_left l f.number) (keep (λ (f : File). not (has_number f.number ys)) xs) k in
          let r = (keep_in (λ (f : File). not (has_number f.number ys)) xs w.0).0 w.1 in
          at_left w.0 r.0 (λ g i q. (lacks w.0.number ys).0 r.1 g i (sym q)) w.2
      go (inr k) = two (append_cases (only_rights l xs ys) k)

  -- so the walk over both lists, sorted, gives what differs
  pub compared_level_in : distinct (numbers xs) ≡ true → distinct (numbers ys) ≡ true → (d : Difference) → In d (compared_level l (sort by_number xs) (sort by_number ys)) ↔ In d tested
  unfolding compared_level by_number numbers
  compared_level_in c e d =
      let r = compare_sorted_in (λ (f : File). f.number) same_contents (λ (f : File). only_left l f.number) (only_right l) (changed l) xs ys c e d in
      (λ m. called_tested d (r.0 m), λ m. r.1 (tested_called d m))

  -- in order
  compared_level_ordered : distinct (numbers xs) ≡ true → distinct (numbers ys) ≡ true → chain earlier (compared_level l (sort by_number xs) (sort by_number ys)) ≡ true
  unfolding compared_level by_number numbers place
  compared_level_ordered c e =
      compare_ordered (λ (f : File). f.number) same_contents (λ (f : File). only_left l f.number) (only_right l) (changed l) earlier (λ n d. place d ≡ 0 ∷ l ∷ n ∷ []) (λ f. refl) (λ f. refl) (λ f. refl)
      (λ n m d e h a b. (earlier_files d e l n l m ((names_place l n d).1 a) ((names_place l m e).1 b)).1 (inr (refl, h)))
      (sort by_number xs) (sort by_number ys) (sort_rises (λ (f : File). f.number) xs (distinct_once (λ (f : File). f.number) xs c)) (sort_rises (λ (f : File). f.number) ys (distinct_once (λ (f : File). f.number) ys e))

-- ---- pointers
-- what is said of a pointer that only the left has set
abbrev unsets : Entry → Difference
unsets e = pointer_is e.level none

-- what is said of one that the right has set
abbrev sets : Entry → Difference
sets e = pointer_is e.level (some e.key)

-- one level: its pointers are compared, then those of the levels behind it
pointer_turn : (l : ℕ) (a b : Option Key) (ps qs : List (Option Key))
    → compared_pointers (entries l (a ∷ ps)) (entries l (b ∷ qs)) ≡ push (not (same_pointer a b)) (pointer_is l b) (compared_pointers (entries (suc l) ps) (entries (suc l) qs))
unfolding compared_pointers entries same_pointer push
pointer_turn l none none ps qs = refl
pointer_turn l none (some k) ps qs =
    compare_second (λ (e : Entry). e.level) (λ e f. same_bytes e.key f.key) unsets sets sets (record { level = l; key = k }) (entries (suc l) ps) (entries (suc l) qs) (λ e m. omega (arith, entries_from_lem (suc l) ps e m))
pointer_turn l (some j) none ps qs =
    compare_first (λ (e : Entry). e.level) (λ e f. same_bytes e.key f.key) unsets sets sets (record { level = l; key = j }) (entries (suc l) ps) (entries (suc l) qs) (λ e m. omega (arith, entries_from_lem (suc l) qs e m))
pointer_turn l (some j) (some k) ps qs =
    compare_both (λ (e : Entry). e.level) (λ e f. same_bytes e.key f.key) unsets sets sets (record { level = l; key = j }) (record { level = l; key = k }) (entries (suc l) ps) (entries (suc l) qs) refl

-- the pointers of n levels from l on
pointers_walked : (f g : ℕ → Option Key) (l n : ℕ) → compared_pointers (entries l (map f (up_from l n))) (entries l (map g (up_from l n))) ≡ map (λ i. pointer_is i (g i)) (keep (λ i. not (same_pointer (f i) (g i))) (up_from l n))
unfolding up_from keep entries compared_pointers compare
pointers_walked f g l zero = refl
pointers_walked f g l (suc n) =
    pointer_turn l (f l) (g l) (map f (up_from (suc l) n)) (map g (up_from (suc l) n))
    ∙ ap (push (not (same_pointer (f l) (g l))) (pointer_is l (g l))) (pointers_walked f g (suc l) n)
    ∙ push_map (λ i. pointer_is i (g i)) (not (same_pointer (f l) (g l))) l (keep (λ i. not (same_pointer (f i) (g i))) (up_from (suc l) n))

-- the pointers of a state are those of its levels
pointers_whole : (s : State) (n : ℕ) → length s.pointers ≡ n → map (pointer s) (up_from 0 n) ≡ s.pointers
unfolding pointer
pointers_whole s n e = rw (← e) (up_from_whole s.pointers none)

-- ---- sections
-- entries made of consecutive numbers that pass a test, where those of lower numbers are earlier
made_ordered : (mk : ℕ → Difference) (q : ℕ → Bool) (k n : ℕ) → ((i j : ℕ) → earlier (mk i) (mk j) ≡ ltb i j) → chain earlier (map mk (keep q (up_from k n))) ≡ true
made_ordered mk q k n h =
    chain_map mk earlier (keep q (up_from k n)) ∙ ap (λ (r : ℕ → ℕ → Bool). chain r (keep q (up_from k n))) (λ x i j. h i j x)
    ∙ sub_chain ltb (λ i. Unit {0}) (λ a b d g. nat_order.trans a b d) (λ i m. tt) (sub_keep q (up_from k n)) (up_from_rising k n)

-- an entry's section stands first in its place
in_section : (d : Difference) (k : ℕ) (ns : List ℕ) → place d ≡ k ∷ ns → section_of d ≡ k
in_section d k ns e =
    let w = section_place d in
    let q : section_of d ∷ w.0 ≡ k ∷ ns = sym w.1 ∙ e in
    cc

-- a list of entries of one section has that section only
section_one : (k j : ℕ) (ds : List Difference) → ((d : Difference) → In d ds → section_of d ≡ j) → section_at k ds ≡ cond (eqb j k) ds []
unfolding section_at
section_one k j ds h = go (eqb j k) refl
  where
    go : (t : Bool) → eqb j k ≡ t → keep (λ d. eqb (section_of d) k) ds ≡ cond t ds []
    go true e = keep_all (λ d. eqb (section_of d) k) ds (λ d m. rw (h d m) e)
    go false e = none_in (keep (λ d. eqb (section_of d) k) ds) (λ d m. let r = (keep_in (λ d. eqb (section_of d) k) ds d).0 m in clash (rw (h d r.0) at r.1) e)

-- a section of two lists joined
section_append : (k : ℕ) (ds es : List Difference) → section_at k (ds ++ es) ≡ section_at k ds ++ section_at k es
unfolding section_at
section_append k ds es = keep_append (λ d. eqb (section_of d) k) ds es

-- three lists, one of each section
module _ (a b c : List Difference) (h₀ : (d : Difference) → In d a → section_of d ≡ 0) (h₁ : (d : Difference) → In d b → section_of d ≡ 1) (h₂ : (d : Difference) → In d c → section_of d ≡ 2) where
  -- a section of them
  three_section : (k : ℕ) → section_at k (a ++ (b ++ c)) ≡ cond (eqb 0 k) a [] ++ (cond (eqb 1 k) b [] ++ cond (eqb 2 k) c [])
  three_section k = rw (section_append k a (b ++ c), section_append k b c, section_one k 0 a h₀, section_one k 1 b h₁, section_one k 2 c h₂)

  -- so each is written
  three_written : write_differences (a ++ (b ++ c)) ≡ section write_difference a ++ (section write_difference b ++ section write_difference c)
  unfolding write_differences
  three_written = rw (three_section 0 ∙ append-nil a, three_section 1 ∙ append-nil b, three_section 2)

-- pointers and counters
module _ (s t : State) where
  -- the pointers that differ are of the section of pointers
  pointers_section : (d : Difference) → In d (pointer_differences s t) → section_of d ≡ 1
  pointers_section d m = let w = pointer_place s t d m in in_section d 1 (w.0 ∷ []) w.1

  -- in order
  pointers_ordered : chain earlier (pointer_differences s t) ≡ true
  unfolding pointer_differences
  pointers_ordered = made_ordered (λ l. pointer_is l (pointer t l)) (λ l. not (same_pointer (pointer s l) (pointer t l))) 0 (length s.files) (λ l m. in_turn.pointers_by_level l m (pointer t l) (pointer t m))

  -- the counters that differ are of the section of counters
  counters_section_lem : (d : Difference) → In d (counter_differences s t) → section_of d ≡ 2
  counters_section_lem d m = let w = counter_place s t d m in in_section d 2 (w.0 ∷ []) w.1

  -- in order
  counters_ordered : chain earlier (counter_differences s t) ≡ true
  unfolding counter_differences
  counters_ordered = made_ordered (λ i. counter_is i (counter_at t i)) (λ i. not (eqb (counter_at s i) (counter_at t i))) 0 counter_count (λ i j. in_turn.counters_by_place i j (counter_at t i) (counter_at t j))

-- ---- the whole list
module _ (p : Profile) (s t : State) (ws : WF p s) (wt : WF p t) where
  -- a level, walked, has what differs there
  level_in_lem : (l : ℕ) (d : Difference) → In d (compared_level l (sort by_number (level s l)) (sort by_number (level t l))) ↔ In d (at_level s t l)
  unfolding at_level
  level_in_lem l d = compared_level_in l (level s l) (level t l) (numbers_once p s ws l) (numbers_once p t wt l) d

  -- all levels
  levels_in_lem : (d : Difference) → In d (compared_levels s t) ↔ In d (join (map (at_level s t) (up_from 0 (length s.files))))
  unfolding compared_levels
  levels_in_lem d =
      let ls = up_from 0 (length s.files) in
      let walked : ℕ → List Difference = λ l. compared_level l (sort by_number (level s l)) (sort by_number (level t l)) in (
        λ m. let w = of_join_map walked ls d m in in_join_map (at_level s t) ls w.0 d w.1 ((level_in_lem w.0 d).0 w.2),
        λ m. let w = of_join_map (at_level s t) ls d m in in_join_map walked ls w.0 d w.1 ((level_in_lem w.0 d).1 w.2),
      )

  -- in order
  levels_ordered : chain earlier (compared_levels s t) ≡ true
  unfolding compared_levels
  levels_ordered =
      strict_join ltb earlier nat_order earlier_order (λ l. compared_level l (sort by_number (level s l)) (sort by_number (level t l))) (up_from 0 (length s.files)) (up_from_rising 0 (length s.files))
      (λ l. compared_level_ordered l (level s l) (level t l) (numbers_once p s ws l) (numbers_once p t wt l))
      (λ l m d e h i j.
      let v = level_place s t l d ((level_in_lem l d).0 i) in
      let w = level_place s t m e ((level_in_lem m e).0 j) in
      (earlier_files d e l v.0 m w.0 ((names_place l v.0 d).1 v.1) ((names_place m w.0 e).1 w.1)).1 (inl (ltb-true l m h)))

  -- and of the section of files
  levels_section : (d : Difference) → In d (compared_levels s t) → section_of d ≡ 0
  levels_section d m =
      let w = of_join_map (at_level s t) (up_from 0 (length s.files)) d ((levels_in_lem d).0 m) in
      let v = level_place s t w.0 d w.2 in
      in_section d 0 (w.0 ∷ v.0 ∷ []) v.1

  -- the pointers, walked, are those that differ
  pub pointers_compared : compared_pointers (entries 0 s.pointers) (entries 0 t.pointers) ≡ pointer_differences s t
  unfolding pointer_differences
  pointers_compared =
      let n = length s.files in
      let a = pointers_whole s n (ws.pointer_levels ∙ sym ws.levels) in
      let b = pointers_whole t n (wt.pointer_levels ∙ sym ws.levels) in
      ap (λ (ps : List (Option Key)). compared_pointers (entries 0 ps) (entries 0 t.pointers)) (sym a) ∙ ap (λ (qs : List (Option Key)). compared_pointers (entries 0 (map (pointer s) (up_from 0 n))) (entries 0 qs)) (sym b)
      ∙ pointers_walked (pointer s) (pointer t) 0 n

  -- the list, with the pointers level by level
  by_parts : differences s t ≡ compared_levels s t ++ (pointer_differences s t ++ counter_differences s t)
  unfolding differences unordered
  by_parts =
      let cs = compared_levels s t in
      let js = join (map (at_level s t) (up_from 0 (length s.files))) in
      let rest = pointer_differences s t ++ counter_differences s t in
      strict_one earlier earlier_order (differences s t) (cs ++ rest) (differences_ordered p s t ws wt)
      (three_ordered cs (pointer_differences s t) (counter_differences s t) levels_section (pointers_section s t) (counters_section_lem s t) levels_ordered (pointers_ordered s t) (counters_ordered s t))
      (λ d m. traded js cs rest (λ e. (levels_in_lem e).1) d ((sort_in earlier (unordered s t) d).0 m)) (λ d m. (sort_in earlier (unordered s t) d).1 (traded cs js rest (λ e. (levels_in_lem e).0) d m))
    where
      traded : (xs ys zs : List Difference) → ((d : Difference) → In d xs → In d ys) → (d : Difference) → In d (xs ++ zs) → In d (ys ++ zs)
      traded xs ys zs h d m = go (append_cases xs m)
        where
          go : In d xs ⊎ In d zs → In d (ys ++ zs)
          go (inl k) = in_left zs (h d k)
          go (inr k) = in_right ys k

  -- the list is that of one walk: the levels, the pointers that are set, the counters
  pub differences_compared : differences s t ≡ compared_levels s t ++ (compared_pointers (entries 0 s.pointers) (entries 0 t.pointers) ++ counter_differences s t)
  differences_compared = rw pointers_compared by_parts

  -- and each of the three is written as a section
  pub written_compared : write_differences (differences s t)
      ≡ section write_difference (compared_levels s t) ++ (section write_difference (compared_pointers (entries 0 s.pointers) (entries 0 t.pointers)) ++ section write_difference (counter_differences s t))
  written_compared = rw (pointers_compared, by_parts) (three_written (compared_levels s t) (pointer_differences s t) (counter_differences s t) levels_section (pointers_section s t) (counters_section_lem s t))
