-- What is in the list of differences: exactly the entries that the two states call for. Assumes nothing.
use Rattle.std.specs.Prelude.{ℕ, ◌+◌, ◌<◌, ◌≤◌, ◌≡◌, refl, ◌↔◌, ◌⊎◌, Bool, true, ◌&&◌, ltb}
use Rattle.std.proofs.Math.Path.{ap, subst}
use Rattle.std.proofs.Common.{sym, ◌∙◌, inl, inr, ext_get_or}
use Rattle.std.proofs.Math.Bool.{false, not}
use mathlib.Core.List.Memᴰ.{append_cases}
use mathlib.Core.List.Memᴰ.{append_left as in_left}
use mathlib.Core.List.Memᴰ.{append_right as in_right}
use mathlib.Core.List.Memᴰ.{map as in_map}
use mathlib.Core.List.Memᴰ.{not-nil}
use mathlib.Core.List.Memᴰ.{of_map}
use mathlib.Core.List.{List, [], ◌++◌, map, Memᴰ as In}
use Rattle.std.proofs.Math.Option.{Option, none, some}
use borrow.Author.Tests.{eqb-true, eqb-false, eq-eqb, ne_eqb, ltb-true, ltb-false, not-true}
use Rattle.std.proofs.Math.Dec.{eqb}
use Rattle.std.proofs.Math.ListN.{length, get_or-eq_default}
use native.Mathlib.Omega.{arith}
use Rattle.lemmas.specs.Order.{clash}
use Rattle.lemmas.specs.Lists.{keep, any, join, up_from, distinct}
use Rattle.lemmas.specs.ListLaws.{and_left, and_right, both, any_in, keep_in, sort_in, up_from_in}
use Rattle.lemmas.specs.Maps.{of_join_map}
use Rattle.lemmas.specs.Once.{in_any, in_join_map}
use Rattle.model.specs.Key.{Key}
use Rattle.model.specs.File.{Profile, File, State, level, pointer, numbers}
use Rattle.model.specs.Snapshot.{five_of, same_bytes, counter_count}
use Rattle.model.proofs.Formed.{WF, distinct_level}
use Rattle.model.proofs.Reading.{same_eq, eq_same}
use Rattle.model.specs.Difference.{Difference, only_left, only_right, changed, pointer_is, counter_is, earlier, has_number, same_contents, differs, same_pointer, counter_at, only_lefts, only_rights, changes, at_level, pointer_differences, counter_differences, unordered, differences, Listed}

-- ---- what the tests say
-- a file of the list: the list has its number
pub number_there : (fs : List File) (f : File) → In f fs → has_number f.number fs ≡ true
unfolding has_number
number_there fs f m = in_any (λ g. eqb g.number f.number) fs f m (eq-eqb f.number f.number refl)

-- the list has the number: of some file
pub number_of : (n : ℕ) (fs : List File) → has_number n fs ≡ true → (f : File) × In f fs × (f.number ≡ n)
unfolding has_number
number_of n fs h = let w = any_in (λ g. eqb g.number n) fs h in (w.0, w.1, eqb-true w.0.number n w.2)

-- the same number, size and keys: the same file
pub same_file_lem : (f g : File) → f.number ≡ g.number → same_contents f g ≡ true → f ≡ g
unfolding same_contents
same_file_lem f g n h =
    let a = eqb f.size g.size in
    let b = same_bytes f.smallest g.smallest in
    let c = same_bytes f.largest g.largest in
    let ab = and_left (a && b) c h in
    let z = eqb-true f.size g.size (and_left a b ab) in
    let x = same_eq f.smallest g.smallest (and_right a b ab) in
    let y = same_eq f.largest g.largest (and_right (a && b) c h) in
    λ i. record { number = n i; size = z i; smallest = x i; largest = y i }

-- a file has its own contents
pub contents_own : (f : File) → same_contents f f ≡ true
unfolding same_contents
contents_own f = both (eqb f.size f.size && same_bytes f.smallest f.smallest) (same_bytes f.largest f.largest)
    (both (eqb f.size f.size) (same_bytes f.smallest f.smallest) (eq-eqb f.size f.size refl) (eq_same f.smallest)) (eq_same f.largest)

-- one number, and not one file
pub differs_says : (f g : File) → differs f g ≡ true ↔ ((f.number ≡ g.number) × (f ≡ g → ⊥))
unfolding differs
differs_says f g = (
  λ h. (
    eqb-true f.number g.number (and_left (eqb f.number g.number) (not (same_contents f g)) h),
    λ e. clash (subst (λ (x : File). same_contents f x ≡ true) e (contents_own f)) (not-true (same_contents f g) (and_right (eqb f.number g.number) (not (same_contents f g)) h)),
  ),
  λ w. both (eqb f.number g.number) (not (same_contents f g)) (eq-eqb f.number g.number w.0) (go w (same_contents f g) refl),
)
  where
    go : (f.number ≡ g.number) × (f ≡ g → ⊥) → (t : Bool) → same_contents f g ≡ t → not (same_contents f g) ≡ true
    go w false e = rw e
    go w true e = absurd (w.1 (same_file_lem f g w.0 e))

-- one pointer
pub pointer_says : (a b : Option Key) → same_pointer a b ≡ true ↔ (a ≡ b)
unfolding same_pointer
pointer_says none none = (λ h. refl, λ e. refl)
pointer_says none (some k) = (λ h. clash h refl, λ e. let z : true ≡ false = cc in clash refl z)
pointer_says (some j) none = (λ h. clash h refl, λ e. let z : true ≡ false = cc in clash refl z)
pointer_says (some j) (some k) = (λ h. ap (λ (x : Key). some x) (same_eq j k h), λ e. let q : j ≡ k = cc in rw q (eq_same k))

-- ---- what is listed
-- a test that fails
pub fails : (b : Bool) → (b ≡ true → ⊥) → b ≡ false
fails false h = refl
fails true h = absurd (h refl)

-- what only the left has
module _ (s t : State) (l : ℕ) where
  -- an entry of it is called for
  left_listed : (d : Difference) → In d (only_lefts l (level s l) (level t l)) → Listed s t d
  unfolding only_lefts Listed
  left_listed d m =
      let w = of_map (λ (f : File). only_left l f.number) (keep (λ (f : File). not (has_number f.number (level t l))) (level s l)) m in
      let k = (keep_in (λ (f : File). not (has_number f.number (level t l))) (level s l) w.0).0 w.1 in
      subst (λ (d : Difference). Listed s t d) w.2 (number_there (level s l) w.0 k.0, not-true (has_number w.0.number (level t l)) k.1)

  -- what only the right has
  right_listed : (d : Difference) → In d (only_rights l (level s l) (level t l)) → Listed s t d
  unfolding only_rights Listed
  right_listed d m =
      let w = of_map (only_right l) (keep (λ (g : File). not (has_number g.number (level s l))) (level t l)) m in
      let k = (keep_in (λ (g : File). not (has_number g.number (level s l))) (level t l) w.0).0 w.1 in
      subst (λ (d : Difference). Listed s t d) w.2 (k.0, not-true (has_number w.0.number (level s l)) k.1)

  -- what is changed
  changed_listed : (d : Difference) → In d (changes l (level s l) (level t l)) → Listed s t d
  unfolding changes Listed
  changed_listed d m =
      let w = of_map (changed l) (keep (λ (g : File). any (λ f. differs f g) (level s l)) (level t l)) m in
      let k = (keep_in (λ (g : File). any (λ f. differs f g) (level s l)) (level t l) w.0).0 w.1 in
      let v = any_in (λ f. differs f w.0) (level s l) k.1 in
      let r = (differs_says v.0 w.0).0 v.2 in
      subst (λ (d : Difference). Listed s t d) w.2 (k.0, (v.0, v.1, r.0, r.1))

  -- a whole level
  level_listed : (d : Difference) → In d (at_level s t l) → Listed s t d
  unfolding at_level
  level_listed d m = go (append_cases (only_lefts l (level s l) (level t l)) m)
    where
      two : In d (only_rights l (level s l) (level t l)) ⊎ In d (changes l (level s l) (level t l)) → Listed s t d
      two (inl k) = right_listed d k
      two (inr k) = changed_listed d k

      go : In d (only_lefts l (level s l) (level t l)) ⊎ In d (only_rights l (level s l) (level t l) ++ changes l (level s l) (level t l)) → Listed s t d
      go (inl k) = left_listed d k
      go (inr k) = two (append_cases (only_rights l (level s l) (level t l)) k)

-- pointers and counters
module _ (s t : State) where
  -- a pointer that differs
  pointer_listed : (d : Difference) → In d (pointer_differences s t) → Listed s t d
  unfolding pointer_differences Listed
  pointer_listed d m =
      let w = of_map (λ (l : ℕ). pointer_is l (pointer t l)) (keep (λ l. not (same_pointer (pointer s l) (pointer t l))) (up_from 0 (length s.files))) m in
      let k = (keep_in (λ l. not (same_pointer (pointer s l) (pointer t l))) (up_from 0 (length s.files)) w.0).0 w.1 in
      subst (λ (d : Difference). Listed s t d) w.2 (refl, λ e. clash ((pointer_says (pointer s w.0) (pointer t w.0)).1 e) (not-true (same_pointer (pointer s w.0) (pointer t w.0)) k.1))

  -- a counter that differs
  counter_listed : (d : Difference) → In d (counter_differences s t) → Listed s t d
  unfolding counter_differences Listed
  counter_listed d m =
      let w = of_map (λ (i : ℕ). counter_is i (counter_at t i)) (keep (λ i. not (eqb (counter_at s i) (counter_at t i))) (up_from 0 counter_count)) m in
      let k = (keep_in (λ i. not (eqb (counter_at s i) (counter_at t i))) (up_from 0 counter_count) w.0).0 w.1 in
      subst (λ (d : Difference). Listed s t d) w.2 (refl, eqb-false (counter_at s w.0) (counter_at t w.0) (not-true (eqb (counter_at s w.0) (counter_at t w.0)) k.1))

  -- whatever the list has is called for
  pub listed_sound : (d : Difference) → In d (differences s t) → Listed s t d
  unfolding differences unordered
  listed_sound d m = go (append_cases (join (map (at_level s t) (up_from 0 (length s.files)))) ((sort_in earlier (unordered s t) d).0 m))
    where
      two : In d (pointer_differences s t) ⊎ In d (counter_differences s t) → Listed s t d
      two (inl k) = pointer_listed d k
      two (inr k) = counter_listed d k

      go : In d (join (map (at_level s t) (up_from 0 (length s.files)))) ⊎ In d (pointer_differences s t ++ counter_differences s t) → Listed s t d
      go (inl k) = let w = of_join_map (at_level s t) (up_from 0 (length s.files)) d k in level_listed s t w.0 d w.2
      go (inr k) = two (append_cases (pointer_differences s t) k)

-- a level that has a file is one of the levels
pub within : (s : State) (l : ℕ) (f : File) → In f (level s l) → l < length s.files
unfolding level
within s l f m = go (ltb l (length s.files)) refl
  where
    go : (b : Bool) → ltb l (length s.files) ≡ b → l < length s.files
    go true e = ltb-true l (length s.files) e
    go false e = absurd (not-nil (subst (λ (fs : List File). In f fs) (get_or-eq_default s.files [] (ltb-false l (length s.files) e)) m))

-- no number stands twice at a level
pub numbers_once : (p : Profile) (s : State) → WF p s → (l : ℕ) → distinct (numbers (level s l)) ≡ true
unfolding level
numbers_once p s w l = distinct_level s.files l w.distinct_numbers

-- the pointers of each level are the pointers
pub pointers_by_level : (s t : State) → length s.pointers ≡ length t.pointers → ((l : ℕ) → pointer s l ≡ pointer t l) → s.pointers ≡ t.pointers
unfolding pointer
pointers_by_level s t n h = ext_get_or none s.pointers t.pointers n (λ l i. h l)

-- the counters at each place are the counters
pub counters_by_place : (s t : State) → ((i : ℕ) → counter_at s i ≡ counter_at t i) → s.counters ≡ t.counters
unfolding counter_at five_of
counters_by_place s t h = λ i. record { next = h 0 i; manifest = h 1 i; last = h 2 i; log = h 3 i; previous = h 4 i }

-- past the levels there is no pointer
pointer_past : (p : Profile) (s : State) → WF p s → (l : ℕ) → p.levels ≤ l → pointer s l ≡ none
unfolding pointer
pointer_past p s w l h = get_or-eq_default s.pointers none (omega (arith, w.pointer_levels))

-- past the five there is no counter
counter_past : (s : State) (i : ℕ) → 5 ≤ i → counter_at s i ≡ 0
unfolding counter_at five_of
counter_past s i h = get_or-eq_default (five_of s.counters) 0 h

module _ (p : Profile) (s t : State) (ws : WF p s) (wt : WF p t) where
  -- a pointer that differs is of one of the levels
  pub pointer_inside : (l : ℕ) → (pointer s l ≡ pointer t l → ⊥) → l < p.levels
  pointer_inside l h = go (ltb l p.levels) refl
    where
      go : (b : Bool) → ltb l p.levels ≡ b → l < p.levels
      go true e = ltb-true l p.levels e
      go false e = let k = ltb-false l p.levels e in absurd (h (pointer_past p s ws l k ∙ sym (pointer_past p t wt l k)))

  -- a counter that differs is one of the five
  pub counter_inside : (i : ℕ) → (counter_at s i ≡ counter_at t i → ⊥) → i < 5
  counter_inside i h = go (ltb i counter_count) refl
    where
      go : (b : Bool) → ltb i counter_count ≡ b → i < 5
      go true e = ltb-true i 5 e
      go false e = let k = ltb-false i 5 e in absurd (h (counter_past s i k ∙ sym (counter_past t i k)))

  -- an entry at a level of the list
  level_complete : (l : ℕ) (d : Difference) → l < length s.files → In d (at_level s t l) → In d (differences s t)
  unfolding differences unordered
  level_complete l d h m =
      (sort_in earlier (unordered s t) d).1 (in_left (pointer_differences s t ++ counter_differences s t)
      (in_join_map (at_level s t) (up_from 0 (length s.files)) l d ((up_from_in 0 (length s.files) l).1 (omega arith, omega arith)) m))

  -- whatever is called for is in the list
  pub listed_complete : (d : Difference) → Listed s t d → In d (differences s t)
  unfolding Listed differences unordered at_level only_lefts only_rights changes pointer_differences counter_differences
  listed_complete (only_left l n) h =
      let w = number_of n (level s l) h.0 in
      let q : has_number w.0.number (level t l) ≡ false = rw w.2 h.1 in
      let k = (keep_in (λ (f : File). not (has_number f.number (level t l))) (level s l) w.0).1 (w.1, rw q) in
      let e : only_left l w.0.number ≡ only_left l n = ap (only_left l) w.2 in
      subst (λ (d : Difference). In d (differences s t)) e (level_complete l (only_left l w.0.number) (within s l w.0 w.1)
      (in_left (only_rights l (level s l) (level t l) ++ changes l (level s l) (level t l)) (in_map (λ (f : File). only_left l f.number) k)))
  listed_complete (only_right l g) h =
      let k = (keep_in (λ (g : File). not (has_number g.number (level s l))) (level t l) g).1 (h.0, rw h.1) in
      level_complete l (only_right l g) (omega (arith, within t l g h.0, ws.levels, wt.levels))
      (in_right (only_lefts l (level s l) (level t l)) (in_left (changes l (level s l) (level t l)) (in_map (only_right l) k)))
  listed_complete (changed l g) h =
      let w = h.1 in
      let a = in_any (λ f. differs f g) (level s l) w.0 w.1 ((differs_says w.0 g).1 (w.2, w.3)) in
      let k = (keep_in (λ (g : File). any (λ f. differs f g) (level s l)) (level t l) g).1 (h.0, a) in
      level_complete l (changed l g) (within s l w.0 w.1)
      (in_right (only_lefts l (level s l) (level t l)) (in_right (only_rights l (level s l) (level t l)) (in_map (changed l) k)))
  listed_complete (pointer_is l o) h =
      let q : same_pointer (pointer s l) (pointer t l) ≡ false = fails (same_pointer (pointer s l) (pointer t l)) (λ e. h.1 ((pointer_says (pointer s l) (pointer t l)).0 e)) in
      let k = (keep_in (λ l. not (same_pointer (pointer s l) (pointer t l))) (up_from 0 (length s.files)) l).1 ((up_from_in 0 (length s.files) l).1 (omega arith, inside), rw q) in
      let e : pointer_is l (pointer t l) ≡ pointer_is l o = ap (pointer_is l) (sym h.0) in
      subst (λ (d : Difference). In d (differences s t)) e ((sort_in earlier (unordered s t) (pointer_is l (pointer t l))).1
      (in_right (join (map (at_level s t) (up_from 0 (length s.files)))) (in_left (counter_differences s t) (in_map (λ (l : ℕ). pointer_is l (pointer t l)) k))))
    where
      inside : l < 0 + length s.files
      inside = omega (arith, pointer_inside l h.1, ws.levels)
  listed_complete (counter_is i v) h =
      let q : eqb (counter_at s i) (counter_at t i) ≡ false = ne_eqb (counter_at s i) (counter_at t i) h.1 in
      let k = (keep_in (λ i. not (eqb (counter_at s i) (counter_at t i))) (up_from 0 counter_count) i).1 ((up_from_in 0 5 i).1 (omega arith, inside), rw q) in
      let e : counter_is i (counter_at t i) ≡ counter_is i v = ap (counter_is i) (sym h.0) in
      subst (λ (d : Difference). In d (differences s t)) e ((sort_in earlier (unordered s t) (counter_is i (counter_at t i))).1
      (in_right (join (map (at_level s t) (up_from 0 (length s.files)))) (in_right (pointer_differences s t) (in_map (λ (i : ℕ). counter_is i (counter_at t i)) k))))
    where
      inside : i < 0 + 5
      inside = counter_inside i h.1

-- an entry is in the list exactly where the states call for it
pub listed : (p : Profile) (s t : State) → WF p s → WF p t → (d : Difference) → In d (differences s t) ↔ Listed s t d
listed p s t ws wt d = (listed_sound s t d, listed_complete p s t ws wt d)
