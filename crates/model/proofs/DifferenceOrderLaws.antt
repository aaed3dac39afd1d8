-- The order of the list of differences, and that it and what is listed determine the list. Assumes nothing.
use Rattle.std.specs.Prelude.{ℕ, zero, suc, ◌<◌, ◌≡◌, refl, ◌↔◌, ◌⊎◌, Bool, true, false, ◌&&◌, ◌||◌, eqb, ltb, length, get_or}
use Rattle.std.proofs.Math.Path.{ap, sym}
use Rattle.std.proofs.Common.{◌∙◌, subst, inl, inr, eqb-true, eq-eqb, ltb-true, ltb-false, lt-ltb, le-ltb, arith}
use Rattle.std.proofs.Math.Bool.{not}
use mathlib.Core.List.Memᴰ.{append_cases}
use mathlib.Core.List.Memᴰ.{not-nil}
use mathlib.Core.List.Memᴰ.{of_map}
use mathlib.Core.List.{List, [], ◌∷◌, ◌++◌, map, Memᴰ as In}
use Rattle.std.proofs.Math.Option.{Option}
use Rattle.std.proofs.lemmas.Bool.{not-true}
use Rattle.lemmas.specs.Order.{by_first, lexb, StrictWeak, clash, lex_order, lex_same, on_order}
use Rattle.lemmas.specs.Lists.{keep, any, sort, chain, join, up_from, distinct}
use Rattle.lemmas.specs.ListLaws.{and_left, and_right, both, any_in, keep_in, sort_chain, join_in}
use Rattle.lemmas.specs.Maps.{of_join_map}
use Rattle.lemmas.specs.Once.{Once, once_keep, once_append, once_finer, once_map, once_join, once_up_from, once_distinct, distinct_once, once_sort, once_strict, strict_one, once_parts, once_later}
use Rattle.model.specs.Snapshot.{counter_count}
use Rattle.model.specs.Key.{Key}
use Rattle.model.specs.File.{Profile, File, State, level, pointer, numbers}
use Rattle.model.proofs.Formed.{WF, distinct_level}
use Rattle.model.specs.Difference.{Difference, only_left, only_right, changed, pointer_is, counter_is, place, earlier, names, has_number, differs, same_pointer, counter_at, only_lefts, only_rights, changes, at_level, pointer_differences, counter_differences, unordered, differences, Listed}
use Rattle.model.proofs.DifferenceListedLaws.{number_there, number_of, differs_says, fails, listed_sound, listed_complete}

-- ---- the order
-- the order of entries is a strict weak order
pub earlier_order : StrictWeak earlier
unfolding earlier
earlier_order = on_order lexb place lex_order

-- neither earlier than the other: one place
pub earlier_same : (d e : Difference) → earlier d e ≡ false → earlier e d ≡ false → place d ≡ place e
unfolding earlier
earlier_same d e h k = lex_same (place d) (place e) h k

-- one place: neither earlier
pub place_same : (d e : Difference) → place d ≡ place e → earlier d e ≡ false
unfolding earlier
place_same d e q = rw q (lex_order.irrefl (place e))

-- an entry of files stands at its level
pub level_place : (s t : State) (l : ℕ) (d : Difference) → In d (at_level s t l) → (n : ℕ) × (place d ≡ 0 ∷ l ∷ n ∷ [])
unfolding at_level only_lefts only_rights changes place
level_place s t l d m = go (append_cases (only_lefts l (level s l) (level t l)) m)
  where
    two : In d (only_rights l (level s l) (level t l)) ⊎ In d (changes l (level s l) (level t l)) → (n : ℕ) × (place d ≡ 0 ∷ l ∷ n ∷ [])
    two (inl k) = let w = of_map (only_right l) (keep (λ (g : File). not (has_number g.number (level s l))) (level t l)) k in (w.0.number, ap place (sym w.2))
    two (inr k) = let w = of_map (changed l) (keep (λ (g : File). any (λ f. differs f g) (level s l)) (level t l)) k in (w.0.number, ap place (sym w.2))

    go : In d (only_lefts l (level s l) (level t l)) ⊎ In d (only_rights l (level s l) (level t l) ++ changes l (level s l) (level t l)) → (n : ℕ) × (place d ≡ 0 ∷ l ∷ n ∷ [])
    go (inl k) = let w = of_map (λ (f : File). only_left l f.number) (keep (λ (f : File). not (has_number f.number (level t l))) (level s l)) k in (w.0.number, ap place (sym w.2))
    go (inr k) = two (append_cases (only_rights l (level s l) (level t l)) k)

-- an entry of pointers
pub pointer_place : (s t : State) (d : Difference) → In d (pointer_differences s t) → (l : ℕ) × (place d ≡ 1 ∷ l ∷ [])
unfolding pointer_differences place
pointer_place s t d m = let w = of_map (λ (l : ℕ). pointer_is l (pointer t l)) (keep (λ l. not (same_pointer (pointer s l) (pointer t l))) (up_from 0 (length s.files))) m in (w.0, ap place (sym w.2))

-- an entry of counters
pub counter_place : (s t : State) (d : Difference) → In d (counter_differences s t) → (i : ℕ) × (place d ≡ 2 ∷ i ∷ [])
unfolding counter_differences place
counter_place s t d m = let w = of_map (λ (i : ℕ). counter_is i (counter_at t i)) (keep (λ i. not (eqb (counter_at s i) (counter_at t i))) (up_from 0 counter_count)) m in (w.0, ap place (sym w.2))

-- one place of files: one level and one number
pub files_place : (l m n k : ℕ) → ◌≡◌ {A = List ℕ} (0 ∷ l ∷ n ∷ []) (0 ∷ m ∷ k ∷ []) → (l ≡ m) × (n ≡ k)
files_place l m n k e = (cc, cc)

-- a level and a number tested
named : (l n m k : ℕ) → (eqb m l && eqb k n) ≡ true ↔ (◌≡◌ {A = List ℕ} (0 ∷ m ∷ k ∷ []) (0 ∷ l ∷ n ∷ []))
named l n m k = (
  λ h. let a : m ≡ l = eqb-true m l (and_left (eqb m l) (eqb k n) h) in let b : k ≡ n = eqb-true k n (and_right (eqb m l) (eqb k n) h) in cc,
  λ e. let r = files_place m l k n e in both (eqb m l) (eqb k n) (eq-eqb m l r.0) (eq-eqb k n r.1),
)

-- what an entry names: its place
pub names_place : (l n : ℕ) (d : Difference) → names l n d ≡ true ↔ (place d ≡ 0 ∷ l ∷ n ∷ [])
unfolding names place
names_place l n (only_left m k) = named l n m k
names_place l n (only_right m f) = named l n m f.number
names_place l n (changed m f) = named l n m f.number
names_place l n (pointer_is m o) = (λ h. clash h refl, λ e. let z : ◌≡◌ {A = ℕ} 1 0 = cc in absurd (omega arith))
names_place l n (counter_is i v) = (λ h. clash h refl, λ e. let z : ◌≡◌ {A = ℕ} 2 0 = cc in absurd (omega arith))

-- ---- what the order says
-- by level and then number
pair_order : (l n m k : ℕ) → lexb (0 ∷ l ∷ n ∷ []) (0 ∷ m ∷ k ∷ []) ≡ true ↔ ((l < m) ⊎ ((l ≡ m) × (n < k)))
unfolding lexb by_first
pair_order l n m k = (λ h. from (ltb l m) (ltb m l) (ltb n k) refl refl refl h, λ w. to w)
  where
    to : (l < m) ⊎ ((l ≡ m) × (n < k)) → (ltb l m || (not (ltb m l) && (ltb n k || (not (ltb k n) && false)))) ≡ true
    to (inl q) = rw (lt-ltb l m q)
    to (inr q) =
        let a : ltb l m ≡ false = le-ltb l m (omega (arith, q.0)) in
        let b : ltb m l ≡ false = le-ltb m l (omega (arith, q.0)) in
        rw (a, b, lt-ltb n k q.1)

    from : (a b c : Bool) → ltb l m ≡ a → ltb m l ≡ b → ltb n k ≡ c → (ltb l m || (not (ltb m l) && (ltb n k || (not (ltb k n) && false)))) ≡ true → (l < m) ⊎ ((l ≡ m) × (n < k))
    from true b c e f g h = inl (ltb-true l m e)
    from false true c e f g h = let z : false ≡ true = rw (e, f) at h in clash z refl
    from false false true e f g h = inr (omega (arith, ltb-false l m e, ltb-false m l f), ltb-true n k g)
    from false false false e f g h = let z : (not (ltb k n) && false) ≡ true = rw (e, f, g) at h in clash (and_right (not (ltb k n)) false z) refl

-- entries of files stand by level and then number
pub earlier_files : (d e : Difference) (l n m k : ℕ) → names l n d ≡ true → names m k e ≡ true → earlier d e ≡ true ↔ ((l < m) ⊎ ((l ≡ m) × (n < k)))
unfolding earlier
earlier_files d e l n m k a b =
    let p : place d ≡ 0 ∷ l ∷ n ∷ [] = (names_place l n d).0 a in
    let q : place e ≡ 0 ∷ m ∷ k ∷ [] = (names_place m k e).0 b in
    subst (λ (x : List ℕ). lexb x (place e) ≡ true ↔ ((l < m) ⊎ ((l ≡ m) × (n < k)))) (sym p)
    (subst (λ (y : List ℕ). lexb (0 ∷ l ∷ n ∷ []) y ≡ true ↔ ((l < m) ⊎ ((l ≡ m) × (n < k)))) (sym q) (pair_order l n m k))

-- every entry of files, pointers and counters in this order; pointers by level, counters by place
pub record InTurn : Type 0 where
  pub files_pointers : (d : Difference) (l n m : ℕ) (o : Option Key) → names l n d ≡ true → earlier d (pointer_is m o) ≡ true
  pub files_counters : (d : Difference) (l n i v : ℕ) → names l n d ≡ true → earlier d (counter_is i v) ≡ true
  pub pointers_counters : (l i v : ℕ) (o : Option Key) → earlier (pointer_is l o) (counter_is i v) ≡ true
  pub pointers_by_level : (l m : ℕ) (o q : Option Key) → earlier (pointer_is l o) (pointer_is m q) ≡ ltb l m
  pub counters_by_place : (i j v w : ℕ) → earlier (counter_is i v) (counter_is j w) ≡ ltb i j

-- the first of two lists of one number
single : (a b : ℕ) → (ltb a b || (not (ltb b a) && false)) ≡ ltb a b
single a b = go (ltb a b) (ltb b a)
  where
    go : (x y : Bool) → (x || (not y && false)) ≡ x
    go true y = refl
    go false true = refl
    go false false = refl

-- so it is
pub in_turn : InTurn
unfolding earlier place lexb by_first
in_turn = record {
  files_pointers = λ d l n m o a. rw ((names_place l n d).0 a);
  files_counters = λ d l n i v a. rw ((names_place l n d).0 a);
  pointers_counters = λ l i v o. refl;
  pointers_by_level = λ l m o q. single l m;
  counters_by_place = λ i j v w. single i j;
}

-- ---- no place stands twice
-- at a level no place stands twice, where no number does
module _ (l : ℕ) (xs ys : List File) (dx : distinct (numbers xs) ≡ true) (dy : distinct (numbers ys) ≡ true) where
  -- those that only the left has
  lefts_once : Once place (only_lefts l xs ys)
  unfolding only_lefts place numbers
  lefts_once =
      once_map place (λ (f : File). only_left l f.number) (keep (λ (f : File). not (has_number f.number ys)) xs)
      (once_finer (λ (f : File). f.number) (λ (f : File). 0 ∷ l ∷ f.number ∷ []) (keep (λ (f : File). not (has_number f.number ys)) xs) (λ f g q. (files_place l l f.number g.number q).1)
      (once_keep (λ (f : File). f.number) (λ (f : File). not (has_number f.number ys)) xs (distinct_once (λ (f : File). f.number) xs dx)))

  -- those that only the right has
  rights_once : Once place (only_rights l xs ys)
  unfolding only_rights place numbers
  rights_once =
      once_map place (only_right l) (keep (λ (f : File). not (has_number f.number xs)) ys)
      (once_finer (λ (f : File). f.number) (λ (f : File). 0 ∷ l ∷ f.number ∷ []) (keep (λ (f : File). not (has_number f.number xs)) ys) (λ f g q. (files_place l l f.number g.number q).1)
      (once_keep (λ (f : File). f.number) (λ (f : File). not (has_number f.number xs)) ys (distinct_once (λ (f : File). f.number) ys dy)))

  -- those that are changed
  changes_once : Once place (changes l xs ys)
  unfolding changes place numbers
  changes_once =
      once_map place (changed l) (keep (λ (g : File). any (λ f. differs f g) xs) ys)
      (once_finer (λ (f : File). f.number) (λ (f : File). 0 ∷ l ∷ f.number ∷ []) (keep (λ (g : File). any (λ f. differs f g) xs) ys) (λ f g q. (files_place l l f.number g.number q).1)
      (once_keep (λ (f : File). f.number) (λ (g : File). any (λ f. differs f g) xs) ys (distinct_once (λ (f : File). f.number) ys dy)))

  -- one that only the right has, and one that both have
  rights_apart : (d e : Difference) → In d (only_rights l xs ys) → In e (changes l xs ys) → place d ≡ place e → ⊥
  unfolding only_rights changes place
  rights_apart d e m k q =
      let v = of_map (only_right l) (keep (λ (f : File). not (has_number f.number xs)) ys) m in
      let w = of_map (changed l) (keep (λ (g : File). any (λ f. differs f g) xs) ys) k in
      let a = (keep_in (λ (f : File). not (has_number f.number xs)) ys v.0).0 v.1 in
      let b = (keep_in (λ (g : File). any (λ f. differs f g) xs) ys w.0).0 w.1 in
      let n : v.0.number ≡ w.0.number = (files_place l l v.0.number w.0.number (ap place v.2 ∙ q ∙ ap place (sym w.2))).1 in
      let c = any_in (λ f. differs f w.0) xs b.1 in
      let u : c.0.number ≡ v.0.number = ((differs_says c.0 w.0).0 c.2).0 ∙ sym n in
      clash (rw u at (number_there xs c.0 c.1)) (not-true (has_number v.0.number xs) a.1)

  -- one that only the left has, and one that the right has
  lefts_apart : (d e : Difference) → In d (only_lefts l xs ys) → In e (only_rights l xs ys ++ changes l xs ys) → place d ≡ place e → ⊥
  unfolding only_lefts only_rights changes place
  lefts_apart d e m k q = go (append_cases (only_rights l xs ys) k)
    where
      one : (f g : File) → In f (keep (λ (f : File). not (has_number f.number ys)) xs) → In g ys → f.number ≡ g.number → ⊥
      one f g i j n =
          let a = (keep_in (λ (f : File). not (has_number f.number ys)) xs f).0 i in
          clash (rw (sym n) at (number_there ys g j)) (not-true (has_number f.number ys) a.1)

      v : (f : File) × In f (keep (λ (f : File). not (has_number f.number ys)) xs) × (only_left l f.number ≡ d)
      v = of_map (λ (f : File). only_left l f.number) (keep (λ (f : File). not (has_number f.number ys)) xs) m

      go : In e (only_rights l xs ys) ⊎ In e (changes l xs ys) → ⊥
      go (inl i) =
          let w = of_map (only_right l) (keep (λ (f : File). not (has_number f.number xs)) ys) i in
          one v.0 w.0 v.1 ((keep_in (λ (f : File). not (has_number f.number xs)) ys w.0).0 w.1).0 (files_place l l v.0.number w.0.number (ap place v.2 ∙ q ∙ ap place (sym w.2))).1
      go (inr i) =
          let w = of_map (changed l) (keep (λ (g : File). any (λ f. differs f g) xs) ys) i in
          one v.0 w.0 v.1 ((keep_in (λ (g : File). any (λ f. differs f g) xs) ys w.0).0 w.1).0 (files_place l l v.0.number w.0.number (ap place v.2 ∙ q ∙ ap place (sym w.2))).1

-- no place stands twice in the list
module _ (p : Profile) (s t : State) (ws : WF p s) (wt : WF p t) where
  -- a level
  level_once : (l : ℕ) → Once place (at_level s t l)
  unfolding at_level level
  level_once l =
      let dx = distinct_level s.files l ws.distinct_numbers in
      let dy = distinct_level t.files l wt.distinct_numbers in
      let xs = level s l in
      let ys = level t l in
      once_append place (only_lefts l xs ys) (only_rights l xs ys ++ changes l xs ys) (lefts_once l xs ys dx dy)
      (once_append place (only_rights l xs ys) (changes l xs ys) (rights_once l xs ys dx dy) (changes_once l xs ys dx dy) (rights_apart l xs ys dx dy)) (lefts_apart l xs ys dx dy)

  -- pointers
  pointers_once : Once place (pointer_differences s t)
  unfolding pointer_differences place
  pointers_once =
      once_map place (λ (l : ℕ). pointer_is l (pointer t l)) (keep (λ l. not (same_pointer (pointer s l) (pointer t l))) (up_from 0 (length s.files)))
      (once_finer (λ (l : ℕ). l) (λ (l : ℕ). 1 ∷ l ∷ []) (keep (λ l. not (same_pointer (pointer s l) (pointer t l))) (up_from 0 (length s.files))) (λ a b q. cc)
      (once_keep (λ (l : ℕ). l) (λ l. not (same_pointer (pointer s l) (pointer t l))) (up_from 0 (length s.files)) (once_up_from 0 (length s.files))))

  -- counters
  counters_once : Once place (counter_differences s t)
  unfolding counter_differences place
  counters_once =
      once_map place (λ (i : ℕ). counter_is i (counter_at t i)) (keep (λ i. not (eqb (counter_at s i) (counter_at t i))) (up_from 0 counter_count))
      (once_finer (λ (i : ℕ). i) (λ (i : ℕ). 2 ∷ i ∷ []) (keep (λ i. not (eqb (counter_at s i) (counter_at t i))) (up_from 0 counter_count)) (λ a b q. cc)
      (once_keep (λ (i : ℕ). i) (λ i. not (eqb (counter_at s i) (counter_at t i))) (up_from 0 counter_count) (once_up_from 0 5)))

  -- all
  all_once : Once place (unordered s t)
  unfolding unordered
  all_once =
      once_append place (join (map (at_level s t) (up_from 0 (length s.files)))) (pointer_differences s t ++ counter_differences s t)
      (once_join place (λ (l : ℕ). l) (at_level s t) (up_from 0 (length s.files)) (once_up_from 0 (length s.files)) (λ l m. level_once l) levels_apart)
      (once_append place (pointer_differences s t) (counter_differences s t) pointers_once counters_once pointers_apart) files_apart
    where
      levels_apart : (l m : ℕ) (d e : Difference) → In d (at_level s t l) → In e (at_level s t m) → place d ≡ place e → l ≡ m
      levels_apart l m d e i j q = let v = level_place s t l d i in let w = level_place s t m e j in (files_place l m v.0 w.0 (sym v.1 ∙ q ∙ w.1)).0

      pointers_apart : (d e : Difference) → In d (pointer_differences s t) → In e (counter_differences s t) → place d ≡ place e → ⊥
      pointers_apart d e i j q =
          let v = pointer_place s t d i in
          let w = counter_place s t e j in
          let r : ◌≡◌ {A = List ℕ} (1 ∷ v.0 ∷ []) (2 ∷ w.0 ∷ []) = sym v.1 ∙ q ∙ w.1 in
          let z : ◌≡◌ {A = ℕ} 1 2 = cc in
          omega arith

      files_apart : (d e : Difference) → In d (join (map (at_level s t) (up_from 0 (length s.files)))) → In e (pointer_differences s t ++ counter_differences s t) → place d ≡ place e → ⊥
      files_apart d e i j q = go (append_cases (pointer_differences s t) j)
        where
          at : (l : ℕ) × In l (up_from 0 (length s.files)) × In d (at_level s t l)
          at = of_join_map (at_level s t) (up_from 0 (length s.files)) d i

          v : (n : ℕ) × (place d ≡ 0 ∷ at.0 ∷ n ∷ [])
          v = level_place s t at.0 d at.2

          go : In e (pointer_differences s t) ⊎ In e (counter_differences s t) → ⊥
          go (inl k) =
              let w = pointer_place s t e k in
              let r : ◌≡◌ {A = List ℕ} (0 ∷ at.0 ∷ v.0 ∷ []) (1 ∷ w.0 ∷ []) = sym v.1 ∙ q ∙ w.1 in
              let z : ◌≡◌ {A = ℕ} 0 1 = cc in
              omega arith
          go (inr k) =
              let w = counter_place s t e k in
              let r : ◌≡◌ {A = List ℕ} (0 ∷ at.0 ∷ v.0 ∷ []) (2 ∷ w.0 ∷ []) = sym v.1 ∙ q ∙ w.1 in
              let z : ◌≡◌ {A = ℕ} 0 2 = cc in
              omega arith

  -- by level and then number, then pointers by level, then counters: each entry stands strictly before the next, so none stands twice
  pub differences_ordered : chain earlier (differences s t) ≡ true
  unfolding differences
  differences_ordered = once_strict place earlier earlier_same (sort earlier (unordered s t)) (sort_chain earlier earlier_order (unordered s t)) (once_sort place earlier (unordered s t) all_once)

  -- no place stands twice
  pub differences_once : Once place (differences s t)
  unfolding differences
  differences_once = once_sort place earlier (unordered s t) all_once

  -- what is listed and the order determine the list
  pub differences_determined : (ds : List Difference) → ((d : Difference) → In d ds ↔ Listed s t d) → chain earlier ds ≡ true → ds ≡ differences s t
  differences_determined ds h c = strict_one earlier earlier_order ds (differences s t) c differences_ordered
      (λ d m. listed_complete p s t ws wt d ((h d).0 m)) (λ d m. (h d).1 (listed_sound s t d m))

-- two lists that have what is called for, in this order, are one, whatever the states
pub lists_one : (s t : State) (ds es : List Difference) → ((d : Difference) → In d ds ↔ Listed s t d) → ((d : Difference) → In d es ↔ Listed s t d)
    → chain earlier ds ≡ true → chain earlier es ≡ true → ds ≡ es
lists_one s t ds es g h c e = strict_one earlier earlier_order ds es c e (λ d m. (h d).1 ((g d).0 m)) (λ d m. (g d).1 ((h d).0 m))

-- ---- a file at another level
-- a number stands at one level only
one_level : (fss : List (List File)) → distinct (numbers (join fss)) ≡ true → (i j : ℕ) (f g : File) → In f (get_or fss i []) → In g (get_or fss j []) → f.number ≡ g.number → i ≡ j
unfolding join numbers Once
one_level [] d zero j f g m k n = absurd (not-nil m)
one_level [] d (suc i) j f g m k n = absurd (not-nil m)
one_level (fs ∷ fss) d zero zero f g m k n = refl
one_level (fs ∷ fss) d zero (suc j) f g m k n = absurd (once_parts (λ (f : File). f.number) fs (join fss) (distinct_once (λ (f : File). f.number) (fs ++ join fss) d) f g m (join_in fss j g k) n)
one_level (fs ∷ fss) d (suc i) zero f g m k n = absurd (once_parts (λ (f : File). f.number) fs (join fss) (distinct_once (λ (f : File). f.number) (fs ++ join fss) d) g f k (join_in fss i f m) (sym n))
one_level (fs ∷ fss) d (suc i) (suc j) f g m k n =
    ap suc (one_level fss (once_distinct (λ (f : File). f.number) (join fss) (once_later (λ (f : File). f.number) fs (join fss) (distinct_once (λ (f : File). f.number) (fs ++ join fss) d))) i j f g m k n)

-- a file at another level counts as only-left there and only-right here
pub moved_listed : (p : Profile) (s t : State) → WF p s → WF p t → (l m : ℕ) (f g : File) → In f (level s l) → In g (level t m) → f.number ≡ g.number → (l ≡ m → ⊥)
    → In (only_left l f.number) (differences s t) × In (only_right m g) (differences s t)
unfolding level Listed
moved_listed p s t ws wt l m f g i j n h = (
  listed_complete p s t ws wt (only_left l f.number) (
    number_there (level s l) f i,
    fails (has_number f.number (level t l)) (λ e.
        let w = number_of f.number (level t l) e in h (one_level t.files wt.distinct_numbers l m w.0 g w.1 j (w.2 ∙ n))),
  ),
  listed_complete p s t ws wt (only_right m g) (
    j,
    fails (has_number g.number (level s m)) (λ e.
        let w = number_of g.number (level s m) e in h (one_level s.files ws.distinct_numbers l m f w.0 i w.1 (n ∙ sym w.2))),
  ),
)
