-- How long a list of differences can be, in entries and in bytes. Assumes nothing.
use Prim.Native.Nat.{ℕ, zero, suc, ◌+◌, ◌*◌, ◌≤◌}
use Rattle.std.specs.Prelude.{◌≡◌, Bool, eqb, ltb, get_or}
use Rattle.std.proofs.Math.Path.{refl, subst}
use Rattle.std.proofs.Common.{ap, ltb-true, ltb-false, length-append}
use Rattle.std.proofs.Math.Bool.{true, false, not}
use mathlib.Core.List.Memᴰ.{of_map}
use mathlib.Core.List.{List, [], ◌∷◌, ◌++◌, map, Memᴰ as In}
use Rattle.std.proofs.Math.Option.{Option, none, some}
use Rattle.std.proofs.lemmas.Bool.{not-true}
use Rattle.std.proofs.Math.ListN.{length, length-map, get_or-eq_default}
use Rattle.std.proofs.Math.Nat.{mul-le-mul_right, add-mul}
use native.Mathlib.Omega.{arith}
use Rattle.lemmas.specs.Order.{clash}
use Rattle.lemmas.specs.Lists.{push, keep, any, join, up_from, sum}
use Rattle.lemmas.specs.ListLaws.{any_in, keep_in, keep_length, join_in, stretch_few, get_or_in, joined_most}
use Rattle.lemmas.specs.Little.{bytes, bytes_length}
use Rattle.lemmas.specs.UpFrom.{up_from_length}
use Rattle.lemmas.specs.Laying.{sorted_length}
use Rattle.lemmas.specs.Once.{keep_either, join_map_append}
use Rattle.model.specs.Key.{Key}
use Rattle.model.specs.File.{Profile, File, State, level, pointer, good_pointer, full}
use Rattle.model.specs.Snapshot.{write_key, write_file, section, byte_long, number_long, counter_count}
use Rattle.model.specs.KeyLaws.{good_key_says}
use Rattle.model.proofs.Formed.{WF}
use Rattle.model.proofs.SnapshotLaws.{section_length, write_key_length, file_most}
use Rattle.model.specs.Difference.{Difference, only_left, only_right, changed, pointer_is, counter_is, earlier, has_number, differs, same_pointer, counter_at, only_lefts, only_rights, changes, at_level, pointer_differences, counter_differences, unordered, differences}
use Rattle.model.specs.DifferenceBytes.{section_of, key_of, write_difference, section_at, write_differences, longest_list}
use Rattle.model.proofs.DifferenceListedLaws.{number_there, differs_says}

-- ---- how long a list can be
-- each entry weighed: at most a for a file that only the left has, at most c for one with the right's contents
module _ (w : Difference → List ℕ) (a b c e : ℕ) (s t : State)
    (left : (l : ℕ) (f : File) → In f (level s l) → length (w (only_left l f.number)) ≤ a)
    (right : (l : ℕ) (g : File) → In g (level t l) → length (w (only_right l g)) ≤ c)
    (other : (l : ℕ) (g : File) → In g (level t l) → length (w (changed l g)) ≤ c)
    (pointed : (l : ℕ) → length (w (pointer_is l (pointer t l))) ≤ b) (counted : (i : ℕ) → length (w (counter_is i (counter_at t i))) ≤ e) where
  -- a level
  level_most : (l : ℕ) → length (join (map w (at_level s t l))) ≤ length (level s l) * a + length (level t l) * c
  unfolding at_level only_lefts only_rights changes
  level_most l =
      let xs = level s l in
      let ys = level t l in
      let ll = keep (λ (f : File). not (has_number f.number ys)) xs in
      let rr = keep (λ (g : File). not (has_number g.number xs)) ys in
      let cc' = keep (λ (g : File). any (λ f. differs f g) xs) ys in
      let x = joined_most w a (only_lefts l xs ys) (λ d m. let v = of_map (λ (f : File). only_left l f.number) ll m in
      subst (λ (d : Difference). length (w d) ≤ a) v.2 (left l v.0 ((keep_in (λ (f : File). not (has_number f.number ys)) xs v.0).0 v.1).0)) in
      let y = joined_most w c (only_rights l xs ys) (λ d m. let v = of_map (only_right l) rr m in
      subst (λ (d : Difference). length (w d) ≤ c) v.2 (right l v.0 ((keep_in (λ (g : File). not (has_number g.number xs)) ys v.0).0 v.1).0)) in
      let z = joined_most w c (changes l xs ys) (λ d m. let v = of_map (changed l) cc' m in
      subst (λ (d : Difference). length (w d) ≤ c) v.2 (other l v.0 ((keep_in (λ (g : File). any (λ f. differs f g) xs) ys v.0).0 v.1).0)) in
      let lx : length (only_lefts l xs ys) ≤ length xs = omega (arith, length-map ll (λ (f : File). only_left l f.number), keep_length (λ (f : File). not (has_number f.number ys)) xs) in
      let ly : length (only_rights l xs ys) + length (changes l xs ys) ≤ length ys = omega (
        arith,
        length-map rr (only_right l),
        length-map cc' (changed l),
        keep_either (λ (g : File). not (has_number g.number xs)) (λ (g : File). any (λ f. differs f g) xs) ys (λ g h. not_changed xs g (not-true (has_number g.number xs) h)),
      ) in
      omega (
        arith,
        join_map_append w (only_lefts l xs ys) (only_rights l xs ys ++ changes l xs ys),
        join_map_append w (only_rights l xs ys) (changes l xs ys),
        mul-le-mul_right a lx,
        mul-le-mul_right c ly,
        add-mul (length (only_rights l xs ys)) (length (changes l xs ys)) c,
      )
    where
      not_changed : (xs : List File) (g : File) → has_number g.number xs ≡ false → any (λ f. differs f g) xs ≡ false
      not_changed xs g h = go (any (λ f. differs f g) xs) refl
        where
          go : (t : Bool) → any (λ f. differs f g) xs ≡ t → any (λ f. differs f g) xs ≡ false
          go false q = q
          go true q =
              let v = any_in (λ f. differs f g) xs q in
              clash (rw ((differs_says v.0 g).0 v.2).0 at (number_there xs v.0 v.1)) h

  -- levels from k on
  levels_most : (k n : ℕ) → length (join (map w (join (map (at_level s t) (up_from k n)))))
      ≤ sum (map (λ l. length (level s l)) (up_from k n)) * a + sum (map (λ l. length (level t l)) (up_from k n)) * c
  unfolding join up_from sum
  levels_most k zero = omega arith
  levels_most k (suc n) =
      let x = sum (map (λ l. length (level s l)) (up_from (suc k) n)) in
      let y = sum (map (λ l. length (level t l)) (up_from (suc k) n)) in
      omega (
        arith,
        level_most k,
        levels_most (suc k) n,
        join_map_append w (at_level s t k) (join (map (at_level s t) (up_from (suc k) n))),
        add-mul (length (level s k)) x a,
        add-mul (length (level t k)) y c,
      )

  -- pointers
  pointers_most : length (join (map w (pointer_differences s t))) ≤ length s.files * b
  unfolding pointer_differences
  pointers_most =
      let ls = keep (λ l. not (same_pointer (pointer s l) (pointer t l))) (up_from 0 (length s.files)) in
      let x = joined_most w b (pointer_differences s t) (λ d m. let v = of_map (λ (l : ℕ). pointer_is l (pointer t l)) ls m in subst (λ (d : Difference). length (w d) ≤ b) v.2 (pointed v.0)) in
      let y : length (pointer_differences s t) ≤ length s.files =
      omega (arith, length-map ls (λ (l : ℕ). pointer_is l (pointer t l)), keep_length (λ l. not (same_pointer (pointer s l) (pointer t l))) (up_from 0 (length s.files)), up_from_length 0 (length s.files)) in
      omega (arith, mul-le-mul_right b y)

  -- counters
  counters_most : length (join (map w (counter_differences s t))) ≤ 5 * e
  unfolding counter_differences
  counters_most =
      let is = keep (λ i. not (eqb (counter_at s i) (counter_at t i))) (up_from 0 counter_count) in
      let x = joined_most w e (counter_differences s t) (λ d m. let v = of_map (λ (i : ℕ). counter_is i (counter_at t i)) is m in subst (λ (d : Difference). length (w d) ≤ e) v.2 (counted v.0)) in
      let y : length (counter_differences s t) ≤ 5 =
      omega (arith, length-map is (λ (i : ℕ). counter_is i (counter_at t i)), keep_length (λ i. not (eqb (counter_at s i) (counter_at t i))) (up_from 0 counter_count), up_from_length 0 5) in
      omega (arith, mul-le-mul_right e y)

  -- the whole list
  list_most : (p : Profile) → WF p s → WF p t → length (join (map w (differences s t))) ≤ p.room * a + p.room * c + p.levels * b + 5 * e
  unfolding differences unordered level
  list_most p ws wt =
      let n = length s.files in
      let x = sum (map (λ l. length (level s l)) (up_from 0 n)) in
      let y = sum (map (λ l. length (level t l)) (up_from 0 n)) in
      let hx : x ≤ p.room = omega (arith, stretch_few s.files 0 n, ws.room) in
      let hy : y ≤ p.room = omega (arith, stretch_few t.files 0 n, wt.room) in
      let hl : length s.files ≤ p.levels = omega (arith, ws.levels) in
      omega (
        arith,
        sorted_length w earlier (unordered s t),
        join_map_append w (join (map (at_level s t) (up_from 0 n))) (pointer_differences s t ++ counter_differences s t),
        join_map_append w (pointer_differences s t) (counter_differences s t),
        levels_most 0 n,
        pointers_most,
        counters_most,
        mul-le-mul_right a hx,
        mul-le-mul_right c hy,
        mul-le-mul_right b hl,
      )

-- one for each entry
abbrev one : Difference → List ℕ
one d = 0 ∷ []

-- so many as there are entries
ones_length : (ds : List Difference) → length (join (map one ds)) ≡ length ds
unfolding join
ones_length [] = refl
ones_length (d ∷ ds) = ap suc (ones_length ds)

-- at most two entries for each file that there is room for, one for each level and five
pub differences_few : (p : Profile) (s t : State) → WF p s → WF p t → length (differences s t) ≤ 2 * p.room + p.levels + 5
differences_few p s t ws wt =
    omega (arith, ones_length (differences s t), list_most one 1 1 1 1 s t (λ l f m. omega arith) (λ l g m. omega arith) (λ l g m. omega arith) (λ l. omega arith) (λ i. omega arith) p ws wt)

-- ---- the bytes
-- the parts of all sections together are those of the list
parts_length : (ds : List Difference)
    → length (join (map write_difference (section_at 0 ds))) + length (join (map write_difference (section_at 1 ds))) + length (join (map write_difference (section_at 2 ds))) ≡ length (join (map write_difference ds))
unfolding section_at keep push join section_of
parts_length [] = refl
parts_length (only_left l n ∷ ds) = let w = write_difference (only_left l n) in omega (arith, parts_length ds, length-append w (join (map write_difference (section_at 0 ds))), length-append w (join (map write_difference ds)))
parts_length (only_right l f ∷ ds) = let w = write_difference (only_right l f) in omega (arith, parts_length ds, length-append w (join (map write_difference (section_at 0 ds))), length-append w (join (map write_difference ds)))
parts_length (changed l f ∷ ds) = let w = write_difference (changed l f) in omega (arith, parts_length ds, length-append w (join (map write_difference (section_at 0 ds))), length-append w (join (map write_difference ds)))
parts_length (pointer_is l o ∷ ds) = let w = write_difference (pointer_is l o) in omega (arith, parts_length ds, length-append w (join (map write_difference (section_at 1 ds))), length-append w (join (map write_difference ds)))
parts_length (counter_is i v ∷ ds) = let w = write_difference (counter_is i v) in omega (arith, parts_length ds, length-append w (join (map write_difference (section_at 2 ds))), length-append w (join (map write_difference ds)))

-- three counts and the parts
pub write_differences_length : (ds : List Difference) → length (write_differences ds) ≡ 6 + length (join (map write_difference ds))
unfolding write_differences
write_differences_length ds =
    let x = section write_difference (section_at 0 ds) in
    let y = section write_difference (section_at 1 ds) in
    let z = section write_difference (section_at 2 ds) in
    omega (
      arith,
      length-append x (y ++ z),
      length-append y z,
      section_length write_difference (section_at 0 ds),
      section_length write_difference (section_at 1 ds),
      section_length write_difference (section_at 2 ds),
      parts_length ds,
    )

-- an entry's bytes
left_bytes : (l n : ℕ) → length (write_difference (only_left l n)) ≡ 10
unfolding write_difference
left_bytes l n = omega (arith, length-append (bytes byte_long 0) (bytes byte_long l ++ bytes number_long n), length-append (bytes byte_long l) (bytes number_long n), bytes_length 1 0, bytes_length 1 l, bytes_length 8 n)

-- of a file that only the right has
right_bytes : (l : ℕ) (f : File) → length (write_difference (only_right l f)) ≡ 2 + length (write_file f)
unfolding write_difference
right_bytes l f = omega (arith, length-append (bytes byte_long 1) (bytes byte_long l ++ write_file f), length-append (bytes byte_long l) (write_file f), bytes_length 1 1, bytes_length 1 l)

-- of a changed one
changed_bytes : (l : ℕ) (f : File) → length (write_difference (changed l f)) ≡ 2 + length (write_file f)
unfolding write_difference
changed_bytes l f = omega (arith, length-append (bytes byte_long 2) (bytes byte_long l ++ write_file f), length-append (bytes byte_long l) (write_file f), bytes_length 1 2, bytes_length 1 l)

-- of a pointer
pointer_bytes_lem : (l : ℕ) (o : Option Key) → length (write_difference (pointer_is l o)) ≡ 2 + length (key_of o)
unfolding write_difference
pointer_bytes_lem l o = omega (arith, length-append (bytes byte_long l) (write_key (key_of o)), bytes_length 1 l, write_key_length (key_of o))

-- of a counter
counter_bytes_lem : (i v : ℕ) → length (write_difference (counter_is i v)) ≡ 9
unfolding write_difference
counter_bytes_lem i v = omega (arith, length-append (bytes byte_long i) (bytes number_long v), bytes_length 1 i, bytes_length 8 v)

-- a pointer's key
pub pointer_short : (p : Profile) (o : Option Key) → good_pointer p o ≡ true → length (key_of o) ≤ p.longest + 8
unfolding good_pointer key_of
pointer_short p none h = omega arith
pointer_short p (some k) h = ((good_key_says p.longest k).0 h).few_bytes

-- a pointer that is not set is good
absent : (p : Profile) (o : Option Key) → o ≡ none → good_pointer p o ≡ true
unfolding good_pointer
absent p o e = rw e

-- a well-formed state's pointers are good
pub pointer_good : (p : Profile) (s : State) → WF p s → (l : ℕ) → good_pointer p (pointer s l) ≡ true
unfolding pointer
pointer_good p s w l = go (ltb l (length s.pointers)) refl
  where
    go : (b : Bool) → ltb l (length s.pointers) ≡ b → good_pointer p (get_or s.pointers l none) ≡ true
    go true e = w.pointers (get_or s.pointers l none) (get_or_in s.pointers l none (ltb-true l (length s.pointers) e))
    go false e = absent p (get_or s.pointers l none) (get_or-eq_default s.pointers none (ltb-false l (length s.pointers) e))

-- a bound on the bytes of a list
pub list_length : (p : Profile) (s t : State) → WF p s → WF p t
    → length (write_differences (differences s t)) ≤ 51 + p.room * 10 + p.room * (2 * p.longest + 36) + p.levels * (p.longest + 10)
unfolding level
list_length p s t ws wt = omega (
  arith,
  write_differences_length (differences s t),
  list_most write_difference 10 (p.longest + 10) (2 * p.longest + 36) 9 s t
      (λ l f m. omega (arith, left_bytes l f.number))
      (λ l g m. omega (arith, right_bytes l g, file_most p g (wt.good g (join_in t.files l g m))))
      (λ l g m. omega (arith, changed_bytes l g, file_most p g (wt.good g (join_in t.files l g m))))
      (λ l. omega (arith, pointer_bytes_lem l (pointer t l), pointer_short p (pointer t l) (pointer_good p t wt l)))
      (λ i. omega (arith, counter_bytes_lem i (counter_at t i)))
      p ws wt,
)

-- no list of a full machine is longer than the longest
pub list_most_bytes : (s t : State) → WF full s → WF full t → length (write_differences (differences s t)) ≤ longest_list
unfolding full
list_most_bytes s t ws wt = list_length full s t ws wt
