-- Parts that were written one after another: the scan cuts them as they were written, and what it finds is what their values differ in. Assumes nothing.
use Rattle.std.specs.Prelude.{ℕ, ◌-◌, ◌^◌, ◌<◌, ◌≡◌, Bool, true, length, take, drop}
use Rattle.std.proofs.Math.Path.{ap}
use Rattle.std.proofs.Common.{◌∙◌, subst, arith, length-append, take_at}
use mathlib.Core.List.Memᴰ.{of_map}
use mathlib.Core.List.{List, ◌++◌, map, Memᴰ as In}
use Rattle.std.proofs.lemmas.List.{length-map}
use Rattle.lemmas.specs.Lists.{join}
use Rattle.lemmas.specs.ListLaws.{map_same}
use Rattle.lemmas.specs.Little.{number, bytes, bytes_length, bytes_number}
use Rattle.lemmas.specs.Compare.{compare, compare_map}
use Rattle.lemmas.specs.Distinct.{same_test}
use Rattle.model.specs.Snapshot.{section, same_bytes, count_long}
use Rattle.model.proofs.Reading.{same_eq, eq_same}
use Rattle.model.specs.Difference.{Difference}
use Rattle.model.specs.DifferenceBytes.{left_kind, right_kind, changed_kind, write_difference}
use Rattle.snapshot_parse.specs.Parsing.{number_in}
use Rattle.snapshot_parse.specs.BackLaws.{parts_back, count_back, count_rest}
use Rattle.difference_scan.specs.Scan.{after_part, part_bytes, rise_long, rise_of, parts_at, after_all, head, tail, left_entry, right_entry, run_entries}
use Rattle.difference_scan.specs.Turns.{entries_of}
use Rattle.difference_scan.specs.Listing.{as_is}

-- ---- parts in the bytes
-- a part whose end is found is cut as it is
part_cut : (p : Bool) (a y : List ℕ) → after_part p (a ++ y) ≡ y → part_bytes p (a ++ y) ≡ a
unfolding part_bytes
part_cut p a y e =
    let n : length a ≡ length (a ++ y) - length (after_part p (a ++ y)) = omega (arith, ap length e, length-append a y) in
    take_at a y (length (a ++ y) - length (after_part p (a ++ y))) n

-- parts whose ends are found are cut as they were written, and the bytes after them are left
pub parts_cut : {A : Type 0} (p : Bool) (w : A → List ℕ) (xs : List A) (x : List ℕ) → ((a : A) → In a xs → (y : List ℕ) → after_part p (w a ++ y) ≡ y)
    → (parts_at p (length xs) (join (map w xs) ++ x) ≡ map w xs) × (after_all p (length xs) (join (map w xs) ++ x) ≡ x)
unfolding parts_at after_all
parts_cut p w xs x ends = rw (map_same, length-map) at (parts_back as_is (part_bytes p) (after_part p) (map w xs) x each)
  where
    each : (b : List ℕ) → In b (map w xs) → (y : List ℕ) → (part_bytes p (b ++ y) ≡ b) × (after_part p (b ++ y) ≡ y)
    each b m y =
        let v = of_map w xs m in
        let e = subst (λ (b : List ℕ). after_part p (b ++ y) ≡ y) v.2 (ends v.0 v.1 y) in
        (part_cut p b y e, e)

-- ---- what the scan must know of parts
-- `w` writes a part, `key` gives the number that it stands by, `same` tells whether two parts of one number hold the same, and an entry is made of a part that only the left has, of one that only
-- the right has, or of the right's where they do not hold the same
pub record Written {A : Type 0} (p : Bool) (l : ℕ) (Good : A → Type 0) (w : A → List ℕ) (key : A → ℕ) (same : A → A → Bool) (left right other : A → Difference) : Type 0 where
  -- a part begins with its number
  pub begins : (a : A) → (x : List ℕ) × (w a ≡ bytes (rise_long p) (key a) ++ x)
  -- the number fits its bytes
  pub small : (a : A) → Good a → key a < 256 ^ rise_long p
  -- its end is found, whatever follows
  pub ends : (a : A) → Good a → (y : List ℕ) → after_part p (w a ++ y) ≡ y
  -- two parts of the same bytes are one
  pub back : (a b : A) → Good a → Good b → w a ≡ w b → a ≡ b
  -- a part holds the same as itself
  pub own : (a : A) → same a a ≡ true
  -- two parts of one number that hold the same are one
  pub one : (a b : A) → key a ≡ key b → same a b ≡ true → a ≡ b
  -- the entries are written as the scan lays them
  pub lefts : (a : A) → head p left_kind l ++ (bytes (rise_long p) (key a) ++ tail p) ≡ write_difference (left a)
  pub rights : (a : A) → head p right_kind l ++ w a ≡ write_difference (right a)
  pub others : (a : A) → head p changed_kind l ++ w a ≡ write_difference (other a)

module _ {A : Type 0} {p : Bool} {l : ℕ} {Good : A → Type 0} {w : A → List ℕ} {key : A → ℕ} {same : A → A → Bool} {left right other : A → Difference} (r : Written p l Good w key same left right other) where
  -- what differs between two lists of them
  abbrev compared : List A → List A → List Difference
  compared xs ys = compare key same left right other xs ys

  -- the bytes of its number
  rise_bytes : (a : A) → take (rise_long p) (w a) ≡ bytes (rise_long p) (key a)
  rise_bytes a = let b = r.begins a in ap (take (rise_long p)) b.1 ∙ take_at (bytes (rise_long p) (key a)) b.0 (rise_long p) (bytes_length (rise_long p) (key a))

  -- its number
  pub rise_back : (a : A) → Good a → rise_of p (w a) ≡ key a
  unfolding rise_of number_in
  rise_back a g = ap number (rise_bytes a) ∙ bytes_number (rise_long p) (key a) (r.small a g)

  -- the bytes are the same where the parts hold the same
  bytes_same : (a b : A) → Good a → Good b → key a ≡ key b → same_bytes (w a) (w b) ≡ same a b
  bytes_same a b g h k = same_test (same_bytes (w a) (w b)) (same a b) (λ e. subst (λ (c : A). same a c ≡ true) (r.back a b g h (same_eq (w a) (w b) e)) (r.own a))
      (λ e. subst (λ (c : A). same_bytes (w a) (w c) ≡ true) (r.one a b k e) (eq_same (w a)))

  module _ (xs ys : List A) (g : (a : A) → In a xs → Good a) (h : (a : A) → In a ys → Good a) where
    -- what differs between two runs of bytes is what their parts differ in
    run_back : run_entries p l (map w xs) (map w ys) ≡ map write_difference (compared xs ys)
    unfolding run_entries left_entry right_entry
    run_back = compare_map key same left right other (rise_of p) same_bytes (left_entry p l) (right_entry p right_kind l) (right_entry p changed_kind l) w write_difference xs ys
        (λ a m. (rise_back a (g a m), ap (λ (n : List ℕ). head p left_kind l ++ (n ++ tail p)) (rise_bytes a) ∙ r.lefts a)) (λ a m. (rise_back a (h a m), r.rights a, r.others a)) (λ a b m n k. bytes_same a b (g a m) (h b n) k)

    -- the same of two sections, each with bytes behind it
    pub sections_back : length xs < 65536 → length ys < 65536 → (x y : List ℕ)
        → entries_of p l (number_in count_long (section w xs ++ x)) (drop count_long (section w xs ++ x)) (number_in count_long (section w ys ++ y)) (drop count_long (section w ys ++ y)) ≡ map write_difference (compared xs ys)
    unfolding entries_of
    sections_back i j x y = rw (count_back w xs x i, count_back w ys y j, count_rest w xs x, count_rest w ys y, (parts_cut p w xs x (λ a m. r.ends a (g a m))).0, (parts_cut p w ys y (λ a m. r.ends a (h a m))).0) run_back

  -- the bytes behind a section
  pub section_past : (xs : List A) (x : List ℕ) → ((a : A) → In a xs → Good a) → length xs < 65536 → after_all p (number_in count_long (section w xs ++ x)) (drop count_long (section w xs ++ x)) ≡ x
  section_past xs x g i = rw (count_back w xs x i, count_rest w xs x) (parts_cut p w xs x (λ a m. r.ends a (g a m))).1
