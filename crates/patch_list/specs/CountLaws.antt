-- Laws of three lists, one of each section, and of what is read of bytes: no section has more entries than its count can say. Assumes nothing.
use Rattle.std.specs.Prelude.{ℕ, zero, suc, ◌^◌, ◌≤◌, ◌<◌, ◌≡◌, Bool, cond, eqb, leb, length, take, drop}
use Rattle.std.proofs.Math.Path.{refl}
use Rattle.std.proofs.Common.{sym, ap, ◌∙◌, subst, arith, eqb-true, eq-eqb, length-take}
use Rattle.std.proofs.Math.Bool.{true, false}
use mathlib.Core.List.Memᴰ.{head as here}
use mathlib.Core.List.Memᴰ.{not-nil}
use mathlib.Core.List.Memᴰ.{tail as there}
use mathlib.Core.List.{List, [], ◌∷◌, ◌++◌, append-nil, Memᴰ as In}
use Rattle.std.proofs.Math.Option.{Option, none, some}
use Rattle.std.proofs.Math.Nat.{pow-le-pow_right}
use Rattle.std.proofs.lemmas.Bool.{eqb-false}
use Rattle.std.proofs.Math.Pow.{are_bytes}
use Rattle.lemmas.specs.AreBytes.{bytes_take, bytes_drop}
use Rattle.lemmas.specs.ListLaws.{keep_append, keep_all}
use Rattle.lemmas.specs.Little.{number, number_bound}
use Rattle.lemmas.specs.Once.{none_in}
use Rattle.lemmas.specs.Order.{clash}
use Rattle.model.specs.Key.{Key}
use Rattle.model.specs.File.{File}
use Rattle.model.specs.Snapshot.{Read, Reader, onward, ◌>>=◌, give, times, read_bytes, read_number, read_key, read_file, read_section, byte_long, count_long, number_long}
use Rattle.model.specs.Difference.{Difference, only_left, only_right, changed, pointer_is, counter_is}
use Rattle.model.specs.DifferenceBytes.{left_kind, right_kind, section_of, section_at, read_file_of, read_file_difference, pointer_of, read_pointer_difference, read_counter_difference, read_differences}
use Rattle.model.proofs.DifferenceReadingLaws.{section_in}

-- ---- three lists
-- all entries are of one section
abbrev pub AllOf : ℕ → List Difference → Type 0
AllOf s ds = (d : Difference) → In d ds → section_of d ≡ s

-- such a list is its section
same_section : (s : ℕ) (ds : List Difference) → AllOf s ds → section_at s ds ≡ ds
unfolding section_at
same_section s ds h = keep_all (λ d. eqb (section_of d) s) ds (λ d m. eq-eqb (section_of d) s (h d m))

-- it has no other
other_section : (s k : ℕ) (ds : List Difference) → AllOf s ds → (s ≡ k → ⊥) → section_at k ds ≡ []
other_section s k ds h ne = none_in (section_at k ds) (λ d m. let r = (section_in k ds d).0 m in ne (sym (h d r.0) ∙ r.1))

-- the sections of two lists joined
section_append : (k : ℕ) (a b : List Difference) → section_at k (a ++ b) ≡ section_at k a ++ section_at k b
unfolding section_at
section_append k a b = keep_append (λ d. eqb (section_of d) k) a b

-- one list of each section
module _ (a b c : List Difference) (h₀ : AllOf 0 a) (h₁ : AllOf 1 b) (h₂ : AllOf 2 c) where
  -- the sections of all
  section_of_lem : (k : ℕ) → section_at k (a ++ (b ++ c)) ≡ section_at k a ++ (section_at k b ++ section_at k c)
  section_of_lem k = section_append k a (b ++ c) ∙ ap (λ (r : List Difference). section_at k a ++ r) (section_append k b c)

  -- that of the files
  pub section_files : section_at 0 (a ++ (b ++ c)) ≡ a
  section_files = section_of_lem 0 ∙ rw (same_section 0 a h₀, other_section 1 0 b h₁ (λ e. omega arith), other_section 2 0 c h₂ (λ e. omega arith)) (append-nil a)

  -- that of the pointers
  pub section_pointers : section_at 1 (a ++ (b ++ c)) ≡ b
  section_pointers = section_of_lem 1 ∙ rw (other_section 0 1 a h₀ (λ e. omega arith), same_section 1 b h₁, other_section 2 1 c h₂ (λ e. omega arith)) (append-nil b)

  -- that of the counters
  pub section_counters : section_at 2 (a ++ (b ++ c)) ≡ c
  section_counters = section_of_lem 2 ∙ rw (other_section 0 2 a h₀ (λ e. omega arith), other_section 1 2 b h₁ (λ e. omega arith), same_section 2 c h₂)

  -- no section is longer than they
  pub sections_few : (n : ℕ) → length a < n → length b < n → length c < n → (k : ℕ) → length (section_at k (a ++ (b ++ c))) < n
  sections_few n f g h k = go (eqb k 0) refl (eqb k 1) refl (eqb k 2) refl
    where
      go : (x : Bool) → eqb k 0 ≡ x → (y : Bool) → eqb k 1 ≡ y → (z : Bool) → eqb k 2 ≡ z → length (section_at k (a ++ (b ++ c))) < n
      go true p y q z r = rw (eqb-true k 0 p, section_files) f
      go false p true q z r = rw (eqb-true k 1 q, section_pointers) g
      go false p false q true r = rw (eqb-true k 2 r, section_counters) h
      go false p false q false r =
          let none : section_at k (a ++ (b ++ c)) ≡ [] = section_of_lem k ∙ rw (other_section 0 k a h₀ (λ e. eqb-false k 0 p (sym e)), other_section 1 k b h₁ (λ e. eqb-false k 1 q (sym e)), other_section 2 k c h₂ (λ e. eqb-false k 2 r (sym e))) in
          omega (arith, ap length none)

-- ---- what a reader gives
-- of bytes: a value that P holds of, and the rest are bytes
unfoldable pub Gives : {A : Type 0} → (A → Type 0) → Reader A → Type 0
Gives {A} P r = (bs : List ℕ) (v : Read A) → are_bytes bs ≡ true → r bs ≡ some v → P v.value × (are_bytes v.rest ≡ true)

-- anything
abbrev Any : {A : Type 0} → A → Type 0
Any a = Unit {0}

module _ {A B : Type 0} where
  -- one reader after another
  gives_then : (P : A → Type 0) (Q : B → Type 0) (r : Reader A) (f : A → Reader B) → Gives P r → ((a : A) → P a → Gives Q (f a)) → Gives Q (r >>= f)
  unfolding Gives ◌>>=◌ onward
  gives_then P Q r f g h bs v b e = go (r bs) refl e
    where
      go : (o : Option (Read A)) → r bs ≡ o → onward o f ≡ some v → Q v.value × (are_bytes v.rest ≡ true)
      go none q k = let z : true ≡ false = cc in clash refl z
      go (some u) q k = let w = g bs u b q in h u.value w.0 u.rest v w.1 k

-- nothing is read
gives_it : {A : Type 0} (P : A → Type 0) (a : A) → P a → Gives P (give a)
unfolding Gives give
gives_it {A} P a p bs v b e =
    let q : record { value = a; rest = bs } ≡ v = cc in
    subst (λ (u : Read A). P u.value × (are_bytes u.rest ≡ true)) q (p, b)

-- less is said of the value
gives_weaker : {A : Type 0} (P Q : A → Type 0) (r : Reader A) → ((a : A) → P a → Q a) → Gives P r → Gives Q r
unfolding Gives
gives_weaker P Q r h g bs v b e = let w = g bs v b e in (h v.value w.0, w.1)

-- n bytes
gives_bytes : (n : ℕ) → Gives (λ l. (are_bytes l ≡ true) × (length l ≤ n)) (read_bytes n)
unfolding Gives read_bytes
gives_bytes n bs v b e = go (leb n (length bs)) e
  where
    go : (t : Bool) → cond t (some (record { value = take n bs; rest = drop n bs })) none ≡ some v → ((are_bytes v.value ≡ true) × (length v.value ≤ n)) × (are_bytes v.rest ≡ true)
    go true k =
        let q : record { value = take n bs; rest = drop n bs } ≡ v = cc in
        subst (λ (u : Read (List ℕ)). ((are_bytes u.value ≡ true) × (length u.value ≤ n)) × (are_bytes u.rest ≡ true)) q ((bytes_take n bs b, omega (arith, length-take n bs)), bytes_drop n bs b)
    go false k = let z : true ≡ false = cc in clash refl z

-- a number of n bytes
gives_number : (n : ℕ) → Gives (λ x. x < 256 ^ n) (read_number n)
unfolding read_number
gives_number n =
    gives_then (λ l. (are_bytes l ≡ true) × (length l ≤ n)) (λ x. x < 256 ^ n) (read_bytes n) (λ bs. give (number bs)) (gives_bytes n)
    (λ l h. let p : 256 ^ length l ≤ 256 ^ n = pow-le-pow_right (omega arith) h.1 in gives_it (λ x. x < 256 ^ n) (number l) (omega (arith, number_bound l h.0)))

-- a key
gives_key : Gives (λ (k : Key). Any k) read_key
unfolding read_key
gives_key =
    gives_then (λ x. x < 256 ^ byte_long) (λ (k : Key). Any k) (read_number byte_long) (λ n. read_bytes n) (gives_number byte_long)
    (λ n h. gives_weaker (λ l. (are_bytes l ≡ true) × (length l ≤ n)) (λ (k : Key). Any k) (read_bytes n) (λ l q. tt) (gives_bytes n))

-- a file
gives_file : Gives (λ (f : File). Any f) read_file
unfolding read_file
gives_file =
    gives_then (λ x. x < 256 ^ number_long) (λ (f : File). Any f) (read_number number_long) (λ (n : ℕ). read_number number_long >>= λ z. read_key >>= λ a. read_key >>= λ b. give (record { number = n; size = z; smallest = a; largest = b })) (gives_number number_long)
    (λ n h. gives_then (λ x. x < 256 ^ number_long) (λ (f : File). Any f) (read_number number_long) (λ (z : ℕ). read_key >>= λ a. read_key >>= λ b. give (record { number = n; size = z; smallest = a; largest = b })) (gives_number number_long)
    (λ z i. gives_then (λ (k : Key). Any k) (λ (f : File). Any f) read_key (λ (a : Key). read_key >>= λ b. give (record { number = n; size = z; smallest = a; largest = b })) gives_key
    (λ a j. gives_then (λ (k : Key). Any k) (λ (f : File). Any f) read_key (λ (b : Key). give (record { number = n; size = z; smallest = a; largest = b })) gives_key
    (λ b k. gives_it (λ (f : File). Any f) (record { number = n; size = z; smallest = a; largest = b }) tt))))

-- n parts
gives_times : {A : Type 0} (P : A → Type 0) (r : Reader A) → Gives P r → (n : ℕ) → Gives (λ (xs : List A). (length xs ≡ n) × ((x : A) → In x xs → P x)) (times n r)
unfolding times
gives_times P r g zero = gives_it (λ xs. (length xs ≡ 0) × ((x : _) → In x xs → P x)) [] (refl, λ x m. absurd (not-nil m))
gives_times {A} P r g (suc n) =
    gives_then P Q r (λ a. times n r >>= λ as'. give (a ∷ as')) g
    (λ a p. gives_then (λ (xs : List A). (length xs ≡ n) × ((x : A) → In x xs → P x)) Q (times n r) (λ as'. give (a ∷ as')) (gives_times P r g n)
    (λ xs h. gives_it Q (a ∷ xs) (ap suc h.0, λ x m. one a xs p h.1 x m)))
  where
    Q : List A → Type 0
    Q xs = (length xs ≡ suc n) × ((x : A) → In x xs → P x)

    one : (a : A) (xs : List A) → P a → ((x : A) → In x xs → P x) → (x : A) → In x (a ∷ xs) → P x
    one a xs p h x (here e) = subst P (sym e) p
    one a xs p h x (there m) = h x m

-- a section: its count is below 65536
gives_section : {A : Type 0} (P : A → Type 0) (r : Reader A) → Gives P r → Gives (λ (xs : List A). (length xs < 65536) × ((x : A) → In x xs → P x)) (read_section r)
unfolding read_section
gives_section {A} P r g =
    gives_then (λ x. x < 256 ^ count_long) Q (read_number count_long) (λ n. times n r) (gives_number count_long)
    (λ n h. gives_weaker (λ (xs : List A). (length xs ≡ n) × ((x : A) → In x xs → P x)) Q (times n r) (λ xs q. (omega (arith, q.0), q.1)) (gives_times P r g n))
  where
    Q : List A → Type 0
    Q xs = (length xs < 65536) × ((x : A) → In x xs → P x)

-- ---- the entries that are read are of their sections
-- of files, after their level
gives_body : (k l : ℕ) → Gives (λ d. section_of d ≡ 0) (read_file_of k l)
unfolding read_file_of section_of
gives_body k l = go (eqb k left_kind) (eqb k right_kind)
  where
    go : (a b : Bool) → Gives (λ d. section_of d ≡ 0) (cond a (read_number number_long >>= λ n. give (only_left l n)) (cond b (read_file >>= λ f. give (only_right l f)) (read_file >>= λ f. give (changed l f))))
    go true b = gives_then (λ x. x < 256 ^ number_long) (λ d. section_of d ≡ 0) (read_number number_long) (λ n. give (only_left l n)) (gives_number number_long) (λ n h. gives_it (λ d. section_of d ≡ 0) (only_left l n) refl)
    go false true = gives_then (λ (f : File). Any f) (λ d. section_of d ≡ 0) read_file (λ f. give (only_right l f)) gives_file (λ f h. gives_it (λ d. section_of d ≡ 0) (only_right l f) refl)
    go false false = gives_then (λ (f : File). Any f) (λ d. section_of d ≡ 0) read_file (λ f. give (changed l f)) gives_file (λ f h. gives_it (λ d. section_of d ≡ 0) (changed l f) refl)

-- of files
gives_files : Gives (λ d. section_of d ≡ 0) read_file_difference
unfolding read_file_difference
gives_files =
    gives_then (λ x. x < 256 ^ byte_long) (λ d. section_of d ≡ 0) (read_number byte_long) (λ k. read_number byte_long >>= λ l. read_file_of k l) (gives_number byte_long)
    (λ k h. gives_then (λ x. x < 256 ^ byte_long) (λ d. section_of d ≡ 0) (read_number byte_long) (λ l. read_file_of k l) (gives_number byte_long) (λ l i. gives_body k l))

-- of pointers
gives_pointers : Gives (λ d. section_of d ≡ 1) read_pointer_difference
unfolding read_pointer_difference section_of
gives_pointers =
    gives_then (λ x. x < 256 ^ byte_long) (λ d. section_of d ≡ 1) (read_number byte_long) (λ l. read_key >>= λ k. give (pointer_is l (pointer_of k))) (gives_number byte_long)
    (λ l h. gives_then (λ (k : Key). Any k) (λ d. section_of d ≡ 1) read_key (λ k. give (pointer_is l (pointer_of k))) gives_key (λ k i. gives_it (λ d. section_of d ≡ 1) (pointer_is l (pointer_of k)) refl))

-- of counters
gives_counters : Gives (λ d. section_of d ≡ 2) read_counter_difference
unfolding read_counter_difference section_of
gives_counters =
    gives_then (λ x. x < 256 ^ byte_long) (λ d. section_of d ≡ 2) (read_number byte_long) (λ i. read_number number_long >>= λ v. give (counter_is i v)) (gives_number byte_long)
    (λ i h. gives_then (λ x. x < 256 ^ number_long) (λ d. section_of d ≡ 2) (read_number number_long) (λ v. give (counter_is i v)) (gives_number number_long) (λ v j. gives_it (λ d. section_of d ≡ 2) (counter_is i v) refl))

-- no section that is read has more entries than its count can say
pub gives_few : Gives (λ ds. (k : ℕ) → length (section_at k ds) < 65536) read_differences
unfolding read_differences
gives_few =
    gives_then (Few 0) Q (read_section read_file_difference) (λ fs. read_section read_pointer_difference >>= λ ps. read_section read_counter_difference >>= λ cs. give (fs ++ (ps ++ cs))) (gives_section (λ d. section_of d ≡ 0) read_file_difference gives_files)
    (λ fs f. gives_then (Few 1) Q (read_section read_pointer_difference) (λ ps. read_section read_counter_difference >>= λ cs. give (fs ++ (ps ++ cs))) (gives_section (λ d. section_of d ≡ 1) read_pointer_difference gives_pointers)
    (λ ps p. gives_then (Few 2) Q (read_section read_counter_difference) (λ cs. give (fs ++ (ps ++ cs))) (gives_section (λ d. section_of d ≡ 2) read_counter_difference gives_counters)
    (λ cs c. gives_it Q (fs ++ (ps ++ cs)) (sections_few fs ps cs f.1 p.1 c.1 65536 f.0 p.0 c.0))))
  where
    Few : ℕ → List Difference → Type 0
    Few s ds = (length ds < 65536) × ((d : Difference) → In d ds → section_of d ≡ s)

    Q : List Difference → Type 0
    Q ds = (k : ℕ) → length (section_at k ds) < 65536
