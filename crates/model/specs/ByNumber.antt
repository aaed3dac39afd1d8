-- A level's files by rising number: the files determine the list. Assumes nothing.
use Rattle.std.specs.Prelude.{ℕ, ◌≤◌, ◌≡◌, ◌↔◌, Bool, false, ◌||◌, eqb, ltb}
use Rattle.std.proofs.Math.Path.{refl, sym, subst}
use Rattle.std.proofs.Common.{ap, ◌∙◌, eq-eqb, ltb-false, arith}
use Rattle.std.proofs.Math.Bool.{true, not}
use mathlib.Core.List.Memᴰ.{head as here}
use mathlib.Core.List.Memᴰ.{not-nil}
use mathlib.Core.List.Memᴰ.{tail as there}
use mathlib.Core.List.{List, [], ◌∷◌, Memᴰ as In}
use Rattle.std.proofs.lemmas.Bool.{not-true}
use Rattle.lemmas.specs.Order.{StrictWeak, clash, nat_order, on_order}
use Rattle.lemmas.specs.Lists.{any, sort, chain, member, distinct}
use Rattle.lemmas.specs.ListLaws.{and_left, and_right, tally, sort_in, sort_tally, sort_chain, tally_map, distinct_tally, distinct_of_tally, chain_rest}
use Rattle.model.specs.File.{File, numbers}
use Rattle.model.specs.Snapshot.{by_number}

-- the order of files by number is a strict weak order
by_number_order_lem : StrictWeak by_number
unfolding by_number
by_number_order_lem = on_order ltb (λ (f : File). f.number) nat_order

-- the files are in order of rising number
abbrev rising : List File → Bool
rising fs = chain (λ f g. not (by_number g f)) fs

-- the number of a file of the list is one of the list's numbers
member_in : (xs : List File) (b : File) → In b xs → member b.number (numbers xs) ≡ true
unfolding member any numbers
member_in [] b x' = elim x' [ ]
member_in (x ∷ xs) b (here e) = let q : eqb x.number b.number ≡ true = eq-eqb x.number b.number (ap (λ (f : File). f.number) (sym e)) in rw q
member_in (x ∷ xs) b (there m) = go (member_in xs b m) (eqb x.number b.number)
  where
    go : member b.number (numbers xs) ≡ true → (t : Bool) → (t || any (λ k. eqb k b.number) (numbers xs)) ≡ true
    go h true = refl
    go h false = h

-- if no number stands twice, the first file's number does not come again
pub not_again : (x b : File) (xs : List File) → distinct (numbers (x ∷ xs)) ≡ true → In b xs → x.number ≡ b.number → ⊥
unfolding distinct numbers
not_again x b xs d m e =
    let n : member x.number (numbers xs) ≡ false = not-true (member x.number (numbers xs)) (and_left (not (member x.number (numbers xs))) (distinct (numbers xs)) d) in
    clash (rw e (member_in xs b m)) n

-- if no number stands twice, a number has one file
pub one_number : (xs : List File) → distinct (numbers xs) ≡ true → (a b : File) → In a xs → In b xs → a.number ≡ b.number → a ≡ b
unfolding distinct numbers
one_number [] d a b x4 _ q = elim x4 [ ]
one_number (x ∷ xs) d a b (here e) (here e') q = e ∙ sym e'
one_number (x ∷ xs) d a b (here e) (there m) q = absurd (not_again x b xs d m (ap (λ (f : File). f.number) (sym e) ∙ q))
one_number (x ∷ xs) d a b (there m) (here e) q = absurd (not_again x a xs d m (ap (λ (f : File). f.number) (sym e) ∙ sym q))
one_number (x ∷ xs) d a b (there m) (there m') q = one_number xs (and_right (not (member x.number (numbers xs))) (distinct (numbers xs)) d) a b m m' q

-- ---- two sorted lists with the same files, no number twice and no ties are equal
module _ (lt : File → File → Bool) (o : StrictWeak lt) where
  -- the files are in order
  abbrev sorted : List File → Bool
  sorted fs = chain (λ f g. not (lt g f)) fs

  -- no file of a sorted list is before its first
  sorted_least : (y x : File) (xs : List File) → sorted (x ∷ xs) ≡ true → In y (x ∷ xs) → lt y x ≡ false
  unfolding chain
  sorted_least y x xs c (here e) = subst (λ (z : File). lt z x ≡ false) (sym e) (o.irrefl x)
  sorted_least y x [] c (there m) = absurd (not-nil m)
  sorted_least y x (z ∷ zs) c (there m) =
      o.ntrans y z x (sorted_least y z zs (and_right (not (lt z x)) (sorted (z ∷ zs)) c) m) (not-true (lt z x) (and_left (not (lt z x)) (sorted (z ∷ zs)) c))

  -- two such lists are equal
  pub sorted_one : (xs ys : List File) → sorted xs ≡ true → sorted ys ≡ true → distinct (numbers xs) ≡ true → distinct (numbers ys) ≡ true
      → ((f : File) → In f xs → In f ys) → ((f : File) → In f ys → In f xs) → ((f g : File) → In f xs → In g xs → lt f g ≡ false → lt g f ≡ false → f ≡ g) → xs ≡ ys
  unfolding distinct numbers
  sorted_one [] [] c d p q s t ties = refl
  sorted_one [] (y ∷ ys) c d p q s t ties = absurd (not-nil (t y (here refl)))
  sorted_one (x ∷ xs) [] c d p q s t ties = absurd (not-nil (s x (here refl)))
  sorted_one (x ∷ xs) (y ∷ ys) c d p q s t ties =
      let e : x ≡ y = ties x y (here refl) (t y (here refl)) (sorted_least x y ys d (s x (here refl))) (sorted_least y x xs c (t y (here refl))) in
      let rest = sorted_one xs ys (chain_rest (λ f g. not (lt g f)) x xs c) (chain_rest (λ f g. not (lt g f)) y ys d)
      (and_right (not (member x.number (numbers xs))) (distinct (numbers xs)) p) (and_right (not (member y.number (numbers ys))) (distinct (numbers ys)) q)
      (λ f m. over x y xs ys e p f m (s f (there m))) (λ f m. over y x ys xs (sym e) q f m (t f (there m))) (λ f g m n. ties f g (there m) (there n)) in
      cc
    where
      over : (u v : File) (us vs : List File) → u ≡ v → distinct (numbers (u ∷ us)) ≡ true → (f : File) → In f us → In f (v ∷ vs) → In f vs
      over u v us vs e h f m (here i) = absurd (not_again u f us h m (ap (λ (g : File). g.number) (e ∙ sym i)))
      over u v us vs e h f m (there k) = k

-- lists of the same files by rising number are equal
rising_one : (xs ys : List File) → rising xs ≡ true → rising ys ≡ true → distinct (numbers xs) ≡ true → distinct (numbers ys) ≡ true
    → ((f : File) → In f xs → In f ys) → ((f : File) → In f ys → In f xs) → xs ≡ ys
unfolding by_number
rising_one xs ys c d p q s t = sorted_one by_number by_number_order_lem xs ys c d p q s t
    (λ f g m n a b. one_number xs p f g m n (omega (arith, ltb-false f.number g.number a, ltb-false g.number f.number b)))

-- sorting repeats no number
pub sort_distinct : (lt : File → File → Bool) (fs : List File) → distinct (numbers fs) ≡ true → distinct (numbers (sort lt fs)) ≡ true
unfolding numbers
sort_distinct lt fs d = distinct_of_tally (numbers (sort lt fs)) (λ n. bound n)
  where
    bound : (n : ℕ) → tally (λ m. eqb m n) (numbers (sort lt fs)) ≤ 1
    bound n = omega (
      arith,
      tally_map (λ m. eqb m n) (λ (f : File). f.number) (sort lt fs),
      sort_tally lt (λ (f : File). eqb f.number n) fs,
      tally_map (λ m. eqb m n) (λ (f : File). f.number) fs,
      distinct_tally (numbers fs) n d,
    )

-- lists of the same files, no number twice, are equal when sorted by number
pub same_by_number : (xs ys : List File) → distinct (numbers xs) ≡ true → distinct (numbers ys) ≡ true → ((f : File) → In f xs ↔ In f ys) → sort by_number xs ≡ sort by_number ys
same_by_number xs ys d e h = rising_one (sort by_number xs) (sort by_number ys)
    (sort_chain by_number by_number_order_lem xs) (sort_chain by_number by_number_order_lem ys) (sort_distinct by_number xs d) (sort_distinct by_number ys e)
    (λ f m. (sort_in by_number ys f).1 ((h f).0 ((sort_in by_number xs f).0 m))) (λ f m. (sort_in by_number xs f).1 ((h f).1 ((sort_in by_number ys f).0 m)))
