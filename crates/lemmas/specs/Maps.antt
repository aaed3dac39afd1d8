-- The list functions of Lists under map and with tests that agree, and a sort that grows at its end. Assumes nothing.
use Rattle.std.specs.Prelude.{ℕ, zero, suc, ◌≡◌, Bool, ◌&&◌, ◌||◌, ◌⊎◌, length, get_or, set, replicate}
use Rattle.std.proofs.Math.Path.{refl, sym, ap}
use Rattle.std.proofs.Common.{◌∙◌, inl, inr}
use Rattle.std.proofs.Math.Bool.{true, false, not, cond}
use mathlib.Core.List.Memᴰ.{append_cases}
use mathlib.Core.List.Memᴰ.{head as here}
use mathlib.Core.List.Memᴰ.{not-nil}
use mathlib.Core.List.Memᴰ.{tail as there}
use mathlib.Core.List.{List, [], ◌∷◌, ◌++◌, map, map-append, Memᴰ as In}
use Rattle.std.proofs.Math.Option
use Rattle.std.proofs.Math.Option.{some}
use Rattle.std.proofs.Math.ListN.{take, drop}
use Rattle.std.proofs.lemmas.List.{length-map}
use borrow.Author.Tests.{not-true}
use Rattle.lemmas.specs.Order.{clash, StrictWeak}
use Rattle.lemmas.specs.Lists.{push, keep, any, all, find, insert, sort, chain, join}
use Rattle.lemmas.specs.ListLaws.{and_left, and_right, sort_in}
use Rattle.lemmas.specs.Slices.{open_part}
use Rattle.lemmas.specs.Loops.{before_first}

-- ---- map itself
module _ {A B : Type 0} where
  -- mapping by functions that agree
  pub map_same : (f g : A → B) (xs : List A) → ((x : A) → f x ≡ g x) → map f xs ≡ map g xs
  map_same f g [] h = refl
  map_same f g (x ∷ xs) h = rw (h x, map_same f g xs h)

  -- mapping by functions that agree on the items of the list
  pub map_same_in : (f g : A → B) (xs : List A) → ((x : A) → In x xs → f x ≡ g x) → map f xs ≡ map g xs
  map_same_in f g [] h = refl
  map_same_in f g (x ∷ xs) h = rw (h x (here refl), map_same_in f g xs (λ y m. h y (there m)))

  -- mapping a list with one place set
  pub map_set : (f : A → B) (xs : List A) (i : ℕ) (x : A) → map f (set xs i x) ≡ set (map f xs) i (f x)
  map_set f [] i x = refl
  map_set f (y ∷ ys) zero x = refl
  map_set f (y ∷ ys) (suc i) x = ap (λ (r : List B). f y ∷ r) (map_set f ys i x)

  -- mapping one element repeated
  pub map_replicate : (f : A → B) (n : ℕ) (x : A) → map f (replicate n x) ≡ replicate n (f x)
  map_replicate f zero x = refl
  map_replicate f (suc n) x = ap (λ (r : List B). f x ∷ r) (map_replicate f n x)

-- ---- the list functions under map
module _ {A B : Type 0} (f : A → B) where
  -- `push` under map
  pub push_map : (t : Bool) (x : A) (ys : List A) → push t (f x) (map f ys) ≡ map f (push t x ys)
  unfolding push
  push_map true x ys = refl
  push_map false x ys = refl

  -- `keep` under map
  pub keep_map : (p : B → Bool) (xs : List A) → keep p (map f xs) ≡ map f (keep (λ x. p (f x)) xs)
  unfolding keep
  keep_map p [] = refl
  keep_map p (x ∷ xs) = ap (push (p (f x)) (f x)) (keep_map p xs) ∙ push_map (p (f x)) x (keep (λ y. p (f y)) xs)

  -- `any` under map
  pub any_map : (p : B → Bool) (xs : List A) → any p (map f xs) ≡ any (λ x. p (f x)) xs
  unfolding any
  any_map p [] = refl
  any_map p (x ∷ xs) = ap (λ b. p (f x) || b) (any_map p xs)

  -- `all` under map
  pub all_map : (p : B → Bool) (xs : List A) → all p (map f xs) ≡ all (λ x. p (f x)) xs
  unfolding all
  all_map p [] = refl
  all_map p (x ∷ xs) = ap (λ b. p (f x) && b) (all_map p xs)

  -- `before_first` under map
  pub first_map : (p : B → Bool) (xs : List A) → before_first p (map f xs) ≡ before_first (λ x. p (f x)) xs
  unfolding before_first
  first_map p [] = refl
  first_map p (x ∷ xs) = ap (λ n. cond (p (f x)) 0 (suc n)) (first_map p xs)

  -- `find` under map
  pub find_map : (p : B → Bool) (xs : List A) → find p (map f xs) ≡ Option.map f (find (λ x. p (f x)) xs)
  unfolding find
  find_map p [] = refl
  find_map p (x ∷ xs) = go (p (f x)) (find_map p xs)
    where
      go : (t : Bool) → find p (map f xs) ≡ Option.map f (find (λ y. p (f y)) xs)
          → cond t (some (f x)) (find p (map f xs)) ≡ Option.map f (cond t (some x) (find (λ y. p (f y)) xs))
      go true ih = refl
      go false ih = ih

  -- `chain` under map
  pub chain_map : (r : B → B → Bool) (xs : List A) → chain r (map f xs) ≡ chain (λ x y. r (f x) (f y)) xs
  unfolding chain
  chain_map r [] = refl
  chain_map r (x ∷ []) = refl
  chain_map r (x ∷ y ∷ ys) = ap (λ b. r (f x) (f y) && b) (chain_map r (y ∷ ys))

  -- `join` under map
  pub join_map : (xss : List (List A)) → join (map (map f) xss) ≡ map f (join xss)
  unfolding join
  join_map [] = refl
  join_map (xs ∷ xss) = ap (λ (r : List B). map f xs ++ r) (join_map xss) ∙ sym (map-append f xs (join xss))

  -- mapping inside lists keeps their lengths
  pub lengths_map : (xss : List (List A)) → map length (map (map f) xss) ≡ map length xss
  lengths_map [] = refl
  lengths_map (xs ∷ xss) = rw (length-map xs f, lengths_map xss)

  module _ (lt : B → B → Bool) where
    -- `insert` under map
    pub insert_map : (x : A) (ys : List A) → insert lt (f x) (map f ys) ≡ map f (insert (λ a b. lt (f a) (f b)) x ys)
    unfolding insert
    insert_map x [] = refl
    insert_map x (y ∷ ys) = go (lt (f y) (f x)) (insert_map x ys)
      where
        go : (t : Bool) → insert lt (f x) (map f ys) ≡ map f (insert (λ a b. lt (f a) (f b)) x ys)
            → cond t (f y ∷ insert lt (f x) (map f ys)) (f x ∷ f y ∷ map f ys) ≡ map f (cond t (y ∷ insert (λ a b. lt (f a) (f b)) x ys) (x ∷ y ∷ ys))
        go true ih = ap (λ (r : List B). f y ∷ r) ih
        go false ih = refl

    -- `sort` under map
    pub sort_map : (xs : List A) → sort lt (map f xs) ≡ map f (sort (λ a b. lt (f a) (f b)) xs)
    unfolding sort
    sort_map [] = refl
    sort_map (x ∷ xs) = ap (insert lt (f x)) (sort_map xs) ∙ insert_map x (sort (λ a b. lt (f a) (f b)) xs)

-- ---- by tests that agree on the items of the list
module _ {A : Type 0} (p q : A → Bool) where
  -- `keep` by tests that agree
  pub keep_same : (xs : List A) → ((x : A) → In x xs → p x ≡ q x) → keep p xs ≡ keep q xs
  unfolding keep
  keep_same [] h = refl
  keep_same (x ∷ xs) h = rw (h x (here refl), keep_same xs (λ y m. h y (there m)))

  -- `any` by tests that agree
  pub any_same : (xs : List A) → ((x : A) → In x xs → p x ≡ q x) → any p xs ≡ any q xs
  unfolding any
  any_same [] h = refl
  any_same (x ∷ xs) h = rw (h x (here refl), any_same xs (λ y m. h y (there m)))

  -- `find` by tests that agree
  pub find_same : (xs : List A) → ((x : A) → In x xs → p x ≡ q x) → find p xs ≡ find q xs
  unfolding find
  find_same [] h = refl
  find_same (x ∷ xs) h = rw (h x (here refl), find_same xs (λ y m. h y (there m)))

  -- `before_first` by tests that agree
  pub first_same : (xs : List A) → ((x : A) → In x xs → p x ≡ q x) → before_first p xs ≡ before_first q xs
  unfolding before_first
  first_same [] h = refl
  first_same (x ∷ xs) h = rw (h x (here refl), first_same xs (λ y m. h y (there m)))

-- four tests in another order
and_swap : (a b c d : Bool) → (a && b) && (c && d) ≡ (a && c) && (b && d)
and_swap false b c d = refl
and_swap true true c d = refl
and_swap true false true d = refl
and_swap true false false d = refl

-- testing each item and its image is testing all items and all images
pub all_both : {A B : Type 0} (p : A → Bool) (q : B → Bool) (f : A → B) (xs : List A) → all (λ x. p x && q (f x)) xs ≡ all p xs && all q (map f xs)
unfolding all
all_both p q f [] = refl
all_both p q f (x ∷ xs) = ap (λ b. (p x && q (f x)) && b) (all_both p q f xs) ∙ and_swap (p x) (q (f x)) (all p xs) (all q (map f xs))

-- by orders that agree on the items of the list
module _ {A : Type 0} (r s : A → A → Bool) where
  -- one item inserted
  pub insert_same_in : (x : A) (ys : List A) → ((y : A) → In y ys → r y x ≡ s y x) → insert r x ys ≡ insert s x ys
  unfolding insert
  insert_same_in x [] h = refl
  insert_same_in x (y ∷ ys) h = rw (h y (here refl), insert_same_in x ys (λ z m. h z (there m)))

  -- all sorted
  pub sort_same_in : (xs : List A) → ((x y : A) → In x xs → In y xs → r x y ≡ s x y) → sort r xs ≡ sort s xs
  unfolding sort
  sort_same_in [] h = refl
  sort_same_in (x ∷ xs) h =
      ap (insert r x) (sort_same_in xs (λ a b m n. h a b (there m) (there n)))
      ∙ insert_same_in x (sort s xs) (λ y m. h y x (there ((sort_in s xs y).0 m)) (here refl))

-- by orders that agree
module _ {A : Type 0} (r s : A → A → Bool) (h : (x y : A) → r x y ≡ s x y) where
  -- sorting by orders that agree everywhere
  pub sort_same : (xs : List A) → sort r xs ≡ sort s xs
  sort_same xs = sort_same_in r s xs (λ x y m n. h x y)

module _ {A : Type 0} (p : A → Bool) where
  -- if all pass all are kept
  pub keep_all : (xs : List A) → all p xs ≡ true → keep p xs ≡ xs
  unfolding keep all push
  keep_all [] h = refl
  keep_all (x ∷ xs) h =
      let t : p x ≡ true = and_left (p x) (all p xs) h in
      rw (t, keep_all xs (and_right (p x) (all p xs) h))

  -- `keep` of two lists joined
  pub keep_append : (xs ys : List A) → keep p (xs ++ ys) ≡ keep p xs ++ keep p ys
  unfolding keep push
  keep_append [] ys = refl
  keep_append (x ∷ xs) ys = ap (push (p x) x) (keep_append xs ys) ∙ go (p x)
    where
      go : (t : Bool) → push t x (keep p xs ++ keep p ys) ≡ push t x (keep p xs) ++ keep p ys
      go true = refl
      go false = refl

  -- `all` of two lists joined
  pub all_append : (xs ys : List A) → all p (xs ++ ys) ≡ all p xs && all p ys
  unfolding all
  all_append [] ys = refl
  all_append (x ∷ xs) ys = go (p x) (all_append xs ys)
    where
      go : (t : Bool) → all p (xs ++ ys) ≡ all p xs && all p ys → t && all p (xs ++ ys) ≡ t && all p xs && all p ys
      go true ih = ih
      go false ih = refl

  -- `any` of two lists joined
  pub any_append : (xs ys : List A) → any p (xs ++ ys) ≡ any p xs || any p ys
  unfolding any
  any_append [] ys = refl
  any_append (x ∷ xs) ys = go (p x) (any_append xs ys)
    where
      go : (t : Bool) → any p (xs ++ ys) ≡ any p xs || any p ys → t || any p (xs ++ ys) ≡ t || any p xs || any p ys
      go true ih = refl
      go false ih = ih

  -- some of the kept items pass p: some item passes both tests
  pub any_keep : (q : A → Bool) (xs : List A) → any p (keep q xs) ≡ any (λ x. q x && p x) xs
  unfolding any keep push
  any_keep q [] = refl
  any_keep q (x ∷ xs) = go (q x) (any_keep q xs)
    where
      go : (t : Bool) → any p (keep q xs) ≡ any (λ y. q y && p y) xs → any p (push t x (keep q xs)) ≡ (t && p x) || any (λ y. q y && p y) xs
      go true ih = ap (λ b. p x || b) ih
      go false ih = ih

  -- `all` of many lists joined
  pub all_join : (xss : List (List A)) → all p (join xss) ≡ all (all p) xss
  unfolding all join
  all_join [] = refl
  all_join (xs ∷ xss) = all_append xs (join xss) ∙ ap (λ b. all p xs && b) (all_join xss)

  -- `any` of many lists joined
  pub any_join : (xss : List (List A)) → any p (join xss) ≡ any (any p) xss
  unfolding any join
  any_join [] = refl
  any_join (xs ∷ xss) = any_append xs (join xss) ∙ ap (λ b. any p xs || b) (any_join xss)

-- an item of many lists joined, each made of an item, is in one of them
pub of_join_map : {A B : Type 0} (g : A → List B) (xs : List A) (y : B) → In y (join (map g xs)) → (x : A) × In x xs × In y (g x)
unfolding join
of_join_map g [] y m = absurd (not-nil m)
of_join_map {A} {B} g (x ∷ xs) y m = go (of_join_map g xs y) (append_cases (g x) m)
  where
    go : (In y (join (map g xs)) → (z : A) × In z xs × In y (g z)) → In y (g x) ⊎ In y (join (map g xs)) → (z : A) × In z (x ∷ xs) × In y (g z)
    go rest (inl k) = (x, here refl, k)
    go rest (inr k) = let r = rest k in (r.0, there r.1, r.2)

-- ---- a sort that grows at its end
module _ {A : Type 0} (lt : A → A → Bool) where
  -- a list whose neighbours are in order is sorted
  pub sort_sorted : (xs : List A) → chain (λ a b. not (lt b a)) xs ≡ true → sort lt xs ≡ xs
  unfolding sort chain insert
  sort_sorted [] h = refl
  sort_sorted (x ∷ []) h = refl
  sort_sorted (x ∷ y ∷ ys) h =
      let t : lt y x ≡ false = not-true (lt y x) (and_left (not (lt y x)) (chain (λ a b. not (lt b a)) (y ∷ ys)) h) in
      let ih : sort lt (y ∷ ys) ≡ y ∷ ys = sort_sorted (y ∷ ys) (and_right (not (lt y x)) (chain (λ a b. not (lt b a)) (y ∷ ys)) h) in
      ap (insert lt x) ih ∙ rw t

  -- puts x in front of the first item that is strictly after it, so after its ties
  unfoldable pub insert_after : A → List A → List A
  insert_after x [] = x ∷ []
  insert_after x (y ∷ ys) = cond (lt x y) (x ∷ y ∷ ys) (y ∷ insert_after x ys)

  -- the same by places: x goes after the items that it is not before
  pub insert_after_at : (x : A) (ys : List A) → insert_after x ys ≡ take (before_first (lt x) ys) ys ++ (x ∷ drop (before_first (lt x) ys) ys)
  unfolding insert_after before_first
  insert_after_at x [] = refl
  insert_after_at x (y ∷ ys) = go (lt x y) (insert_after_at x ys)
    where
      go : (t : Bool) → insert_after x ys ≡ take (before_first (lt x) ys) ys ++ (x ∷ drop (before_first (lt x) ys) ys)
          → cond t (x ∷ y ∷ ys) (y ∷ insert_after x ys)
          ≡ take (cond t 0 (suc (before_first (lt x) ys))) (y ∷ ys) ++ (x ∷ drop (cond t 0 (suc (before_first (lt x) ys))) (y ∷ ys))
      go true ih = refl
      go false ih = ap (λ (l : List A). y ∷ l) ih

  -- the same in the list at place k of a list of lists
  pub insert_after_part : (ls : List (List A)) (k : ℕ) (x : A) → open_part ls k (before_first (lt x) (get_or ls k [])) x ≡ set ls k (insert_after x (get_or ls k []))
  unfolding open_part
  insert_after_part ls k x = ap (set ls k) (sym (insert_after_at x (get_or ls k [])))

  module _ (o : StrictWeak lt) where
    -- an item inserted from the front and one from the end: either may go first
    insert_swap : (a x : A) (ys : List A) → insert lt a (insert_after x ys) ≡ insert_after x (insert lt a ys)
    unfolding insert insert_after
    insert_swap a x [] = refl
    insert_swap a x (y ∷ ys) = go (insert_swap a x ys) (lt x y) (lt y a) (lt x a) refl refl refl
      where
        go : insert lt a (insert_after x ys) ≡ insert_after x (insert lt a ys) → (s t u : Bool) → lt x y ≡ s → lt y a ≡ t → lt x a ≡ u
            → insert lt a (insert_after x (y ∷ ys)) ≡ insert_after x (insert lt a (y ∷ ys))
        go ih true true true e f g = rw (e, f, g, e)
        go ih true true false e f g = clash (o.trans x y a e f) g
        go ih true false true e f g = rw (e, f, g)
        go ih true false false e f g = rw (e, f, g, e)
        go ih false true u e f g = rw (e, f, e) (ap (λ (r : List A). y ∷ r) ih)
        go ih false false true e f g = clash g (o.ntrans x y a e f)
        go ih false false false e f g = rw (e, f, g, e)

    -- one more item at the end of a list goes after its ties when sorted
    pub sort_snoc : (xs : List A) (x : A) → sort lt (xs ++ (x ∷ [])) ≡ insert_after x (sort lt xs)
    unfolding sort insert_after insert
    sort_snoc [] x = refl
    sort_snoc (a ∷ xs) x = ap (insert lt a) (sort_snoc xs x) ∙ insert_swap a x (sort lt xs)
