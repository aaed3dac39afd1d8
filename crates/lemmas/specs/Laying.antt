-- Parts written over a list one after another, as a loop does it, and items listed by their sorted places. For any element type. Assumes nothing.
use Rattle.std.specs.Prelude.{ℕ, ◌+◌, ◌≤◌, ◌≡◌, Bool, cond, get_or}
use Rattle.std.proofs.Math.Path.{refl}
use Rattle.std.proofs.Common.{sym, ap, ◌∙◌, arith}
use Rattle.std.proofs.Math.Bool.{true, false}
use mathlib.Core.List.{List, [], ◌∷◌, ◌++◌, map, map-map}
use Rattle.std.proofs.Math.ListN.{length, length-append}
use Rattle.lemmas.specs.Lists.{insert, sort, join, up_from}
use Rattle.lemmas.specs.Slices.{put, put_append, put_nil}
use Rattle.lemmas.specs.Maps.{sort_map}
use Rattle.lemmas.specs.UpFrom.{up_from_whole}

module _ {A : Type 0} where
  -- one run written, and another right after it, is both joined written at once
  pub put_next : (d o o' : List A) (at n : ℕ) (s t : List A) → at + length s ≤ length d → o ≡ put d at s → n ≡ at + length s → o' ≡ put o n t → o' ≡ put d at (s ++ t)
  put_next d o o' at n s t h e f g = g ∙ rw (e, f) (put_append d at s t h)

  -- the first of the parts that are left to write
  module _ (x : List A) (xs ys : List (List A)) (e : ys ≡ x ∷ xs) where
    -- it is written: writing the others after it gives the same as before
    pub part_laid : (d o : List A) (n m : ℕ) → n + length x ≤ length d → o ≡ put d n x → m ≡ n + length x → put o m (join xs) ≡ put d n (join ys)
    unfolding join
    part_laid d o n m h f g = rw (e, f, g) (put_append d n x (join xs) h)

    -- the length of the parts is its length plus that of the others
    pub part_length : length (join ys) ≡ length x + length (join xs)
    unfolding join
    part_length = rw e (length-append x (join xs))

  -- no part is left
  module _ (ys : List (List A)) (e : ys ≡ []) where
    -- nothing more is written
    pub none_laid : (d : List A) (n : ℕ) → put d n (join ys) ≡ d
    unfolding join
    none_laid d n = rw e (put_nil d n)

    -- no bytes are left
    pub none_length : length (join ys) ≡ 0
    unfolding join
    none_length = rw e

-- sorting items does not change the length of their parts joined
module _ {A B : Type 0} (w : A → List B) (lt : A → A → Bool) where
  -- one item inserted
  insert_length : (x : A) (ys : List A) → length (join (map w (insert lt x ys))) ≡ length (w x) + length (join (map w ys))
  unfolding insert join
  insert_length x [] = length-append (w x) []
  insert_length x (y ∷ ys) = go (lt y x) (insert_length x ys)
    where
      go : (t : Bool) → length (join (map w (insert lt x ys))) ≡ length (w x) + length (join (map w ys))
          → length (join (map w (cond t (y ∷ insert lt x ys) (x ∷ y ∷ ys)))) ≡ length (w x) + length (w y ++ join (map w ys))
      go true ih = omega (arith, length-append (w y) (join (map w (insert lt x ys))), length-append (w y) (join (map w ys)))
      go false ih = length-append (w x) (w y ++ join (map w ys))

  -- all items sorted
  pub sorted_length : (xs : List A) → length (join (map w (sort lt xs))) ≡ length (join (map w xs))
  unfolding sort join
  sorted_length [] = refl
  sorted_length (x ∷ xs) = omega (arith, insert_length x (sort lt xs), sorted_length xs, length-append (w x) (join (map w xs)))

-- sorting places by the items there gives the sorted items
pub sorted_places : {A : Type 0} (lt : A → A → Bool) (l : List A) (d : A)
    → map (λ i. get_or l i d) (sort (λ i j. lt (get_or l i d) (get_or l j d)) (up_from 0 (length l))) ≡ sort lt l
sorted_places lt l d = sym (sort_map (λ i. get_or l i d) lt (up_from 0 (length l))) ∙ ap (sort lt) (up_from_whole l d)

-- mapping over the places of a list is mapping over its items
pub map_places : {A B : Type 0} (w : A → B) (l : List A) (d : A) → map (λ i. w (get_or l i d)) (up_from 0 (length l)) ≡ map w l
map_places w l d = sym (map-map w (λ i. get_or l i d) (up_from 0 (length l))) ∙ ap (map w) (up_from_whole l d)
