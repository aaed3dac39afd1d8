-- List functions with tests that are Booleans. The library has them only with decisions. Assumes nothing.
use Rattle.std.specs.Prelude.{ℕ, zero, suc, ◌+◌, Bool, true, false, not, ◌&&◌, ◌||◌, cond, List, [], ◌∷◌, ◌++◌, eqb}
use Rattle.std.proofs.Math.Option.{Option, none, some}

module _ {A : Type 0} where
  -- puts x in front if the test holds
  unfoldable pub push : Bool → A → List A → List A
  push true x xs = x ∷ xs
  push false x xs = xs

  -- the items that pass the test, in order
  unfoldable pub keep : (A → Bool) → List A → List A
  keep p [] = []
  keep p (x ∷ xs) = push (p x) x (keep p xs)

  -- the items that are taken one after another, each by what is taken so far, up to the first that is not. xs are taken already
  unfoldable pub take_on : (List A → A → Bool) → List A → List A → List A
  take_on p xs [] = []
  take_on p xs (y ∷ ys) = cond (p xs y) (y ∷ take_on p (xs ++ (y ∷ [])) ys) []

  -- some item passes
  unfoldable pub any : (A → Bool) → List A → Bool
  any p [] = false
  any p (x ∷ xs) = p x || any p xs

  -- all items pass
  unfoldable pub all : (A → Bool) → List A → Bool
  all p [] = true
  all p (x ∷ xs) = p x && all p xs

  -- the first item that passes
  unfoldable pub find : (A → Bool) → List A → Option A
  find p [] = none
  find p (x ∷ xs) = cond (p x) (some x) (find p xs)

  -- puts x in front of the first item that is not strictly before it
  unfoldable pub insert : (A → A → Bool) → A → List A → List A
  insert lt x [] = x ∷ []
  insert lt x (y ∷ ys) = cond (lt y x) (y ∷ insert lt x ys) (x ∷ y ∷ ys)

  -- a stable sort by insertion
  unfoldable pub sort : (A → A → Bool) → List A → List A
  sort lt [] = []
  sort lt (x ∷ xs) = insert lt x (sort lt xs)

  -- each item stands in r to the next one
  unfoldable pub chain : (A → A → Bool) → List A → Bool
  chain r [] = true
  chain r (x ∷ []) = true
  chain r (x ∷ y ∷ ys) = r x y && chain r (y ∷ ys)

  -- the lists of a list, joined
  unfoldable pub join : List (List A) → List A
  join [] = []
  join (x ∷ xs) = x ++ join xs

  -- no items
  unfoldable pub is_empty : List A → Bool
  is_empty [] = true
  is_empty (x ∷ xs) = false

-- the number is in the list
unfoldable pub member : ℕ → List ℕ → Bool
member n ns = any (λ m. eqb m n) ns

-- no number is there twice
unfoldable pub distinct : List ℕ → Bool
distinct [] = true
distinct (n ∷ ns) = not (member n ns) && distinct ns

-- the sum of a list
unfoldable pub sum : List ℕ → ℕ
sum [] = 0
sum (n ∷ ns) = n + sum ns

-- the numbers k, k + 1, .. k + n - 1
unfoldable pub up_from : ℕ → ℕ → List ℕ
up_from k zero = []
up_from k (suc n) = k ∷ up_from (suc k) n
