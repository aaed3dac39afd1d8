-- Answers by number: the result of a call, or the number of the first refusal that applies. Assumes nothing.
use Rattle.std.specs.Prelude.{ℕ, Bool, cond, List, [], ◌∷◌, ◌++◌, length, drop}

-- the answer of a call: its result, or the number of its refusal
pub data Answer (A : Type 0) : Type 0 where
  gives : A → Answer A
  refused : ℕ → Answer A

-- a test, and the refusal's number if the test holds
pub record Refusal : Type 0 where
  pub applies : Bool
  pub code : ℕ

infixr 20 ◌⇒◌
-- if the test holds, this number
unfoldable pub ◌⇒◌ : Bool → ℕ → Refusal
b ⇒ n = record { applies = b; code = n }

-- a list of refusals before a result
module _ {A : Type 0} where
  -- the first refusal of the list that applies. If none does, the result `a`
  unfoldable pub first_of : List Refusal → A → Answer A
  first_of [] a = gives a
  first_of (r ∷ rs) a = cond r.applies (refused r.code) (first_of rs a)

-- a result in another form
module _ {A B : Type 0} where
  -- applies f to the result. A refusal stays as it is
  unfoldable pub on_answer : (A → B) → Answer A → Answer B
  on_answer f (gives a) = gives (f a)
  on_answer f (refused n) = refused n

-- lent output
module _ {A : Type 0} where
  -- the lent output after a call: its result, then what was there past it. After a refusal, the old contents
  unfoldable pub lent : Answer (List A) → List A → List A
  lent (gives xs) out = xs ++ drop (length xs) out
  lent (refused n) out = out
