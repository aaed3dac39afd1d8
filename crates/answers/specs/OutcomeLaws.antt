-- Laws of refusals and their numbers, and of the outcome of a list of tests. Assumes nothing.
use Rattle.std.specs.Prelude.{ℕ, ◌≡◌, refl, Bool, true, false, cond, List, [], ◌∷◌, ◌++◌, Result, Ok, Err, IsErrAnd}
use Rattle.std.proofs.Common.{sym, ◌∙◌}
use Rattle.std.proofs.Math.Path.{ap}
use Rattle.std.proofs.lemmas.Result.{err_from_is_err_and}
use Rattle.lemmas.specs.Order.{clash}
use Rattle.model.specs.Answer.{Answer, gives, refused, Refusal, first_of, ◌⇒◌}
use Rattle.model.specs.AnswerLaws.{NoneApplies, first_of_gives, first_of_passes}
use Rattle.answers.specs.Outcome.{number_of, refusal_of, outcome_of, result_of, passed}
use Rattle.answers.specs.declared.Refusal as code
use Rattle.answers.specs.declared.Refusal.TheVariants.{Level, Key, Entries, Ends, Size, Twice, Collision, Room, Counter, Nothing, LastLevel, Backwards, Output, Form, Record}

-- the refusal with the number of a refusal is that refusal
pub refusal_of_number : (r : code.Refusal) → refusal_of (number_of r) ≡ r
refusal_of_number Level = refl
refusal_of_number Key = refl
refusal_of_number Entries = refl
refusal_of_number Ends = refl
refusal_of_number Size = refl
refusal_of_number Twice = refl
refusal_of_number Collision = refl
refusal_of_number Room = refl
refusal_of_number Counter = refl
refusal_of_number Nothing = refl
refusal_of_number LastLevel = refl
refusal_of_number Backwards = refl
refusal_of_number Output = refl
refusal_of_number Form = refl
refusal_of_number Record = refl

-- two refusals have two numbers
pub one_number : (r q : code.Refusal) → number_of r ≡ number_of q → r ≡ q
one_number r q e = sym (refusal_of_number r) ∙ ap refusal_of e ∙ refusal_of_number q

-- the outcome does not depend on the result behind the tests
outcome_same : {A B : Type 0} (rs : List Refusal) (a : A) (b : B) → outcome_of (first_of rs a) ≡ outcome_of (first_of rs b)
unfolding first_of outcome_of
outcome_same [] a b = refl
outcome_same (r ∷ rs) a b = go (outcome_same rs a b) r.applies
  where
    go : outcome_of (first_of rs a) ≡ outcome_of (first_of rs b) → (t : Bool) → outcome_of (cond t (refused r.code) (first_of rs a)) ≡ outcome_of (cond t (refused r.code) (first_of rs b))
    go ih true = refl
    go ih false = ih

-- so it is the outcome of any result behind these tests
pub passed_is : {A : Type 0} (rs : List Refusal) (a : A) → passed rs ≡ outcome_of (first_of rs a)
unfolding passed
passed_is rs a = outcome_same rs rs a

-- no test: done
pub passed_nil : passed [] ≡ Ok tt
unfolding passed first_of outcome_of
passed_nil = refl

-- by the first test
module _ (r : Refusal) (rs : List Refusal) where
  -- it applies: refused with its number
  first_here : r.applies ≡ true → passed (r ∷ rs) ≡ Err (refusal_of r.code)
  unfolding passed first_of outcome_of
  first_here e = rw e

  -- it does not: the others decide
  first_later : r.applies ≡ false → passed (r ∷ rs) ≡ passed rs
  unfolding passed first_of
  first_later e =
      ap (λ (t : Bool). outcome_of (cond t (refused r.code) (first_of rs (r ∷ rs)))) e ∙ outcome_same rs (r ∷ rs) rs

-- the same, with the test and its number written out
module _ (b : Bool) (n : ℕ) (rs : List Refusal) where
  -- it applies: refused with its number
  pub passed_here : b ≡ true → passed ((b ⇒ n) ∷ rs) ≡ Err (refusal_of n)
  unfolding ◌⇒◌
  passed_here e = first_here (b ⇒ n) rs e

  -- it does not: the others decide
  pub passed_later : b ≡ false → passed ((b ⇒ n) ∷ rs) ≡ passed rs
  unfolding ◌⇒◌
  passed_later e = first_later (b ⇒ n) rs e

-- two lists of tests joined
module _ (ys : List Refusal) where
  -- the first list refuses
  pub passed_refused : (xs : List Refusal) (r : code.Refusal) → passed xs ≡ Err r → passed (xs ++ ys) ≡ Err r
  passed_refused [] r e = let z : true ≡ false = cc passed_nil in clash refl z
  passed_refused (x ∷ xs) r e = go (passed_refused xs r) x.applies refl
    where
      go : (passed xs ≡ Err r → passed (xs ++ ys) ≡ Err r) → (t : Bool) → x.applies ≡ t → passed (x ∷ (xs ++ ys)) ≡ Err r
      go ih true f = first_here x (xs ++ ys) f ∙ sym (first_here x xs f) ∙ e
      go ih false f = first_later x (xs ++ ys) f ∙ ih (sym (first_later x xs f) ∙ e)

  -- the first list does not: the second decides
  pub passed_done : (xs : List Refusal) → passed xs ≡ Ok tt → passed (xs ++ ys) ≡ passed ys
  passed_done [] e = refl
  passed_done (x ∷ xs) e = go (passed_done xs) x.applies refl
    where
      go : (passed xs ≡ Ok tt → passed (xs ++ ys) ≡ passed ys) → (t : Bool) → x.applies ≡ t → passed (x ∷ (xs ++ ys)) ≡ passed ys
      go ih true f = let z : true ≡ false = cc (first_here x xs f) in clash refl z
      go ih false f = first_later x (xs ++ ys) f ∙ ih (sym (first_later x xs f) ∙ e)

-- done: no test applies
pub passed_none : (rs : List Refusal) → passed rs ≡ Ok tt → NoneApplies rs
unfolding passed outcome_of
passed_none rs e = go (first_of rs rs) refl
  where
    go : (a : Answer (List Refusal)) → first_of rs rs ≡ a → NoneApplies rs
    go (gives t) q = (first_of_gives rs rs t q).none_applies
    go (refused n) q = let f = rw q at e in let z : true ≡ false = cc in clash refl z

-- one test alone
module _ (b : Bool) (n : ℕ) where
  -- refused: the test applies, and its number is the refusal's
  pub one_refused : (r : code.Refusal) → passed ((b ⇒ n) ∷ []) ≡ Err r → (b ≡ true) × (r ≡ refusal_of n)
  one_refused r e = go b refl
    where
      go : (t : Bool) → b ≡ t → (b ≡ true) × (r ≡ refusal_of n)
      go true f = (f, cc (e, passed_here b n [] f))
      go false f = let z : true ≡ false = cc (e, passed_later b n [] f, passed_nil) in clash refl z

  -- done: it does not apply
  pub one_done : (u : Unit) → passed ((b ⇒ n) ∷ []) ≡ Ok u → b ≡ false
  one_done u e = go b refl
    where
      go : (t : Bool) → b ≡ t → b ≡ false
      go true f = let z : true ≡ false = cc (e, passed_here b n [] f) in clash refl z
      go false f = f

-- a call that makes these tests and then has a result
module _ {A B : Type 0} (f : A → B) (a : A) where
  -- a test refuses: so does the call
  pub result_refused : (rs : List Refusal) (r : code.Refusal) → passed rs ≡ Err r → result_of f (first_of rs a) ≡ Err r
  unfolding passed outcome_of result_of first_of
  result_refused rs r e = go (first_of rs a) refl (sym (passed_is rs a) ∙ e)
    where
      go : (x : Answer A) → first_of rs a ≡ x → outcome_of x ≡ Err r → result_of f x ≡ Err r
      go (gives y) q h = cc
      go (refused n) q h = cc

  -- none does: the call has its result
  pub result_given : (rs : List Refusal) (u : Unit) → passed rs ≡ Ok u → result_of f (first_of rs a) ≡ Ok (f a)
  unfolding result_of
  result_given rs u e = ap (result_of f) (first_of_passes rs a (passed_none rs e))

-- the result of a call that hands on a refusal by `?`
pub handed_on : {T : Type 0} (x : Result T code.Refusal) (r : code.Refusal) → IsErrAnd x (λ e. e ≡ r) → x ≡ Err r
handed_on x r h = let p = err_from_is_err_and x h in p.1 ∙ ap Err p.2

-- an answer whose outcome is a refusal has that refusal as its result in any form
pub refused_alike : {A B : Type 0} (f : A → B) (a : Answer A) (r : code.Refusal) → outcome_of a ≡ Err r → result_of f a ≡ Err r
unfolding outcome_of result_of
refused_alike f (gives x) r q = let z : true ≡ false = cc in clash refl z
refused_alike f (refused n) r q = cc
