-- Laws of answers: a call returns its result exactly if no refusal applies, and else the first refusal that applies. Assumes nothing.
use Rattle.std.specs.Prelude.{ℕ, ◌≤◌, ◌≡◌, ◌⊎◌, Bool, cond, true, false, length, take, drop}
use Rattle.std.proofs.Math.Path.{refl}
use Rattle.std.proofs.Common.{ap, ◌∙◌, inl, inr, arith}
use mathlib.Core.List.Memᴰ.{append_cases}
use mathlib.Core.List.Memᴰ.{head as here}
use mathlib.Core.List.Memᴰ.{not-nil}
use mathlib.Core.List.Memᴰ.{tail as there}
use mathlib.Core.List.{List, [], ◌∷◌, ◌++◌, Memᴰ as In}
use Rattle.std.proofs.Math.ListN.{length-append, length-drop}
use Rattle.std.proofs.Math.Seq.{drop-append_seam, take-append_seam}
use Rattle.lemmas.specs.Order.{clash}
use Rattle.model.specs.Answer.{Answer, gives, refused, Refusal, ◌⇒◌, first_of, on_answer, lent}

-- no refusal of the list applies
abbrev pub NoneApplies : List Refusal → Type 0
NoneApplies rs = (r : Refusal) → In r rs → r.applies ≡ false

-- a list of refusals that lets a result through: it is the one meant, and no refusal applies
pub record Passed {A : Type 0} (rs : List Refusal) (a t : A) : Type 0 where
  pub answer : a ≡ t
  pub none_applies : NoneApplies rs

-- a result that is returned was let through
pub first_of_gives : {A : Type 0} (rs : List Refusal) (a t : A) → first_of rs a ≡ gives t → Passed rs a t
unfolding first_of
first_of_gives [] a t e = record { answer = cc; none_applies = λ r m. absurd (not-nil m) }
first_of_gives {A} (r ∷ rs) a t e = go (first_of_gives rs a t) r.applies refl
  where
    at : Passed rs a t → r.applies ≡ false → (q : Refusal) → In q (r ∷ rs) → q.applies ≡ false
    at h f q (here i) = ap (λ (x : Refusal). x.applies) i ∙ f
    at h f q (there m) = h.none_applies q m

    go : (first_of rs a ≡ gives t → Passed rs a t) → (b : Bool) → r.applies ≡ b → Passed (r ∷ rs) a t
    go ih true f = let z : true ≡ false = cc in clash refl z
    go ih false f = let h = ih (rw f at e) in record { answer = h.answer; none_applies = at h f }

-- conversely, if none applies the result is returned. So a call is accepted exactly if no refusal applies
pub first_of_passes : {A : Type 0} (rs : List Refusal) (a : A) → NoneApplies rs → first_of rs a ≡ gives a
unfolding first_of
first_of_passes [] a h = refl
first_of_passes (r ∷ rs) a h = let e = h r (here refl) in rw e (first_of_passes rs a (λ q m. h q (there m)))

-- refusals that do not apply can be left out before others
pub first_of_after : {A : Type 0} (rs qs : List Refusal) (a : A) → NoneApplies rs → first_of (rs ++ qs) a ≡ first_of qs a
unfolding first_of
first_of_after [] qs a h = refl
first_of_after (r ∷ rs) qs a h = rw (h r (here refl)) (first_of_after rs qs a (λ q m. h q (there m)))

-- the refusal with number n is the first of the list that applies
pub record First (rs : List Refusal) (n : ℕ) : Type 0 where
  pub before : List Refusal
  pub it : Refusal
  pub later : List Refusal
  pub all : rs ≡ before ++ it ∷ later
  pub none_before : NoneApplies before
  pub applies : it.applies ≡ true
  pub code : it.code ≡ n

-- a call that is refused is refused by the first refusal that applies
pub first_of_refuses : {A : Type 0} (rs : List Refusal) (a : A) (n : ℕ) → first_of rs a ≡ refused n → First rs n
unfolding first_of
first_of_refuses [] a n e = let z : true ≡ false = cc in clash refl z
first_of_refuses (r ∷ rs) a n e = go (first_of_refuses rs a n) r.applies refl
  where
    go : (first_of rs a ≡ refused n → First rs n) → (b : Bool) → r.applies ≡ b → First (r ∷ rs) n
    go ih true f = record { before = []; it = r; later = rs; all = refl; none_before = λ q m. absurd (not-nil m); applies = f; code = cc }
    go ih false f = let k = ih (rw f at e) in record {
      before = r ∷ k.before;
      it = k.it;
      later = k.later;
      all = ap (λ (x : List Refusal). r ∷ x) k.all;
      none_before = none_of k;
      applies = k.applies;
      code = k.code;
    }
      where
        none_of : (k : First rs n) → (q : Refusal) → In q (r ∷ k.before) → q.applies ≡ false
        none_of k q (here i) = ap (λ (x : Refusal). x.applies) i ∙ f
        none_of k q (there m) = k.none_before q m

-- one refusal more that does not apply
pub none_cons : (b : Bool) (n : ℕ) (rs : List Refusal) → b ≡ false → NoneApplies rs → NoneApplies ((b ⇒ n) ∷ rs)
unfolding ◌⇒◌
none_cons b n rs e h r (here i) = ap (λ (x : Refusal). x.applies) i ∙ e
none_cons b n rs e h r (there m) = h r m

-- an empty list has no refusal that applies
pub none_nil : NoneApplies []
none_nil r m = absurd (not-nil m)

-- none of two lists joined applies
pub none_both : (rs qs : List Refusal) → NoneApplies rs → NoneApplies qs → NoneApplies (rs ++ qs)
none_both rs qs h k r m = go (append_cases rs m)
  where
    go : In r rs ⊎ In r qs → r.applies ≡ false
    go (inl i) = h r i
    go (inr i) = k r i

-- applying f to the result, before or after the refusals
pub first_of_on : {A B : Type 0} (f : A → B) (rs : List Refusal) (a : A) → first_of rs (f a) ≡ on_answer f (first_of rs a)
unfolding first_of on_answer
first_of_on f [] a = refl
first_of_on f (r ∷ rs) a = go (first_of_on f rs a) r.applies
  where
    go : first_of rs (f a) ≡ on_answer f (first_of rs a) → (t : Bool) → cond t (refused r.code) (first_of rs (f a)) ≡ on_answer f (cond t (refused r.code) (first_of rs a))
    go ih true = refl
    go ih false = ih

-- ---- lent output: it keeps its length, and what lies past the result stays. After a refusal all of it stays
module _ {A : Type 0} where
  -- it keeps its length
  pub lent_length : (o : Answer (List A)) (out : List A) → ((xs : List A) → o ≡ gives xs → length xs ≤ length out) → length (lent o out) ≡ length out
  unfolding lent
  lent_length (gives xs) out h = let i = h xs refl in omega (arith, length-append xs (drop (length xs) out), length-drop (length xs) out)
  lent_length (refused n) out h = refl

  -- what lies past the result stays
  pub lent_past : (xs out : List A) → drop (length xs) (lent (gives xs) out) ≡ drop (length xs) out
  unfolding lent
  lent_past xs out = drop-append_seam xs (drop (length xs) out)

  -- its front is the result
  pub lent_answer : (xs out : List A) → take (length xs) (lent (gives xs) out) ≡ xs
  unfolding lent
  lent_answer xs out = take-append_seam xs (drop (length xs) out)
