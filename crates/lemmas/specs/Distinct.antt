-- Lists of numbers without repetition: over a run, by counting, and for a list that grows at its end. Assumes nothing.
use Rattle.std.specs.Prelude.{ℕ, ◌+◌, ◌≤◌, ◌<◌, ◌≡◌, refl, Bool, true, false, not, ◌&&◌, ◌||◌, List, [], ◌∷◌, ◌++◌, length, get_or, take, drop}
use Rattle.std.proofs.Common.{sym, ap, ◌∙◌, append_assoc, append-nil, arith, add-one, take-append-drop, take-suc, take_all, eq-eqb, ne_eqb}
use Rattle.std.proofs.Math.Dec.{eqb}
use Rattle.std.proofs.Math.Seq.{slice}
use Rattle.lemmas.specs.Order.{clash}
use Rattle.lemmas.specs.Lists.{member, distinct}
use Rattle.lemmas.specs.ListLaws.{tally, tally_append, distinct_tally, distinct_of_tally}
use Rattle.lemmas.specs.Slices.{rest_cons}
use Rattle.lemmas.specs.Maps.{any_append}
use Rattle.lemmas.specs.Loops.{any_found, any_passed, any_ended}

-- two tests that imply each other are equal
pub same_test : (a b : Bool) → (a ≡ true → b ≡ true) → (b ≡ true → a ≡ true) → a ≡ b
same_test true true h k = refl
same_test false false h k = refl
same_test true false h k = clash (h refl) refl
same_test false true h k = clash (k refl) refl

-- ---- a loop that looks for a number in a run
module _ (n i e : ℕ) (l : List ℕ) where
  -- the number is at place i
  pub member_found : i < e → e ≤ length l → get_or l i 0 ≡ n → member n (slice i e l) ≡ true
  unfolding member
  member_found h k t = any_found (λ m. eqb m n) i e l 0 h k (eq-eqb (get_or l i 0) n t)

  -- it is not at place i: the answer is that of the places after i
  pub member_passed : i < e → e ≤ length l → (get_or l i 0 ≡ n → ⊥) → member n (slice i e l) ≡ member n (slice (i + 1) e l)
  unfolding member
  member_passed h k t = any_passed (λ m. eqb m n) i e l 0 h k (ne_eqb (get_or l i 0) n t)

  -- no place is left: it is not there
  pub member_ended : i ≤ e → e ≤ i → member n (slice i e l) ≡ false
  unfolding member
  member_ended h k = any_ended (λ m. eqb m n) i e l 0 h k

-- ---- by counting

-- lists that hold each number equally often agree on whether a number stands twice
pub distinct_tallies : (a b : List ℕ) → ((n : ℕ) → tally (λ m. eqb m n) a ≡ tally (λ m. eqb m n) b) → distinct a ≡ distinct b
distinct_tallies a b h =
    same_test (distinct a) (distinct b)
    (λ d. distinct_of_tally b (λ n. rw (← h n) (distinct_tally a n d)))
    (λ d. distinct_of_tally a (λ n. rw (h n) (distinct_tally b n d)))

-- ---- a list that grows at its end

-- a number is in two lists joined if it is in one of them
pub member_either : (n : ℕ) (a b : List ℕ) → member n (a ++ b) ≡ (member n a || member n b)
unfolding member
member_either n a b = any_append (λ m. eqb m n) a b

-- a number between two lists may as well stand before both
pub distinct_mid : (a b : List ℕ) (x : ℕ) → distinct (a ++ (x ∷ b)) ≡ (not (member x (a ++ b)) && distinct (a ++ b))
unfolding distinct
distinct_mid a b x = distinct_tallies (a ++ (x ∷ b)) (x ∷ (a ++ b)) same
  where
    same : (n : ℕ) → tally (λ m. eqb m n) (a ++ (x ∷ b)) ≡ tally (λ m. eqb m n) (x ∷ (a ++ b))
    same n =
        let p : ℕ → Bool = λ m. eqb m n in
        omega (arith, tally_append p a (x ∷ b), tally_append p a b, tally_append p (x ∷ []) b, tally_append p (x ∷ []) (a ++ b))

-- the numbers of b are put at the end of a one by one. This is about the one at place i of b
module _ (a b : List ℕ) (i : ℕ) (h : i < length b) where
  -- it is there already: a number stands twice
  pub onto_found : member (get_or b i 0) (a ++ take i b) ≡ true → distinct (a ++ b) ≡ false
  onto_found t =
      let x = get_or b i 0 in
      let r = drop (i + 1) b in
      let e : a ++ b ≡ (a ++ take i b) ++ (x ∷ r) =
      ap (λ (z : List ℕ). a ++ z) (sym (take-append-drop i b) ∙ ap (λ (z : List ℕ). take i b ++ z) (rest_cons b i 0 h)) ∙ sym (append_assoc a (take i b) (x ∷ r)) in
      rw (e, distinct_mid (a ++ take i b) r x, member_either x (a ++ take i b) r, t)

  -- it is not there yet: the answer stays
  pub onto_passed : member (get_or b i 0) (a ++ take i b) ≡ false → distinct (a ++ take (i + 1) b) ≡ distinct (a ++ take i b)
  onto_passed t =
      let x = get_or b i 0 in
      let e : a ++ take (i + 1) b ≡ (a ++ take i b) ++ (x ∷ []) =
      rw (add-one i, take-suc b i 0 h) (sym (append_assoc a (take i b) (x ∷ []))) in
      rw (e, distinct_mid (a ++ take i b) [] x, append-nil (a ++ take i b), t)

-- all numbers of b have been put there
pub onto_ended : (a b : List ℕ) (i : ℕ) → length b ≤ i → distinct (a ++ take i b) ≡ distinct (a ++ b)
onto_ended a b i h = ap (λ (z : List ℕ). distinct (a ++ z)) (take_all i b h)
