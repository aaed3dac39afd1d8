-- Laws of the counters. Assumes nothing.
use Rattle.std.specs.Prelude.{ℕ, ◌≡◌, refl, Bool, cond, true, false, not, [], ◌∷◌}
use mathlib.Core.List.Memᴰ.{head as here}
use mathlib.Core.List.Memᴰ.{tail as there}
use Rattle.std.proofs.lemmas.Bool.{not-false}
use Rattle.std.proofs.Common.{arith}
use Rattle.model.specs.Answer.{gives, refused, ◌⇒◌, first_of, on_answer}
use Rattle.model.specs.File.{Profile, State, well_formed, set_counters}
use Rattle.model.specs.Counters.{CounterCall, new, reuse, counted, counter_beyond, counter}
use Rattle.model.specs.Calls.{new_number}
use Rattle.model.specs.AnswerLaws.{first_of_gives, first_of_on}

-- an accepted counter call: no refusal applies, and its result
pub record Counted (p : Profile) (s : State) (c : CounterCall) (t : State) : Type 0 where
  pub result : set_counters s (counted c s.counters) ≡ t
  pub formed : well_formed p s ≡ true
  pub bounded : counter_beyond c s.counters ≡ false

-- a counter call that gives a state was accepted so
pub count_accepted : (p : Profile) (s : State) (c : CounterCall) (t : State) → counter p s c ≡ gives t → Counted p s c t
unfolding counter ◌⇒◌
count_accepted p s c t h =
    let rs = (not (well_formed p s) ⇒ 14) ∷ (counter_beyond c s.counters ⇒ 9) ∷ [] in
    let r = first_of_gives rs (set_counters s (counted c s.counters)) t h in
    record {
      result = r.answer;
      formed = not-false (well_formed p s) (r.none_applies (not (well_formed p s) ⇒ 14) (here refl));
      bounded = r.none_applies (counter_beyond c s.counters ⇒ 9) (there (here refl));
    }

-- reuse never refuses with 9
pub reuse_never_9 : (p : Profile) (s : State) (n : ℕ) → counter p s (reuse n) ≡ refused 9 → ⊥
unfolding counter counter_beyond first_of ◌⇒◌
reuse_never_9 p s n h = go (well_formed p s) h
  where
    go : (t : Bool) → cond (not t) (refused 14) (gives (set_counters s (counted (reuse n) s.counters))) ≡ refused 9 → ⊥
    go true e = let z : ◌≡◌ {A = ℕ} 0 1 = cc in omega arith
    go false e = let z : ◌≡◌ {A = ℕ} 14 9 = cc in omega arith

-- `new_file_number` is the counter call `new` with the old next number beside its state
pub new_is : (p : Profile) (s : State) → new_number p s ≡ on_answer (λ t. record { number = s.counters.next; after = t }) (counter p s new)
unfolding new_number counter
new_is p s = first_of_on (λ t. record { number = s.counters.next; after = t }) ((not (well_formed p s) ⇒ 14) ∷ (counter_beyond new s.counters ⇒ 9) ∷ []) (set_counters s (counted new s.counters))
