-- Answers held against each other: the tests say what they should, and new gives what the call of that name gives. Assumes nothing.
use Rattle.std.specs.Prelude.{ℕ, ◌≡◌, refl, Bool, true, not, ◌&&◌, List, [], ◌∷◌, ◌++◌, eqb}
use Rattle.std.proofs.Common.{ap, sym, ◌∙◌, eqb-true, eq-eqb}
use Rattle.lemmas.specs.Order.{clash}
use Rattle.lemmas.specs.ListLaws.{and_left, and_right, both}
use Rattle.model.specs.Answer.{gives, refused, ◌⇒◌, on_answer}
use Rattle.model.specs.AnswerLaws.{first_of_on}
use Rattle.model.specs.File.{Profile, State, well_formed, set_counters}
use Rattle.model.specs.Counters.{new, counted, counter_beyond, counter}
use Rattle.model.specs.Calls.{Handed, new_number}
use Rattle.model.specs.Snapshot.{same_bytes}
use Rattle.model.proofs.Reading.{same_eq, eq_same}
use Rattle.model.specs.History.{Call, counts, after, run}
use Rattle.model_replay.specs.Given.{Why, scored, by_hand, Said, accepted, handed, picked, Given, count_says, given, answers, same_list, same_file, same_why, same_choice, same_said, same_given}

-- a test that says whether two values are the same
pub record Decides {A : Type 0} (t : A → A → Bool) : Type 0 where
  pub sound : (a b : A) → t a b ≡ true → a ≡ b
  pub same : (a : A) → t a a ≡ true

-- ---- the tests
-- numbers
number_decides : Decides eqb
number_decides = record { sound = eqb-true; same = λ n. eq-eqb n n refl }

-- bytes
bytes_decide : Decides same_bytes
bytes_decide = record { sound = same_eq; same = eq_same }

-- lists that pass the test of their parts are one
list_sound : {A : Type 0} (t : A → A → Bool) → Decides t → (xs ys : List A) → same_list t xs ys ≡ true → xs ≡ ys
unfolding same_list
list_sound t d [] [] e = refl
list_sound t d [] (y ∷ ys) e = clash e refl
list_sound t d (x ∷ xs) [] e = clash e refl
list_sound t d (x ∷ xs) (y ∷ ys) e =
    let p : x ≡ y = d.sound x y (and_left (t x y) (same_list t xs ys) e) in
    let q : xs ≡ ys = list_sound t d xs ys (and_right (t x y) (same_list t xs ys) e) in
    cc

-- a list passes with itself
list_same : {A : Type 0} (t : A → A → Bool) → Decides t → (xs : List A) → same_list t xs xs ≡ true
unfolding same_list
list_same t d [] = refl
list_same t d (x ∷ xs) = both (t x x) (same_list t xs xs) (d.same x) (list_same t d xs)

-- lists
pub list_decides : {A : Type 0} (t : A → A → Bool) → Decides t → Decides (same_list t)
list_decides t d = record { sound = list_sound t d; same = list_same t d }

-- files
pub file_decides : Decides same_file
unfolding same_file
file_decides = record {
  sound = λ f g e.
      let a = eqb f.number g.number in
      let b = eqb f.size g.size in
      let c = same_bytes f.smallest g.smallest in
      let d = same_bytes f.largest g.largest in
      let abc = and_left (a && b && c) d e in
      let ab = and_left (a && b) c abc in
      let n = eqb-true f.number g.number (and_left a b ab) in
      let z = eqb-true f.size g.size (and_right a b ab) in
      let l = same_eq f.smallest g.smallest (and_right (a && b) c abc) in
      let h = same_eq f.largest g.largest (and_right (a && b && c) d e) in
      λ i. record { number = n i; size = z i; smallest = l i; largest = h i };
  same = λ f. rw (number_decides.same f.number, number_decides.same f.size, eq_same f.smallest, eq_same f.largest);
}

-- causes
why_sound : (a b : Why) → same_why a b ≡ true → a ≡ b
unfolding same_why
why_sound (scored a) (scored b) e = ap scored (eqb-true a b e)
why_sound (scored a) by_hand e = clash e refl
why_sound by_hand (scored b) e = clash e refl
why_sound by_hand by_hand e = refl

-- a cause passes with itself
why_same : (a : Why) → same_why a a ≡ true
unfolding same_why
why_same (scored a) = eq-eqb a a refl
why_same by_hand = refl

-- picked answers
pub choice_decides : Decides same_choice
unfolding same_choice
choice_decides = record {
  sound = λ x y e.
      let a = eqb x.level y.level in
      let b = same_why x.why y.why in
      let c = eqb x.maximum y.maximum in
      let d = same_list same_file x.first y.first in
      let f = same_list same_file x.second y.second in
      let g = same_list same_file x.grand y.grand in
      let s₅ = and_left (a && b && c && d && f) g e in
      let s₄ = and_left (a && b && c && d) f s₅ in
      let s₃ = and_left (a && b && c) d s₄ in
      let s₂ = and_left (a && b) c s₃ in
      let t₁ = eqb-true x.level y.level (and_left a b s₂) in
      let t₂ = why_sound x.why y.why (and_right a b s₂) in
      let t₃ = eqb-true x.maximum y.maximum (and_right (a && b) c s₃) in
      let t₄ = list_sound same_file file_decides x.first y.first (and_right (a && b && c) d s₄) in
      let t₅ = list_sound same_file file_decides x.second y.second (and_right (a && b && c && d) f s₅) in
      let t₆ = list_sound same_file file_decides x.grand y.grand (and_right (a && b && c && d && f) g e) in
      λ i. record { level = t₁ i; why = t₂ i; maximum = t₃ i; first = t₄ i; second = t₅ i; grand = t₆ i };
  same = λ x. rw (
    number_decides.same x.level,
    why_same x.why,
    number_decides.same x.maximum,
    list_same same_file file_decides x.first,
    list_same same_file file_decides x.second,
    list_same same_file file_decides x.grand,
  );
}

-- what accepted calls say
said_sound : (a b : Said) → same_said a b ≡ true → a ≡ b
unfolding same_said
said_sound accepted accepted e = refl
said_sound accepted (handed n) e = clash e refl
said_sound accepted (picked d) e = clash e refl
said_sound (handed n) accepted e = clash e refl
said_sound (handed n) (handed m) e = ap handed (eqb-true n m e)
said_sound (handed n) (picked d) e = clash e refl
said_sound (picked c) accepted e = clash e refl
said_sound (picked c) (handed n) e = clash e refl
said_sound (picked c) (picked d) e = ap picked (choice_decides.sound c d e)

-- it passes with itself
said_same : (a : Said) → same_said a a ≡ true
unfolding same_said
said_same accepted = refl
said_same (handed n) = eq-eqb n n refl
said_same (picked c) = choice_decides.same c

-- answers that pass are one
given_sound : (a b : Given) → same_given a b ≡ true → a ≡ b
unfolding same_given
given_sound (gives a) (gives b) e = ap (λ (x : Said). gives x) (said_sound a b e)
given_sound (gives a) (refused n) e = clash e refl
given_sound (refused n) (gives b) e = clash e refl
given_sound (refused n) (refused m) e = ap (λ (x : ℕ). refused x) (eqb-true n m e)

-- an answer passes with itself
given_same : (a : Given) → same_given a a ≡ true
unfolding same_given
given_same (gives a) = said_same a
given_same (refused n) = eq-eqb n n refl

-- the test of two answers says whether they are the same
pub given_decides : Decides same_given
given_decides = record { sound = given_sound; same = given_same }

-- ---- new: the number that it hands out, or its refusal, as the call itself answers
pub given_new : (p : Profile) (s : State) → given p s (counts new) ≡ on_answer (λ (h : Handed). handed h.number) (new_number p s)
unfolding given counter new_number count_says
given_new p s =
    let rs = (not (well_formed p s) ⇒ 14) ∷ (counter_beyond new s.counters ⇒ 9) ∷ [] in
    let t = set_counters s (counted new s.counters) in
    sym (first_of_on (λ (x : State). handed s.counters.next) rs t)
    ∙ first_of_on (λ (h : Handed). handed h.number) rs (record { number = s.counters.next; after = t })

-- ---- one part of a history after another
pub run_append : (p : Profile) (s : State) (cs ds : List Call) → run p s (cs ++ ds) ≡ run p (run p s cs) ds
unfolding run
run_append p s [] ds = refl
run_append p s (c ∷ cs) ds = run_append p (after p s c) cs ds

-- what the calls of the second part give, they give on the state that the first part leaves
pub answers_append : (p : Profile) (s : State) (cs ds : List Call) → answers p s (cs ++ ds) ≡ answers p s cs ++ answers p (run p s cs) ds
unfolding answers run
answers_append p s [] ds = refl
answers_append p s (c ∷ cs) ds = ap (λ (x : List Given). given p s c ∷ x) (answers_append p (after p s c) cs ds)
