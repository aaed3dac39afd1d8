-- Which result stands for which answer of the model. Assumes nothing.
use Rattle.std.specs.Prelude.{ℕ, cond, eqb, List, length, Result, Ok, Err}
use Rattle.model.specs.Answer.{Answer, gives, refused, on_answer, first_of}
use Rattle.model.specs.Answer as model
use Rattle.answers.specs.declared.Refusal.{Refusal}
use Rattle.answers.specs.declared.Refusal.TheVariants.{Level, Key, Entries, Ends, Size, Twice, Collision, Room, Counter, Nothing, LastLevel, Backwards, Output, Form, Record}

-- the number of a refusal in the documents
abbrev pub number_of : Refusal → ℕ
number_of Level = 1
number_of Key = 2
number_of Entries = 3
number_of Ends = 4
number_of Size = 5
number_of Twice = 6
number_of Collision = 7
number_of Room = 8
number_of Counter = 9
number_of Nothing = 10
number_of LastLevel = 11
number_of Backwards = 12
number_of Output = 13
number_of Form = 14
number_of Record = 15

-- the refusal with a number. A number that no refusal has is read as the last one
abbrev pub refusal_of : ℕ → Refusal
refusal_of n =
    cond (eqb n 1) Level (cond (eqb n 2) Key (cond (eqb n 3) Entries (cond (eqb n 4) Ends (cond (eqb n 5) Size (cond (eqb n 6) Twice (cond (eqb n 7) Collision (cond (eqb n 8) Room (cond (eqb n 9) Counter (cond (eqb n 10) Nothing (cond (eqb n 11) LastLevel (cond (eqb n 12) Backwards (cond (eqb n 13) Output (cond (eqb n 14) Form Record)))))))))))))

-- the result of a call that returns nothing else: Ok if the answer has a result, else the refusal with its number
unfoldable pub outcome_of : {A : Type 0} → Answer A → Result Unit Refusal
outcome_of (gives a) = Ok tt
outcome_of (refused n) = Err (refusal_of n)

-- the result of a call whose result is kept by value: that value, else the refusal with its number
unfoldable pub result_of : {A B : Type 0} → (A → B) → Answer A → Result B Refusal
result_of f (gives a) = Ok (f a)
result_of f (refused n) = Err (refusal_of n)

-- the result of a list of tests: Ok if none applies, else refused by the first that does
unfoldable pub passed : List model.Refusal → Result Unit Refusal
passed rs = outcome_of (first_of rs rs)

-- the answer of the model that a result stands for
unfoldable pub answer_of : {A : Type 0} → Result A Refusal → Answer A
answer_of (Ok a) = gives a
answer_of (Err r) = refused (number_of r)

-- the number of places that an answer fills
unfoldable pub filling : {A : Type 0} → Answer (List A) → Answer ℕ
filling a = on_answer length a
