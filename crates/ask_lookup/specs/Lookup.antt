-- The answers of lookups: the file that may hold a key, answers for lent output, and numbers from the greatest down. Assumes nothing.
use Rattle.std.specs.Prelude.{ℕ, ◌-◌, List, [], ◌∷◌, ltb, length, replicate, Option, Some, None}
use Rattle.lemmas.specs.Slices.{put}
use Rattle.model.specs.File.{max_files, max_word}
use Rattle.model.specs.Answer.{Answer, ◌⇒◌, first_of}
use Rattle.keys.specs.declared.FileNumber.{FileNumber}
use Rattle.ask_lookup.specs.declared.Column.{Column}

-- the file that may hold the key, as a list
unfoldable pub candidate_of : Option FileNumber → List ℕ
candidate_of (Some n) = n.0 ∷ []
candidate_of None = []

-- an answer for lent output: 13 if the output is shorter
unfoldable pub fitting : {A : Type 0} → ℕ → List A → Answer (List A)
fitting room xs = first_of ((ltb room (length xs) ⇒ 13) ∷ []) xs

-- ---- numbers from the greatest down

-- the distance from the largest u64
unfoldable pub flip : ℕ → ℕ
flip x = max_word - x

-- a column of numbers by value, zeros past them
unfoldable pub column_of : List ℕ → Column
column_of ns = record { numbers = put (replicate max_files 0) 0 ns; count = length ns }
