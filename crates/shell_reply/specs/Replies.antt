-- The texts of answers: forms with numbers in them, lists of numbers, short answers. Assumes nothing.
use Rattle.std.specs.Prelude.{ℕ, ◌+◌, ◌-◌, cond, ◌&&◌, List, [], ◌∷◌, ◌++◌, map, eqb, leb, length, get_or, take, drop, Result, Ok, Err}
use Rattle.model.specs.File.{max_files}
use Rattle.answers.specs.Outcome as answers
use Rattle.answers.specs.declared.Refusal.{Refusal}
use Rattle.records.specs.declared.FileRecord.{FileRecord}
use Rattle.script_lines.specs.Lines.{decimal, bits, hex_text, refused_text}
use Rattle.shell_reply.specs.declared.Said.{Said}
use Rattle.shell_reply.specs.declared.Said.TheVariants.{Agreed, Nothing, Mark, Number, Next, Denied}

-- what one byte of a form stands for: `%` a number in decimal, `#` its sixteen hex digits, any other byte itself
unfoldable pub mark_text : ℕ → ℕ → List ℕ
mark_text mark n = cond (eqb mark 37) (decimal n) (cond (eqb mark 35) (bits n) (mark ∷ []))

-- the place of the number that the next mark stands for; there are five
unfoldable pub next_place : ℕ → ℕ → ℕ
next_place mark k = cond (leb 5 k) k (cond (eqb mark 37) (k + 1) (cond (eqb mark 35) (k + 1) k))

-- a form, its marks in turn filled with the numbers from a place on
unfoldable pub form_text : List ℕ → List ℕ → ℕ → List ℕ
form_text numbers [] k = []
form_text numbers (mark ∷ form) k = mark_text mark (get_or numbers k 0) ++ form_text numbers form (next_place mark k)

-- a comma and a number
unfoldable pub more_text : ℕ → List ℕ
more_text n = (44 ∷ []) ++ decimal n

-- a comma before each number
unfoldable pub more_texts : List ℕ → List ℕ
more_texts [] = []
more_texts (n ∷ ns) = more_text n ++ more_texts ns

-- numbers joined by commas, `-` for none
unfoldable pub numbers_text : List ℕ → List ℕ
numbers_text [] = 45 ∷ []
numbers_text (n ∷ ns) = decimal n ++ more_texts ns

-- a record's number
unfoldable pub number_of : FileRecord → ℕ
number_of f = f.number.0

-- the numbers of the records from a place up to another; `-` for what is no run of the array
unfoldable pub files_text : List FileRecord → ℕ → ℕ → List ℕ
files_text files from to = cond (leb from to && leb to max_files) (numbers_text (take (to - from) (drop from (map number_of files)))) (45 ∷ [])

-- `ok`, or the refusal
abbrev pub said_by : Result Unit Refusal → Said
said_by (Ok u) = Agreed
said_by (Err r) = Denied r

-- the next file number
unfoldable pub next_text : ℕ → List ℕ
next_text n = (110 ∷ 101 ∷ 120 ∷ 116 ∷ 61 ∷ []) ++ decimal n

-- the first n bytes in hex; nothing if there are not so many
unfoldable pub front_text : ℕ → List ℕ → List ℕ
front_text n bytes = cond (leb n (length bytes)) (hex_text (take n bytes)) []

-- a short answer
abbrev pub said_text : Said → List ℕ
said_text Agreed = 111 ∷ 107 ∷ []
said_text Nothing = 110 ∷ 111 ∷ 110 ∷ 101 ∷ []
said_text (Mark b) = b ∷ []
said_text (Number n) = decimal n
said_text (Next n) = next_text n
said_text (Denied r) = refused_text (answers.number_of r)
