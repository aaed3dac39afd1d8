-- The kinds of words, and what a fault names. Assumes nothing.
use Rattle.std.specs.Prelude.{ℕ, ◌≡◌, ◌⊎◌, Bool, true, false, cond, List, [], ◌∷◌, eqb, leb, length}
use Rattle.script_words.specs.Words.{word_of, same, number_word, is_hex, internal_key, user_word}
use Rattle.script_table.specs.declared.Fault.{Fault}

-- `manifest`, `seq` or `prev`
unfoldable pub counter_name : List ℕ → Bool
counter_name w =
    cond (same w (109 ∷ 97 ∷ 110 ∷ 105 ∷ 102 ∷ 101 ∷ 115 ∷ 116 ∷ [])) true
    (cond (same w (115 ∷ 101 ∷ 113 ∷ [])) true (same w (112 ∷ 114 ∷ 101 ∷ 118 ∷ [])))

-- hex digits, or `-`
unfoldable pub bytes_word : List ℕ → Bool
bytes_word w = cond (same w (45 ∷ [])) true (is_hex w)

-- `$a` or `$b`, or bytes
unfoldable pub held_word : List ℕ → Bool
held_word w = cond (same w (36 ∷ 97 ∷ [])) true (cond (same w (36 ∷ 98 ∷ [])) true (bytes_word w))

-- `a` or `b`
unfoldable pub letter_word : List ℕ → Bool
letter_word w = cond (same w (97 ∷ [])) true (same w (98 ∷ []))

-- so many bytes can be a file's name: 1 to 4088
unfoldable pub name_long : ℕ → Bool
name_long n = cond (leb n 0) false (leb n 4088)

-- a kind of numbers: L, N, S or M
unfoldable pub of_numbers : ℕ → Bool
of_numbers kind = cond (eqb kind 76) true (cond (eqb kind 78) true (cond (eqb kind 83) true (cond (eqb kind 77) true false)))

-- the word is of a kind of snapshots: B bytes or what is kept, A a letter, G a file's name; of any other nothing is
unfoldable pub fits_snapshots : List ℕ → ℕ → Bool
fits_snapshots w kind = cond (eqb kind 66) (held_word w) (cond (eqb kind 65) (letter_word w) (cond (eqb kind 71) (name_long (length w)) false))

-- the word is of a kind that is neither one of keys nor one of numbers: H bytes, C a counter's name, T and I any word, or one of snapshots
unfoldable pub fits_other : List ℕ → ℕ → Bool
fits_other w kind = cond (eqb kind 72) (bytes_word w) (cond (eqb kind 67) (counter_name w) (cond (eqb kind 84) true (cond (eqb kind 73) true (fits_snapshots w kind))))

-- the run of a line is of the kind: K an internal key, U a user key, L, N, S and M a number, or one of the others
unfoldable pub fits : List ℕ → ℕ → ℕ → ℕ → Bool
fits line from to kind =
    cond (eqb kind 75) (internal_key line from to).fine
    (cond (eqb kind 85) (user_word line from to).fine
    (cond (of_numbers kind) (number_word (word_of line from to)).fine (fits_other (word_of line from to) kind)))

-- nothing is wrong, or the run that the fault names is not of the kind that it names
abbrev pub Named : List ℕ → Fault → Type 0
Named line f = (f.kind ≡ 0) ⊎ (fits line f.from f.to f.kind ≡ false)
