-- Answer lines: what stands in lent bytes once a text is laid there, the place after it, and the texts. Assumes nothing.
use Rattle.std.specs.Prelude.{ℕ, zero, suc, ◌+◌, ◌/◌, ◌%◌, min, ◌≡◌, cond, List, [], ◌∷◌, ◌++◌, map, eqb, ltb, length}
use Rattle.std.proofs.lemmas.List.Edits.{sets}
use Rattle.io.specs.Digits.{last_digits, hex_digit_ascii}
use Rattle.lemmas.specs.Lists.{join, is_empty}

-- the bytes after a text is laid from a place on; what has no room is left out
unfoldable pub laid_at : List ℕ → ℕ → List ℕ → List ℕ
laid_at out at text = sets out at text

-- the place after m bytes laid from a place on in n bytes; where there is no room, the place itself
unfoldable pub place_after : ℕ → ℕ → ℕ → ℕ
place_after n at m = cond (ltb at n) (min (at + m) n) at

-- what a call that lays a text leaves, and the place that it answers
pub record Laid (before : List ℕ) (at : ℕ) (text after : List ℕ) (r : ℕ) : Type 0 where
  pub bytes : after ≡ laid_at before at text
  pub place : r ≡ place_after (length before) at (length text)

-- a blank, unless the line begins at this place
unfoldable pub gap_text : ℕ → List ℕ
gap_text at = cond (eqb at 0) [] (32 ∷ [])

-- a number of at most k digits in decimal, no zero in front
unfoldable pub decimal_in : ℕ → ℕ → List ℕ
decimal_in zero n = []
decimal_in (suc k) n = cond (ltb n 10) (hex_digit_ascii n ∷ []) (decimal_in k (n / 10) ++ (hex_digit_ascii (n % 10) ∷ []))

-- a number of the machine in decimal: it has at most twenty digits
unfoldable pub decimal : ℕ → List ℕ
decimal n = decimal_in 20 n

-- the sixteen hex digits of a number
unfoldable pub bits : ℕ → List ℕ
bits n = last_digits 16 16 n

-- two hex digits for each byte
unfoldable pub hex_of : List ℕ → List ℕ
hex_of bytes = join (map (last_digits 16 2) bytes)

-- bytes in hex, `-` for none
unfoldable pub hex_text : List ℕ → List ℕ
hex_text bytes = cond (is_empty bytes) (45 ∷ []) (hex_of bytes)

-- `refused` and the number
unfoldable pub refused_text : ℕ → List ℕ
refused_text n = (114 ∷ 101 ∷ 102 ∷ 117 ∷ 115 ∷ 101 ∷ 100 ∷ 32 ∷ []) ++ decimal n
