-- The words of a script's line, and the record that each stands for. A word is a run of a line, from a place up to another. Assumes nothing.
use Rattle.std.specs.Prelude.{ℕ, ◌+◌, ◌-◌, ◌*◌, ◌/◌, ◌%◌, Bool, true, false, ◌&&◌, not, cond, List, [], ◌∷◌, ◌++◌, map, ltb, leb, eqb, length, get_or, take}
use Rattle.model.specs.File.{key_room, longest_user, max_counter}
use Rattle.lemmas.specs.Lists.{all, is_empty, up_from}
use Rattle.lemmas.specs.Little.{bytes}
use Rattle.script_words.specs.declared.NumberWord.{NumberWord}
use Rattle.script_words.specs.declared.KeyWord.{KeyWord}
use Rattle.script_words.specs.declared.UserWord.{UserWord}

-- the bytes of a line from a place up to another; 0 past the line's end
unfoldable pub word_of : List ℕ → ℕ → ℕ → List ℕ
word_of line from to = map (λ i. get_or line i 0) (up_from from (to - from))

-- the same bytes in the same order
unfoldable pub same : List ℕ → List ℕ → Bool
same [] [] = true
same [] (y ∷ ys) = false
same (x ∷ xs) [] = false
same (x ∷ xs) (y ∷ ys) = eqb x y && same xs ys

-- the byte is this one
unfoldable pub is_byte : ℕ → ℕ → Bool
is_byte b x = eqb x b

-- the last place that holds a byte, places counted from k; another place, where none does
unfoldable pub last_place : ℕ → ℕ → ℕ → List ℕ → ℕ
last_place b k other [] = other
last_place b k other (x ∷ xs) = last_place b (k + 1) (cond (eqb x b) k other) xs

-- ---- numbers
-- a decimal digit
unfoldable pub is_digit : ℕ → Bool
is_digit c = leb 48 c && leb c 57

-- what digits say after a number
unfoldable pub value_after : ℕ → List ℕ → ℕ
value_after n [] = n
value_after n (c ∷ cs) = value_after (n * 10 + (c - 48)) cs

-- no number
unfoldable pub no_number : NumberWord
no_number = record { fine = false; value = 0 }

-- digits that go on with a number, as long as the machine has the number
unfoldable pub number_after : ℕ → List ℕ → NumberWord
number_after n w = cond (all is_digit w && leb (value_after n w) 18446744073709551615) (record { fine = true; value = value_after n w }) no_number

-- a decimal number: at least one digit, digits alone, to the largest number of the machine
unfoldable pub number_word : List ℕ → NumberWord
number_word w = cond (is_empty w) no_number (number_after 0 w)

-- ---- hex
-- the value of a letter as a hex digit: A to F, a to f; 16 for any other byte
unfoldable pub letter_value : ℕ → ℕ
letter_value c = cond (ltb c 65) 16 (cond (leb c 70) (c - 55) (cond (ltb c 97) 16 (cond (leb c 102) (c - 87) 16)))

-- the value of a hex digit: 0 to 9 and those letters; 16 for any other byte
unfoldable pub hex_value : ℕ → ℕ
hex_value c = cond (ltb c 48) 16 (cond (leb c 57) (c - 48) (letter_value c))

-- a hex digit
unfoldable pub is_hex_digit : ℕ → Bool
is_hex_digit c = ltb (hex_value c) 16

-- hex digits alone, an even number of them and at least two
unfoldable pub is_hex : List ℕ → Bool
is_hex w = not (is_empty w) && (eqb (length w % 2) 0 && all is_hex_digit w)

-- the byte of two hex digits; 0 for what is none
unfoldable pub hex_byte : ℕ → ℕ → ℕ
hex_byte a b = cond (is_hex_digit a && is_hex_digit b) (hex_value a * 16 + hex_value b) 0

-- the bytes of a word of hex digits, two digits each
unfoldable pub hex_bytes : List ℕ → ℕ → ℕ → List ℕ
hex_bytes line from to = map (λ i. hex_byte (get_or line (from + 2 * i) 0) (get_or line (from + 2 * i + 1) 0)) (up_from 0 ((to - from) / 2))

-- ---- keys
-- what a record of forty bytes holds of a key: its byte at each place, 0 past its end
unfoldable pub forty : List ℕ → List ℕ
forty k = map (λ i. get_or k i 0) (up_from 0 key_room)

-- a key by value: its length is its own, whatever its record holds of it
unfoldable pub fine_key : List ℕ → KeyWord
fine_key k = record { fine = true; key = record { bytes = forty k; len = length k } }

-- no key
unfoldable pub no_key : KeyWord
no_key = record { fine = false; key = record { bytes = forty []; len = 0 } }

-- the trailer of a sequence and a type: none above the largest sequence
unfoldable pub trailer_of : ℕ → NumberWord → NumberWord
trailer_of kind n = cond (n.fine && leb n.value max_counter) (record { fine = true; value = n.value * 256 + kind }) no_number

-- the trailer that a sequence's word stands for: type 1, or 0 where `d` stands after the number
unfoldable pub trailer_word : List ℕ → ℕ → ℕ → NumberWord
trailer_word line from to =
    cond (ltb from to && eqb (get_or line (to - 1) 0) 100) (trailer_of 0 (number_word (word_of line from (to - 1)))) (trailer_of 1 (number_word (word_of line from to)))

-- a text and its trailer; no text whose key is longer than the machine counts
unfoldable pub sealed : List ℕ → NumberWord → KeyWord
sealed text t = cond (t.fine && leb (length text) 18446744073709551607) (fine_key (text ++ bytes 8 t.value)) no_key

-- an internal key: `-` for no bytes, a text and its sequence with `@` between them, or hex digits
unfoldable pub key_word : List ℕ → ℕ → ℕ → ℕ → KeyWord
key_word line from to mark =
    cond (same (word_of line from to) (45 ∷ [])) (fine_key [])
    (cond (ltb mark to) (sealed (word_of line from mark) (trailer_word line (mark + 1) to))
    (cond (is_hex (word_of line from to)) (fine_key (hex_bytes line from to)) no_key))

-- the mark is the last `@` of the word
unfoldable pub internal_key : List ℕ → ℕ → ℕ → KeyWord
internal_key line from to = key_word line from to (last_place 64 from to (word_of line from to))

-- a user key by value
unfoldable pub fine_user : List ℕ → UserWord
fine_user u = record { fine = true; user = record { bytes = take longest_user (forty u); len = length u } }

-- no user key
unfoldable pub no_user : UserWord
no_user = record { fine = false; user = record { bytes = take longest_user (forty []); len = 0 } }

-- a user key: `-` for no bytes, `=` and a text, or hex digits
unfoldable pub user_word : List ℕ → ℕ → ℕ → UserWord
user_word line from to =
    cond (leb to from) no_user
    (cond (same (word_of line from to) (45 ∷ [])) (fine_user [])
    (cond (eqb (get_or line from 0) 61) (fine_user (word_of line (from + 1) to))
    (cond (is_hex (word_of line from to)) (fine_user (hex_bytes line from to)) no_user)))
