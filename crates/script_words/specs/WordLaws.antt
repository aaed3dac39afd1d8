-- Laws of words: what a loop over a run says at each turn, and what the records of keys hold. Assumes nothing.
use Rattle.std.specs.Prelude.{ℕ, zero, suc, ◌+◌, ◌-◌, ◌*◌, ◌/◌, ◌%◌, ◌≤◌, ◌<◌, ◌≡◌, Bool, ◌&&◌, length, take, drop, set}
use Rattle.std.proofs.Math.Path.{refl, ap}
use Rattle.std.specs.List.{list_all, find, range_with_len}
use Rattle.std.specs.Option.{unwrap_or, option_map}
use Rattle.std.proofs.Common.{sym, ◌∙◌, arith, ltb, eqb, Option, Some, None, add-one, length-append, drop_of_length-le, take_all}
use Rattle.std.proofs.Math.Bool.{true, false, cond}
use mathlib.Core.List.{List, [], ◌∷◌, ◌++◌, map, append-nil}
use Rattle.std.proofs.Math.Dec.{leb}
use Rattle.std.proofs.Math.ListN.{get_or, length-map}
use borrow.Author.Tests.{lt-ltb, le-ltb, leb-true, leb-false, le-leb, lt-leb, eq-eqb, ne_eqb}
use Rattle.model.specs.File.{key_room, longest_user, max_counter}
use Rattle.lemmas.specs.Order.{clash}
use Rattle.lemmas.specs.Lists.{all, is_empty, up_from}
use Rattle.lemmas.specs.Slices.{drop_next}
use Rattle.lemmas.specs.Fronts.{lay_turn}
use Rattle.lemmas.specs.Little.{bytes, bytes_length}
use Rattle.lemmas.specs.Loops.{before_first, first_here, first_later, all_here, all_later}
use Rattle.lemmas.specs.UpFrom.{up_from_turn, up_from_end, up_from_length}
use Rattle.script_words.specs.declared.NumberWord.{NumberWord}
use Rattle.script_words.specs.Words.{word_of, same, is_byte, last_place, is_digit, value_after, no_number, number_after, number_word, hex_value, is_hex_digit, is_hex, hex_byte, hex_bytes, forty, fine_key, no_key, trailer_of, trailer_word, sealed, key_word, internal_key, fine_user, no_user, user_word}

-- ---- runs
module _ (line : List ℕ) (from to : ℕ) where
  -- its first byte
  pub word_cons : from < to → word_of line from to ≡ get_or line from 0 ∷ word_of line (from + 1) to
  unfolding word_of
  word_cons h = ap (map (λ i. get_or line i 0)) (up_from_turn from to h)

  -- no byte
  pub word_end : to ≤ from → word_of line from to ≡ []
  unfolding word_of
  word_end h = ap (map (λ i. get_or line i 0)) (up_from_end from to h)

  -- how many
  pub word_length : length (word_of line from to) ≡ to - from
  unfolding word_of
  word_length = length-map (up_from from (to - from)) (λ i. get_or line i 0) ∙ up_from_length from (to - from)

  -- some
  pub word_some : from < to → is_empty (word_of line from to) ≡ false
  unfolding is_empty
  word_some h = rw (word_cons h)

  pub word_none : to ≤ from → is_empty (word_of line from to) ≡ true
  unfolding is_empty
  word_none h = rw (word_end h)

-- ---- the first place of a byte
module _ (line : List ℕ) (i to b : ℕ) where
  pub place_here : i < to → get_or line i 0 ≡ b → before_first (is_byte b) (word_of line i to) ≡ 0
  unfolding is_byte
  place_here h e = first_here (is_byte b) (word_of line i to) (word_of line (i + 1) to) (get_or line i 0) (word_cons line i to h) (eq-eqb (get_or line i 0) b e)

  pub place_later : i < to → (get_or line i 0 ≡ b → ⊥) → before_first (is_byte b) (word_of line i to) ≡ suc (before_first (is_byte b) (word_of line (i + 1) to))
  unfolding is_byte
  place_later h e = first_later (is_byte b) (word_of line i to) (word_of line (i + 1) to) (get_or line i 0) (word_cons line i to h) (ne_eqb (get_or line i 0) b e)

  pub place_end : to ≤ i → before_first (is_byte b) (word_of line i to) ≡ 0
  unfolding before_first
  place_end h = rw (word_end line i to h)

-- ---- the last place of a byte
module _ (line : List ℕ) (i to b found : ℕ) where
  pub last_here : i < to → get_or line i 0 ≡ b → last_place b i found (word_of line i to) ≡ last_place b (i + 1) i (word_of line (i + 1) to)
  unfolding last_place
  last_here h e =
      ap (last_place b i found) (word_cons line i to h)
      ∙ ap (λ (t : Bool). last_place b (i + 1) (cond t i found) (word_of line (i + 1) to)) (eq-eqb (get_or line i 0) b e)

  pub last_later : i < to → (get_or line i 0 ≡ b → ⊥) → last_place b i found (word_of line i to) ≡ last_place b (i + 1) found (word_of line (i + 1) to)
  unfolding last_place
  last_later h e =
      ap (last_place b i found) (word_cons line i to h)
      ∙ ap (λ (t : Bool). last_place b (i + 1) (cond t i found) (word_of line (i + 1) to)) (ne_eqb (get_or line i 0) b e)

  pub last_end : to ≤ i → last_place b i found (word_of line i to) ≡ found
  unfolding last_place
  last_end h = rw (word_end line i to h)

-- ---- a run that is a text
module _ (line : List ℕ) (at to : ℕ) (text : List ℕ) (i : ℕ) where
  -- the run ends before the text
  pub same_short : to ≤ at → i < length text → same (word_of line at to) (drop i text) ≡ false
  unfolding same
  same_short h k = rw (word_end line at to h, drop_next text i (i + 1) 0 (sym (add-one i)) k)

  -- the first bytes differ
  pub same_other : at < to → i < length text → (get_or line at 0 ≡ get_or text i 0 → ⊥) → same (word_of line at to) (drop i text) ≡ false
  unfolding same
  same_other h k e = rw (word_cons line at to h, drop_next text i (i + 1) 0 (sym (add-one i)) k, ne_eqb (get_or line at 0) (get_or text i 0) e)

  -- they are one
  pub same_later : at < to → i < length text → get_or line at 0 ≡ get_or text i 0 → same (word_of line at to) (drop i text) ≡ same (word_of line (at + 1) to) (drop (i + 1) text)
  unfolding same
  same_later h k e = rw (word_cons line at to h, drop_next text i (i + 1) 0 (sym (add-one i)) k, eq-eqb (get_or line at 0) (get_or text i 0) e)

  -- the text ends
  pub same_end : length text ≤ i → same (word_of line at to) (drop i text) ≡ leb to at
  unfolding same
  same_end k = rw (drop_of_length-le text k) (go (leb to at) refl)
    where
      go : (t : Bool) → leb to at ≡ t → same (word_of line at to) [] ≡ t
      go true e = rw (word_end line at to (leb-true to at e))
      go false e = rw (word_cons line at to (leb-false to at e))

-- ---- numbers
-- digits after a number leave it no smaller
value_grows : (n : ℕ) (w : List ℕ) → n ≤ value_after n w
unfolding value_after
value_grows n [] = omega arith
value_grows n (c ∷ w) = omega (arith, value_grows (n * 10 + (c - 48)) w)

module _ (line : List ℕ) (i to n : ℕ) where
  -- no digit
  pub number_bad : i < to → is_digit (get_or line i 0) ≡ false → number_after n (word_of line i to) ≡ no_number
  unfolding number_after all
  number_bad h e = rw (word_cons line i to h, e)

  -- beyond the largest number
  pub number_over : i < to → 18446744073709551615 < n * 10 + (get_or line i 0 - 48) → number_after n (word_of line i to) ≡ no_number
  unfolding number_after value_after
  number_over h k =
      let g : n * 10 + (get_or line i 0 - 48) ≤ value_after n (word_of line i to) = rw (word_cons line i to h) (value_grows (n * 10 + (get_or line i 0 - 48)) (word_of line (i + 1) to)) in
      rw (lt-leb (value_after n (word_of line i to)) 18446744073709551615 (omega arith)) (go (all is_digit (word_of line i to)))
    where
      go : (t : Bool) → cond (t && false) (record { fine = true; value = value_after n (word_of line i to) }) no_number ≡ no_number
      go true = refl
      go false = refl

  -- a digit more
  pub number_later : i < to → is_digit (get_or line i 0) ≡ true → number_after n (word_of line i to) ≡ number_after (n * 10 + (get_or line i 0 - 48)) (word_of line (i + 1) to)
  unfolding number_after value_after all
  number_later h e = rw (word_cons line i to h, e)

  -- no digit is left
  pub number_end : to ≤ i → n ≤ 18446744073709551615 → number_after n (word_of line i to) ≡ record { fine = true; value = n }
  unfolding number_after value_after all
  number_end h k = rw (word_end line i to h, le-leb n 18446744073709551615 k)

  -- a word of no bytes
  pub number_none : to ≤ i → number_word (word_of line i to) ≡ no_number
  unfolding number_word
  number_none h = rw (word_none line i to h)

  pub number_some : i < to → number_word (word_of line i to) ≡ number_after 0 (word_of line i to)
  unfolding number_word
  number_some h = rw (word_some line i to h)

-- what is a digit
pub digit_low : (c : ℕ) → c < 48 → is_digit c ≡ false
unfolding is_digit
digit_low c h = rw (lt-leb 48 c h)

-- a byte above 9 is no digit
pub digit_high : (c : ℕ) → 48 ≤ c → 57 < c → is_digit c ≡ false
unfolding is_digit
digit_high c k h = rw (le-leb 48 c k, lt-leb c 57 h)

-- a byte from 0 to 9 is one
pub digit_in : (c : ℕ) → 48 ≤ c → c ≤ 57 → is_digit c ≡ true
unfolding is_digit
digit_in c k h = rw (le-leb 48 c k, le-leb c 57 h)

-- ---- hex
module _ (line : List ℕ) (i to : ℕ) where
  pub hex_bad : i < to → is_hex_digit (get_or line i 0) ≡ false → all is_hex_digit (word_of line i to) ≡ false
  hex_bad h e = all_here is_hex_digit (word_of line i to) (word_of line (i + 1) to) (get_or line i 0) (word_cons line i to h) e

  pub hex_later : i < to → is_hex_digit (get_or line i 0) ≡ true → all is_hex_digit (word_of line i to) ≡ all is_hex_digit (word_of line (i + 1) to)
  hex_later h e = all_later is_hex_digit (word_of line i to) (word_of line (i + 1) to) (get_or line i 0) (word_cons line i to h) e

  pub hex_end : to ≤ i → all is_hex_digit (word_of line i to) ≡ true
  unfolding all
  hex_end h = rw (word_end line i to h)

  -- the whole test
  pub hex_none : to ≤ i → is_hex (word_of line i to) ≡ false
  unfolding is_hex
  hex_none h = rw (word_none line i to h)

  pub hex_odd : i < to → ((to - i) % 2 ≡ 0 → ⊥) → is_hex (word_of line i to) ≡ false
  unfolding is_hex
  hex_odd h e = rw (word_some line i to h, word_length line i to, ne_eqb ((to - i) % 2) 0 e)

  pub hex_even : i < to → (to - i) % 2 ≡ 0 → is_hex (word_of line i to) ≡ all is_hex_digit (word_of line i to)
  unfolding is_hex
  hex_even h e = rw (word_some line i to h, word_length line i to, eq-eqb ((to - i) % 2) 0 e)

-- the first place of a run that holds a byte, or its end, is as many places on as are before it
places_found : (line : List ℕ) (b i n end : ℕ) → end ≡ i + n
    → unwrap_or (find (λ k. eqb (get_or line k 0) b) (range_with_len i n)) end ≡ i + before_first (is_byte b) (map (λ k. get_or line k 0) (up_from i n))
unfolding up_from before_first is_byte
places_found line b i zero end h = h
places_found line b i (suc n) end h = rw add-one (go (eqb (get_or line i 0) b) (places_found line b (suc i) n end (omega arith)))
  where
    found : Option ℕ
    found = find (λ k. eqb (get_or line k 0) b) (range_with_len (suc i) n)

    before : ℕ
    before = before_first (λ x. eqb x b) (map (λ k. get_or line k 0) (up_from (suc i) n))

    go : (t : Bool) → unwrap_or found end ≡ suc i + before → unwrap_or (cond t (Some i) found) end ≡ i + cond t 0 (suc before)
    go true ih = omega arith
    go false ih = omega arith

-- the same for what the search answers
pub place_found : (line : List ℕ) (b i n end : ℕ) (r : Option ℕ) → end ≡ i + n → option_map (λ (k : ℕ). k) r ≡ find (λ k. eqb (get_or line k 0) b) (range_with_len i n)
    → unwrap_or r end ≡ i + before_first (is_byte b) (map (λ k. get_or line k 0) (up_from i n))
place_found line b i n end None h e = ap (λ (o : Option ℕ). unwrap_or o end) e ∙ places_found line b i n end h
place_found line b i n end (Some k) h e = ap (λ (o : Option ℕ). unwrap_or o end) e ∙ places_found line b i n end h

-- the places of a run have hex digits alone exactly if its bytes are
pub hex_places : (line : List ℕ) (i n : ℕ) → list_all (λ k. ltb (hex_value (get_or line k 0)) 16) (range_with_len i n) ≡ all is_hex_digit (map (λ k. get_or line k 0) (up_from i n))
unfolding up_from all is_hex_digit
hex_places line i zero = refl
hex_places line i (suc n) = ap (λ (t : Bool). ltb (hex_value (get_or line i 0)) 16 && t) (rw add-one (hex_places line (suc i) n))

-- ---- what a record holds of a key
-- a byte past the end is 0
pub get_d_past : (l : List ℕ) (i : ℕ) → length l ≤ i → get_or l i 0 ≡ 0
get_d_past [] i h = refl
get_d_past (x ∷ l) zero h = absurd (omega arith)
get_d_past (x ∷ l) (suc i) h = get_d_past l i (omega arith)

-- what stands at a place counted from k
places_at : (f : ℕ → ℕ) (k n i : ℕ) → i < n → get_or (map f (up_from k n)) i 0 ≡ f (k + i)
unfolding up_from
places_at f k zero i h = absurd (omega arith)
places_at f k (suc n) zero h = let e : k + 0 ≡ k = omega arith in rw e
places_at f k (suc n) (suc i) h = let e : k + suc i ≡ suc k + i = omega arith in rw e (places_at f (suc k) n i (omega arith))

-- how many places
places_length : (f : ℕ → ℕ) (k n : ℕ) → length (map f (up_from k n)) ≡ n
places_length f k n = length-map (up_from k n) f ∙ up_from_length k n

-- a word's byte
pub word_at : (line : List ℕ) (from to i : ℕ) → i < to - from → get_or (word_of line from to) i 0 ≡ get_or line (from + i) 0
unfolding word_of
word_at line from to i h = places_at (λ j. get_or line j 0) from (to - from) i h

-- a byte of hex digits
pub hex_bytes_length : (line : List ℕ) (from to : ℕ) → length (hex_bytes line from to) ≡ (to - from) / 2
unfolding hex_bytes
hex_bytes_length line from to = places_length (λ i. hex_byte (get_or line (from + 2 * i) 0) (get_or line (from + 2 * i + 1) 0)) 0 ((to - from) / 2)

-- the byte of two hex digits
pub hex_bytes_at : (line : List ℕ) (from to i : ℕ) → i < (to - from) / 2 → get_or (hex_bytes line from to) i 0 ≡ hex_byte (get_or line (from + 2 * i) 0) (get_or line (from + 2 * i + 1) 0)
unfolding hex_bytes
hex_bytes_at line from to i h =
    places_at (λ i. hex_byte (get_or line (from + 2 * i) 0) (get_or line (from + 2 * i + 1) 0)) 0 ((to - from) / 2) i h
    ∙ let e : 0 + i ≡ i = omega arith in rw e

-- none past the last two
pub hex_bytes_past : (line : List ℕ) (from to i : ℕ) → (to - from) / 2 ≤ i → get_or (hex_bytes line from to) i 0 ≡ 0
hex_bytes_past line from to i h = get_d_past (hex_bytes line from to) i (omega (arith, hex_bytes_length line from to))

-- a byte of a record
pub forty_at : (k : List ℕ) (i : ℕ) → i < key_room → get_or (forty k) i 0 ≡ get_or k i 0
unfolding forty
forty_at k i h = places_at (λ j. get_or k j 0) 0 key_room i h ∙ let e : 0 + i ≡ i = omega arith in rw e

-- as many as a key has room for
pub forty_length : (k : List ℕ) → length (forty k) ≡ key_room
unfolding forty
forty_length k = places_length (λ j. get_or k j 0) 0 key_room

-- ---- a trailer's bytes
-- the first
pub bytes_first : (w x : ℕ) → 0 < w → get_or (bytes w x) 0 0 ≡ x % 256
unfolding bytes
bytes_first zero x h = absurd (omega arith)
bytes_first (suc w) x h = refl

-- a later one
pub bytes_later : (w x i : ℕ) → i < w → 0 < i → get_or (bytes w x) i 0 ≡ get_or (bytes (w - 1) (x / 256)) (i - 1) 0
unfolding bytes
bytes_later zero x i h k = absurd (omega arith)
bytes_later (suc w) x zero h k = absurd (omega arith)
bytes_later (suc w) x (suc i) h k =
    let e : suc w - 1 ≡ w = omega arith in
    let f : suc i - 1 ≡ i = omega arith in
    rw (e, f)

-- zeros past the bytes of a number
pub bytes_past : (w x i : ℕ) → w ≤ i → get_or (bytes w x) i 0 ≡ 0
bytes_past w x i h = get_d_past (bytes w x) i (omega (arith, bytes_length w x))

-- two lists, one after the other
pub joined_first : (a b : List ℕ) (i : ℕ) → i < length a → get_or (a ++ b) i 0 ≡ get_or a i 0
joined_first [] b i h = absurd (omega arith)
joined_first (x ∷ a) b zero h = refl
joined_first (x ∷ a) b (suc i) h = joined_first a b i (omega arith)

-- past the first of two texts stands the second
pub joined_second : (a b : List ℕ) (i : ℕ) → length a ≤ i → get_or (a ++ b) i 0 ≡ get_or b (i - length a) 0
joined_second [] b i h = let e : i - 0 ≡ i = omega arith in rw e
joined_second (x ∷ a) b zero h = absurd (omega arith)
joined_second (x ∷ a) b (suc i) h = let e : suc i - suc (length a) ≡ i - length a = omega arith in rw e (joined_second a b i (omega arith))

-- ---- a loop that fills a record
-- all are laid
pub fill_done : (src out : List ℕ) (i n : ℕ) → i ≡ n → length out ≡ n → take i src ++ drop i out ≡ take n src
fill_done src out i n e h = let p : length out ≤ n = omega arith in rw (e, drop_of_length-le out {i = n} p) (append-nil (take n src))

-- the whole record
pub forty_whole : (k : List ℕ) → take key_room (forty k) ≡ forty k
forty_whole k = take_all key_room (forty k) (omega (arith, forty_length k))

-- ---- the steps of a number
-- a number that is fine
pub fine_is : (n : NumberWord) → n.fine ≡ true → n ≡ record { fine = true; value = n.value }
fine_is n e = ap (λ (f : Bool). record { fine = f; value = n.value }) e

-- a digit more, and the machine has the number
pub next_fine : (m : NumberWord) (s : ℕ) → m ≡ cond (leb s 18446744073709551615) (record { fine = true; value = s }) no_number → m.fine ≡ true → (s ≤ 18446744073709551615) × (m.value ≡ s)
unfolding no_number
next_fine m s e f = go (leb s 18446744073709551615) refl e
  where
    go : (t : Bool) → leb s 18446744073709551615 ≡ t → m ≡ cond t (record { fine = true; value = s }) no_number → (s ≤ 18446744073709551615) × (m.value ≡ s)
    go true q e = (leb-true s 18446744073709551615 q, ap (λ (n : NumberWord). n.value) e)
    go false q e = clash f (ap (λ (n : NumberWord). n.fine) e)

-- the machine does not have it
pub next_over : (m : NumberWord) (s : ℕ) → m ≡ cond (leb s 18446744073709551615) (record { fine = true; value = s }) no_number → m.fine ≡ false → (18446744073709551615 < s) × (m ≡ no_number)
unfolding no_number
next_over m s e f = go (leb s 18446744073709551615) refl e
  where
    go : (t : Bool) → leb s 18446744073709551615 ≡ t → m ≡ cond t (record { fine = true; value = s }) no_number → (18446744073709551615 < s) × (m ≡ no_number)
    go true q e = clash (ap (λ (n : NumberWord). n.fine) e) f
    go false q e = (leb-false s 18446744073709551615 q, e)

-- ---- hex digits by value
pub hex_digit_no : (x b v : ℕ) → b ≡ x → v ≡ hex_value b → 15 < v → is_hex_digit x ≡ false
unfolding is_hex_digit
hex_digit_no x b v e f h = let q : v ≡ hex_value x = f ∙ ap hex_value e in le-ltb (hex_value x) 16 (omega arith)

-- a byte with a value up to 15 is a hex digit
pub hex_digit_yes : (x b v : ℕ) → b ≡ x → v ≡ hex_value b → v ≤ 15 → is_hex_digit x ≡ true
unfolding is_hex_digit
hex_digit_yes x b v e f h = let q : v ≡ hex_value x = f ∙ ap hex_value e in lt-ltb (hex_value x) 16 (omega arith)

module _ (a b : ℕ) where
  pub hex_byte_first : is_hex_digit a ≡ false → hex_byte a b ≡ 0
  unfolding hex_byte
  hex_byte_first e = rw e

  pub hex_byte_second : is_hex_digit a ≡ true → is_hex_digit b ≡ false → hex_byte a b ≡ 0
  unfolding hex_byte
  hex_byte_second e f = rw (e, f)

  pub hex_byte_both : is_hex_digit a ≡ true → is_hex_digit b ≡ true → hex_byte a b ≡ hex_value a * 16 + hex_value b
  unfolding hex_byte
  hex_byte_both e f = rw (e, f)

-- 0 is no hex digit
pub hex_byte_zero : (b : ℕ) → hex_byte 0 b ≡ 0
unfolding hex_byte is_hex_digit hex_value
hex_byte_zero b = refl

-- one byte more of a record
pub fill_turn : (k out₀ out : List ℕ) (i b : ℕ) → length out₀ ≡ key_room → i < key_room → out ≡ take i (forty k) ++ drop i out₀ → b ≡ get_or k i 0
    → set out i b ≡ take (i + 1) (forty k) ++ drop (i + 1) out₀
fill_turn k out₀ out i b n h e f =
    rw (e, f ∙ sym (forty_at k i h)) (lay_turn (forty k) out₀ i 0 (omega (arith, forty_length k)) (omega arith))

-- ---- the words of a key
module _ (n : NumberWord) (kind : ℕ) where
  pub trailer_none : n.fine ≡ false → trailer_of kind n ≡ no_number
  unfolding trailer_of
  trailer_none e = rw e

  pub trailer_over : n.fine ≡ true → max_counter < n.value → trailer_of kind n ≡ no_number
  unfolding trailer_of
  trailer_over e h = rw (e, lt-leb n.value max_counter h)

  pub trailer_fine : n.fine ≡ true → n.value ≤ max_counter → trailer_of kind n ≡ record { fine = true; value = n.value * 256 + kind }
  unfolding trailer_of
  trailer_fine e h = rw (e, le-leb n.value max_counter h)

module _ (line : List ℕ) (from to : ℕ) where
  pub trailer_empty : to ≤ from → trailer_word line from to ≡ trailer_of 1 (number_word (word_of line from to))
  unfolding trailer_word
  trailer_empty h = rw (le-ltb from to h)

  pub trailer_deleted : from < to → get_or line (to - 1) 0 ≡ 100 → trailer_word line from to ≡ trailer_of 0 (number_word (word_of line from (to - 1)))
  unfolding trailer_word
  trailer_deleted h e = rw (lt-ltb from to h, eq-eqb (get_or line (to - 1) 0) 100 e)

  pub trailer_put : from < to → (get_or line (to - 1) 0 ≡ 100 → ⊥) → trailer_word line from to ≡ trailer_of 1 (number_word (word_of line from to))
  unfolding trailer_word
  trailer_put h e = rw (lt-ltb from to h, ne_eqb (get_or line (to - 1) 0) 100 e)

module _ (text : List ℕ) (t : NumberWord) where
  pub sealed_none : t.fine ≡ false → sealed text t ≡ no_key
  unfolding sealed
  sealed_none e = rw e

  pub sealed_long : t.fine ≡ true → 18446744073709551607 < length text → sealed text t ≡ no_key
  unfolding sealed
  sealed_long e h = rw (e, lt-leb (length text) 18446744073709551607 h)

  pub sealed_fine : t.fine ≡ true → length text ≤ 18446744073709551607 → sealed text t ≡ fine_key (text ++ bytes 8 t.value)
  unfolding sealed
  sealed_fine e h = rw (e, le-leb (length text) 18446744073709551607 h)

-- a text and its trailer's eight bytes
pub sealed_length : (line : List ℕ) (from to x : ℕ) → length (word_of line from to ++ bytes 8 x) ≡ (to - from) + 8
sealed_length line from to x = omega (arith, length-append (word_of line from to) (bytes 8 x), word_length line from to, bytes_length 8 x)

module _ (line : List ℕ) (from to : ℕ) where
  pub key_none : same (word_of line from to) (45 ∷ []) ≡ true → internal_key line from to ≡ fine_key []
  unfolding internal_key key_word
  key_none e = rw e

  pub key_text : same (word_of line from to) (45 ∷ []) ≡ false → (mark : ℕ) → mark ≡ last_place 64 from to (word_of line from to) → mark < to
      → internal_key line from to ≡ sealed (word_of line from mark) (trailer_word line (mark + 1) to)
  unfolding internal_key key_word
  key_text e mark m h = rw (← m, e, lt-ltb mark to h)

  pub key_hex : same (word_of line from to) (45 ∷ []) ≡ false → (mark : ℕ) → mark ≡ last_place 64 from to (word_of line from to) → to ≤ mark → is_hex (word_of line from to) ≡ true
      → internal_key line from to ≡ fine_key (hex_bytes line from to)
  unfolding internal_key key_word
  key_hex e mark m h x = rw (← m, e, le-ltb mark to h, x)

  pub key_bad : same (word_of line from to) (45 ∷ []) ≡ false → (mark : ℕ) → mark ≡ last_place 64 from to (word_of line from to) → to ≤ mark → is_hex (word_of line from to) ≡ false
      → internal_key line from to ≡ no_key
  unfolding internal_key key_word
  key_bad e mark m h x = rw (← m, e, le-ltb mark to h, x)

  -- the words of a user key
  pub user_empty : to ≤ from → user_word line from to ≡ no_user
  unfolding user_word
  user_empty h = rw (le-leb to from h)

  module _ (h : from < to) where
    pub user_none : same (word_of line from to) (45 ∷ []) ≡ true → user_word line from to ≡ fine_user []
    unfolding user_word
    user_none e = rw (lt-leb to from h, e)

    module _ (e : same (word_of line from to) (45 ∷ []) ≡ false) where
      pub user_text : get_or line from 0 ≡ 61 → user_word line from to ≡ fine_user (word_of line (from + 1) to)
      unfolding user_word
      user_text f = rw (lt-leb to from h, e, eq-eqb (get_or line from 0) 61 f)

      pub user_hex : (get_or line from 0 ≡ 61 → ⊥) → is_hex (word_of line from to) ≡ true → user_word line from to ≡ fine_user (hex_bytes line from to)
      unfolding user_word
      user_hex f x = rw (lt-leb to from h, e, ne_eqb (get_or line from 0) 61 f, x)

      pub user_bad : (get_or line from 0 ≡ 61 → ⊥) → is_hex (word_of line from to) ≡ false → user_word line from to ≡ no_user
      unfolding user_word
      user_bad f x = rw (lt-leb to from h, e, ne_eqb (get_or line from 0) 61 f, x)

-- a record is that of a key
pub fine_key_is : (k b : List ℕ) (n : ℕ) → b ≡ forty k → n ≡ length k → record { fine = true; key = record { bytes = b; len = n } } ≡ fine_key k
unfolding fine_key
fine_key_is k b n e f = rw (e, f)

-- a record is that of a user key
pub fine_user_is : (u b : List ℕ) (n : ℕ) → b ≡ forty u → n ≡ length u → record { fine = true; user = record { bytes = take longest_user b; len = n } } ≡ fine_user u
unfolding fine_user
fine_user_is u b n e f = rw (e, f)

-- a text with nothing after it
pub forty_text : (w : List ℕ) (x : ℕ) → forty (w ++ bytes 0 x) ≡ forty w
unfolding bytes
forty_text w x = ap forty (append-nil w)

-- one byte more of a record's front
pub front_turn : (src out₀ out : List ℕ) (i : ℕ) → i < length src → i < length out₀ → out ≡ take i src ++ drop i out₀ → set out i (get_or src i 0) ≡ take (i + 1) src ++ drop (i + 1) out₀
front_turn src out₀ out i h k e = rw e (lay_turn src out₀ i 0 h k)
