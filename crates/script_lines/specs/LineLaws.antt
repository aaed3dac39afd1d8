-- Texts laid one after another are their joined text, laid once; the digits that the kit spells are the number in decimal. Assumes nothing.
use Rattle.std.specs.Prelude.{ℕ, zero, suc, ◌+◌, ◌-◌, ◌/◌, ◌%◌, ◌^◌, ◌≤◌, ◌<◌, ◌≡◌, refl, ◌⊎◌, Bool, true, false, List, [], ◌∷◌, ◌++◌, ltb, length, set, take, get_or}
use Rattle.std.proofs.Common.{sym, ap, ◌∙◌, inl, inr, append_assoc, arith, add-one, add-zero, length-append, take-suc, take_all, ltb-true, ltb-false, lt-ltb, le-ltb}
use Rattle.std.proofs.Math.Nat.{pow-le-pow_right}
use Rattle.std.proofs.lemmas.List.Edits.{sets}
use Rattle.std.proofs.Math.Seq.{length-sets}
use Rattle.model.specs.File.{key_room, longest_user}
use Rattle.io.specs.Digits.{last_digits, hex_digit_ascii, IsDigitCount}
use Rattle.lemmas.specs.Lists.{join, is_empty}
use Rattle.keys.specs.declared.Key.{Key}
use Rattle.keys.specs.declared.UserKey.{UserKey}
use Rattle.keys.specs.Key.{key_of, user_of}
use Rattle.keys.specs.KeyLaws.{held_in, held_out}
use Rattle.script_lines.specs.Lines.{laid_at, place_after, Laid, decimal_in, decimal, hex_of, hex_text, bits}

-- past the end nothing is written
set_past : (l : List ℕ) (i v : ℕ) → length l ≤ i → set l i v ≡ l
set_past [] i v h = refl
set_past (x ∷ l) zero v h = absurd (omega arith)
set_past (x ∷ l) (suc i) v h = ap (λ (t : List ℕ). x ∷ t) (set_past l i v (omega arith))

-- what is set past the end changes nothing
sets_past : (t l : List ℕ) (i : ℕ) → length l ≤ i → sets l i t ≡ l
sets_past [] l i h = refl
sets_past (v ∷ t) l i h = rw (set_past l i v h) (sets_past t l (suc i) (omega arith))

-- one run after another
sets_append : (s t l : List ℕ) (i : ℕ) → sets l i (s ++ t) ≡ sets (sets l i s) (i + length s) t
sets_append [] t l i = rw (add-zero i)
sets_append (v ∷ s) t l i = let e : i + suc (length s) ≡ suc i + length s = omega arith in rw e (sets_append s t (set l i v) (suc i))

-- from two places that are one, or both past the end
sets_from : (t l : List ℕ) (i j : ℕ) → (i ≡ j) ⊎ ((length l ≤ i) × (length l ≤ j)) → sets l i t ≡ sets l j t
sets_from t l i j (inl e) = ap (λ (k : ℕ). sets l k t) e
sets_from t l i j (inr h) = sets_past t l i h.0 ∙ sym (sets_past t l j h.1)

-- ---- the place after a text
module _ (n at m : ℕ) where
  after_in : at < n → at + m ≤ n → place_after n at m ≡ at + m
  unfolding place_after
  after_in h k = rw (lt-ltb at n h) (omega arith)

  after_full : at < n → n ≤ at + m → place_after n at m ≡ n
  unfolding place_after
  after_full h k = rw (lt-ltb at n h) (omega arith)

  after_past : n ≤ at → place_after n at m ≡ at
  unfolding place_after
  after_past h = rw (le-ltb at n h)

  -- it is the end of the text, or both are past the end
  after_is : (place_after n at m ≡ at + m) ⊎ ((n ≤ place_after n at m) × (n ≤ at + m))
  after_is = go (ltb at n) refl (ltb n (at + m)) refl
    where
      go : (t : Bool) → ltb at n ≡ t → (u : Bool) → ltb n (at + m) ≡ u → (place_after n at m ≡ at + m) ⊎ ((n ≤ place_after n at m) × (n ≤ at + m))
      go true e true f = inr (omega (arith, after_full (ltb-true at n e) (omega (arith, ltb-true n (at + m) f))), omega (arith, ltb-true n (at + m) f))
      go true e false f = inl (after_in (ltb-true at n e) (ltb-false n (at + m) f))
      go false e u f = inr (omega (arith, after_past (ltb-false at n e), ltb-false at n e), omega (arith, ltb-false at n e))

-- two texts one after another
after_after : (n at a b : ℕ) → place_after n (place_after n at a) b ≡ place_after n at (a + b)
after_after n at a b = go (ltb at n) refl (ltb (at + a) n) refl (ltb (at + (a + b)) n) refl
  where
    go : (t : Bool) → ltb at n ≡ t → (u : Bool) → ltb (at + a) n ≡ u → (v : Bool) → ltb (at + (a + b)) n ≡ v → place_after n (place_after n at a) b ≡ place_after n at (a + b)
    go false e u f v g = rw (after_past n at a (ltb-false at n e), after_past n at b (ltb-false at n e), after_past n at (a + b) (ltb-false at n e))
    go true e true f true g =
        rw (
          after_in n at a (ltb-true at n e) (omega (arith, ltb-true (at + a) n f)),
          after_in n (at + a) b (ltb-true (at + a) n f) (omega (arith, ltb-true (at + (a + b)) n g)),
          after_in n at (a + b) (ltb-true at n e) (omega (arith, ltb-true (at + (a + b)) n g)),
        ) (omega arith)
    go true e true f false g =
        rw (
          after_in n at a (ltb-true at n e) (omega (arith, ltb-true (at + a) n f)),
          after_full n (at + a) b (ltb-true (at + a) n f) (omega (arith, ltb-false (at + (a + b)) n g)),
          after_full n at (a + b) (ltb-true at n e) (ltb-false (at + (a + b)) n g),
        )
    go true e false f v g =
        rw (after_full n at a (ltb-true at n e) (ltb-false (at + a) n f), after_past n n b (omega arith), after_full n at (a + b) (ltb-true at n e) (omega (arith, ltb-false (at + a) n f)))

-- no text: nothing changes
pub laid_none : (o : List ℕ) (at : ℕ) → Laid o at [] o at
unfolding laid_at
laid_none o at = record { bytes = refl; place = go (ltb at (length o)) refl }
  where
    go : (t : Bool) → ltb at (length o) ≡ t → at ≡ place_after (length o) at 0
    go true e = omega (arith, after_in (length o) at 0 (ltb-true at (length o) e) (omega (arith, ltb-true at (length o) e)))
    go false e = sym (after_past (length o) at 0 (ltb-false at (length o) e))

-- a byte: written where there is room
pub laid_byte : (o : List ℕ) (at b : ℕ) → at < length o → Laid o at (b ∷ []) (set o at b) (at + 1)
unfolding laid_at
laid_byte o at b h = record { bytes = refl; place = sym (after_in (length o) at 1 h (omega arith)) }

-- where there is none, nothing is
pub laid_past : (o : List ℕ) (at : ℕ) (t : List ℕ) → length o ≤ at → Laid o at t o at
unfolding laid_at
laid_past o at t h = record { bytes = sym (sets_past t o at h); place = sym (after_past (length o) at (length t) h) }

-- as many bytes as before
pub laid_length : {o : List ℕ} {at : ℕ} {t o' : List ℕ} {r : ℕ} → Laid o at t o' r → length o' ≡ length o
unfolding laid_at
laid_length {o} {at} {t} l = ap length l.bytes ∙ length-sets o at t

-- one text after another: both at once
pub laid_then : {o : List ℕ} {at : ℕ} {s o' : List ℕ} {m : ℕ} {t o'' : List ℕ} {r : ℕ} → Laid o at s o' m → Laid o' m t o'' r → Laid o at (s ++ t) o'' r
unfolding laid_at
laid_then {o} {at} {s} {o'} {m} {t} {o''} {r} a b =
    let n : length (sets o at s) ≡ length o = length-sets o at s in
    let w : (m ≡ at + length s) ⊎ ((length (sets o at s) ≤ m) × (length (sets o at s) ≤ at + length s)) = rw (a.place, n) (after_is (length o) at (length s)) in
    record {
      bytes = b.bytes ∙ rw a.bytes (sets_from t (sets o at s) m (at + length s) w) ∙ sym (sets_append s t o at);
      place = b.place ∙ rw (laid_length a, a.place, length-append s t) (after_after (length o) at (length s) (length t));
    }

-- ---- numbers
-- one digit
decimal_one : (k n : ℕ) → n < 10 → decimal_in (suc k) n ≡ hex_digit_ascii n ∷ []
unfolding decimal_in
decimal_one k n h = rw (lt-ltb n 10 h)

-- the fewest digits of a number are the number in decimal
pub decimal_fewest : (k r n : ℕ) → IsDigitCount 10 1 n r → r ≤ k → last_digits 10 r n ≡ decimal_in k n
unfolding decimal_in
decimal_fewest k zero n f h = absurd (omega arith)
decimal_fewest zero (suc r) n f h = absurd (omega arith)
decimal_fewest (suc k) (suc zero) n f h =
    let small : n < 10 = omega arith in
    let e : n % 10 ≡ n = omega arith in
    ap (λ (x : ℕ). hex_digit_ascii x ∷ []) e ∙ sym (decimal_one k n small)
decimal_fewest (suc k) (suc (suc r)) n f h =
    let one : suc (suc r) - 1 ≡ suc r = omega arith in
    let low : 10 ^ (suc r) ≤ n = rw one at (f.2 (omega arith)) in
    let big : 10 ≤ n = omega arith in
    let ih : last_digits 10 (suc r) (n / 10) ≡ decimal_in k (n / 10) = decimal_fewest k (suc r) (n / 10) (omega arith, omega arith, λ q. let s : suc r - 1 ≡ r = omega arith in rw s (omega arith)) (omega arith) in
    rw (le-ltb n 10 big) (ap (λ (l : List ℕ). l ++ (hex_digit_ascii (n % 10) ∷ [])) ih)

-- as the kit spells it: a number of the machine has twenty digits at most
pub decimal_is : (r n : ℕ) → IsDigitCount 10 1 n r → n < 18446744073709551616 → last_digits 10 r n ≡ decimal n
unfolding decimal
decimal_is r n f h = decimal_fewest 20 r n f (go (ltb 20 r) refl)
  where
    go : (t : Bool) → ltb 20 r ≡ t → r ≤ 20
    go true e =
        let l : 20 < r = ltb-true 20 r e in
        let p : 10 ^ 20 ≤ 10 ^ (r - 1) = pow-le-pow_right {n = 10} (omega arith) {i = 20} {j = r - 1} (omega arith) in
        let q : 10 ^ (r - 1) ≤ n = f.2 (omega arith) in
        absurd (omega arith)
    go false e = ltb-false 20 r e

-- a number of the machine has sixteen hex digits at most
sixteen : (r n : ℕ) → IsDigitCount 16 16 n r → n < 18446744073709551616 → r ≡ 16
sixteen r n f h = go (ltb 16 r) refl
  where
    go : (t : Bool) → ltb 16 r ≡ t → r ≡ 16
    go true e =
        let l : 16 < r = ltb-true 16 r e in
        let p : 16 ^ 16 ≤ 16 ^ (r - 1) = pow-le-pow_right {n = 16} (omega arith) {i = 16} {j = r - 1} (omega arith) in
        let q : 16 ^ (r - 1) ≤ n = f.2 l in
        omega arith
    go false e = omega (arith, ltb-false 16 r e)

-- as the kit spells it
pub bits_are : (r n : ℕ) → IsDigitCount 16 16 n r → n < 18446744073709551616 → last_digits 16 r n ≡ bits n
unfolding bits
bits_are r n f h = ap (λ (k : ℕ). last_digits 16 k n) (sixteen r n f h)

-- ---- bytes in hex
-- of joined bytes
hex_of_append : (a b : List ℕ) → hex_of (a ++ b) ≡ hex_of a ++ hex_of b
unfolding hex_of join
hex_of_append [] b = refl
hex_of_append (x ∷ a) b = ap (λ (l : List ℕ). last_digits 16 2 x ++ l) (hex_of_append a b) ∙ sym (append_assoc (last_digits 16 2 x) (hex_of a) (hex_of b))

-- of one byte more
pub hex_of_next : (bytes : List ℕ) (i : ℕ) → i < length bytes → hex_of (take (i + 1) bytes) ≡ hex_of (take i bytes) ++ last_digits 16 2 (get_or bytes i 0)
unfolding hex_of join
hex_of_next bytes i h =
    rw (add-one i, take-suc bytes i 0 h, hex_of_append (take i bytes) (get_or bytes i 0 ∷ []))

-- two digits
pub two_digits : (b : ℕ) → b < 256 → hex_digit_ascii (b / 16) ∷ (hex_digit_ascii (b % 16) ∷ []) ≡ last_digits 16 2 b
two_digits b h =
    let e : (b / 16) % 16 ≡ b / 16 = omega arith in
    rw e

-- some bytes, in hex
pub hex_text_some : (bytes : List ℕ) → 0 < length bytes → hex_text bytes ≡ hex_of bytes
unfolding hex_text is_empty
hex_text_some [] h = absurd (omega arith)
hex_text_some (b ∷ bs) h = refl

-- no bytes
pub hex_text_none : (bytes : List ℕ) → length bytes ≡ 0 → hex_text bytes ≡ 45 ∷ []
unfolding hex_text is_empty
hex_text_none [] h = refl
hex_text_none (b ∷ bs) h = absurd (omega arith)

-- no byte yet
pub hex_begun : (o : List ℕ) (at : ℕ) (bytes : List ℕ) → Laid o at (hex_of (take 0 bytes)) o at
unfolding hex_of join
hex_begun o at bytes = laid_none o at

-- ---- a loop that lays a text
module _ {o : List ℕ} {at : ℕ} {o' : List ℕ} {m : ℕ} where
  -- one byte more
  pub laid_next : (text : List ℕ) (i b : ℕ) {o'' : List ℕ} {r : ℕ} → i < length text → b ≡ get_or text i 0
      → Laid o at (take i text) o' m → Laid o' m (b ∷ []) o'' r → Laid o at (take (i + 1) text) o'' r
  laid_next text i b h e l k = rw (add-one i, take-suc text i 0 h, ← e) (laid_then l k)

  -- no byte is left
  pub laid_all : (text : List ℕ) (i : ℕ) → length text ≤ i → Laid o at (take i text) o' m → Laid o at text o' m
  laid_all text i h l = rw (take_all i text h) at l

  -- one byte more in hex
  pub hex_next : (bytes : List ℕ) (i b x y : ℕ) {o'' o''' : List ℕ} {k r : ℕ} → i < length bytes → b ≡ get_or bytes i 0 → b < 256 → x ≡ hex_digit_ascii (b / 16) → y ≡ hex_digit_ascii (b % 16)
      → Laid o at (hex_of (take i bytes)) o' m → Laid o' m (x ∷ []) o'' k → Laid o'' k (y ∷ []) o''' r → Laid o at (hex_of (take (i + 1) bytes)) o''' r
  hex_next bytes i b x y {o''} {o'''} {k} {r} h e f p q l a d =
      let two : x ∷ (y ∷ []) ≡ last_digits 16 2 (get_or bytes i 0) = rw (p, q, ← e) (two_digits b f) in
      rw (hex_of_next bytes i h, ← two) (laid_then l (laid_then a d))

  -- no byte is left: some bytes in hex
  pub hex_all : (bytes : List ℕ) (i : ℕ) → 0 < length bytes → length bytes ≤ i → Laid o at (hex_of (take i bytes)) o' m → Laid o at (hex_text bytes) o' m
  hex_all bytes i s h l = rw (hex_text_some bytes s) (rw (take_all i bytes h) at l)

-- ---- keys
-- a length within the room: the first bytes in hex
pub key_in_lem : (k : Key) → k.len ≤ key_room → hex_text (key_of k) ≡ hex_text (take (k.len - 0) k.bytes)
unfolding key_of
key_in_lem k h = let e : k.len - 0 ≡ k.len = omega arith in rw e (ap hex_text (held_in key_room k.bytes k.len h))

-- a user key's bytes in hex, where its length is within its room
pub user_in : (u : UserKey) → u.len ≤ longest_user → hex_text (user_of u) ≡ hex_text (take (u.len - 0) u.bytes)
unfolding user_of
user_in u h = let e : u.len - 0 ≡ u.len = omega arith in rw e (ap hex_text (held_in longest_user u.bytes u.len h))

-- a length beyond it: none
pub key_out : (k : Key) → key_room < k.len → hex_text (key_of k) ≡ 45 ∷ []
unfolding key_of
key_out k h = ap hex_text (held_out key_room k.bytes k.len h) ∙ hex_text_none [] refl

-- a dash where it is not
pub user_out : (u : UserKey) → longest_user < u.len → hex_text (user_of u) ≡ 45 ∷ []
unfolding user_of
user_out u h = ap hex_text (held_out longest_user u.bytes u.len h) ∙ hex_text_none [] refl
