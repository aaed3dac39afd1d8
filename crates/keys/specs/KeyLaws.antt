-- Laws of key records: one key has one sound record, and no key is longer than its room. Each law is proved once for any room. Assumes nothing.
use Rattle.std.specs.Prelude.{ℕ, zero, suc, ◌+◌, ◌-◌, ◌≤◌, ◌<◌, min, ◌≡◌, Bool, ◌&&◌, eqb, take, get_or}
use Rattle.std.proofs.Math.Path.{refl}
use Rattle.std.proofs.Common.{sym, ◌∙◌, ap, take-append-drop, take-take, get_or-take}
use Rattle.std.proofs.Math.Bool.{true, false, cond}
use mathlib.Core.List.{List, [], ◌∷◌, ◌++◌}
use native.Mathlib.Omega.{arith}
use Rattle.std.proofs.Math.Dec.{leb, ltb}
use Rattle.std.proofs.Math.ListN.{length, drop, replicate, length-append, length-take, length-drop, length-replicate}
use Rattle.std.proofs.lemmas.List.{replicate-append-replicate}
use Rattle.std.proofs.Math.Pow.{are_bytes}
use Rattle.std.proofs.Math.Seq.{take-append_seam, drop-append_seam, take_all, drop_at, drop-nil}
use borrow.Author.Tests.{leb-true, leb-false, le-leb, lt-leb, ltb-true, ltb-false, eqb-true}
use Rattle.lemmas.specs.Lists.{all}
use Rattle.lemmas.specs.ListLaws.{and_left, and_right, both}
use Rattle.lemmas.specs.Fronts.{front_front}
use Rattle.lemmas.specs.AreBytes.{bytes_take, bytes_at}
use Rattle.lemmas.specs.Little.{number, number_drop}
use Rattle.lemmas.specs.Order.{by_first}
use Rattle.model.specs.Key as model
use Rattle.model.specs.File.{full, key_room, longest_user}
use Rattle.keys.specs.declared.Key.{Key}
use Rattle.keys.specs.declared.UserKey.{UserKey}
use Rattle.std.specs.declared.cmp.Ordering.TheVariants.{Less, Equal, Greater}
use Rattle.octets.specs.Octets.{is_zero, standing}
use Rattle.octets.specs.StandingLaws.{standing_less, standing_equal, standing_greater}
use Rattle.keys.specs.Key.{held, key_of, user_of, padded, key_record, user_record, sound, sound_key, laid}

-- ---- the bytes that a record holds
module _ (room : ℕ) (bytes : List ℕ) (len : ℕ) where
  -- a length within the room: the first `len` bytes
  pub held_in : len ≤ room → held room bytes len ≡ take len bytes
  unfolding held
  held_in h = rw (le-leb len room h)

  -- a length beyond the room: no bytes
  pub held_out : room < len → held room bytes len ≡ []
  unfolding held
  held_out h = rw (lt-leb len room h)

  -- the number of bytes held
  pub held_len : length bytes ≡ room → cond (leb len room) len 0 ≡ length (held room bytes len)
  unfolding held
  held_len q = go (leb len room) refl
    where
      go : (t : Bool) → leb len room ≡ t → cond t len 0 ≡ length (cond t (take len bytes) [])
      go true e = omega (arith, length-take len bytes, leb-true len room e)
      go false e = refl

  -- no more bytes than the room has
  pub held_length : length (held room bytes len) ≤ room
  held_length = go (leb len room) refl
    where
      go : (t : Bool) → leb len room ≡ t → length (held room bytes len) ≤ room
      go true e = rw (held_in (leb-true len room e)) (omega (arith, length-take len bytes, leb-true len room e))
      go false e = rw (held_out (leb-false len room e)) (omega arith)

  -- the bytes held are a front part of the room
  pub held_front : length bytes ≡ room → held room bytes len ≡ take (length (held room bytes len)) bytes
  held_front q = go (leb len room) refl
    where
      go : (t : Bool) → leb len room ≡ t → held room bytes len ≡ take (length (held room bytes len)) bytes
      go true e =
          let h : len ≤ room = leb-true len room e in
          let n : length (take len bytes) ≡ len = omega (arith, length-take len bytes) in
          rw (held_in h, n)
      go false e = rw (held_out (leb-false len room e))

  -- they are bytes, if the room's are
  pub held_bytes : are_bytes bytes ≡ true → are_bytes (held room bytes len) ≡ true
  held_bytes q = go (leb len room) refl
    where
      go : (t : Bool) → leb len room ≡ t → are_bytes (held room bytes len) ≡ true
      go true e = rw (held_in (leb-true len room e)) (bytes_take len bytes q)
      go false e = rw (held_out (leb-false len room e))

-- ---- records with zeros past the end, for any room
-- zeros pass the test for zeros
zeros_all : (n : ℕ) → all is_zero (replicate n 0) ≡ true
unfolding all is_zero
zeros_all zero = refl
zeros_all (suc n) = zeros_all n

-- bytes that pass it are zeros
all_zeros : (l : List ℕ) → all is_zero l ≡ true → l ≡ replicate (length l) 0
unfolding all is_zero
all_zeros [] e = refl
all_zeros (b ∷ bs) e = cc (eqb-true b 0 (and_left (eqb b 0) (all is_zero bs) e), all_zeros bs (and_right (eqb b 0) (all is_zero bs) e))

module _ (room : ℕ) (x : List ℕ) (h : length x ≤ room) where
  -- a padded key fills the room
  pub padded_length : length (padded room x) ≡ room
  unfolding padded
  padded_length = omega (arith, length-append x (replicate (room - length x) 0), length-replicate {A = ℕ} (room - length x) 0)

  -- the record of a key holds the key
  pub held_padded : held room (padded room x) (length x) ≡ x
  unfolding padded
  held_padded = held_in room (x ++ replicate (room - length x) 0) (length x) h ∙ take-append_seam x (replicate (room - length x) 0)

  -- that record is sound
  pub sound_padded : sound room (padded room x) (length x) ≡ true
  unfolding sound padded
  sound_padded =
      both (leb (length x) room) (all is_zero (drop (length x) (x ++ replicate (room - length x) 0))) (le-leb (length x) room h)
      (rw (drop-append_seam x (replicate (room - length x) 0)) (zeros_all (room - length x)))

  -- a key copied into a room of zeros is the padded key
  pub laid_zeros : laid x (replicate room 0) ≡ padded room x
  unfolding laid padded
  laid_zeros =
      let whole : room ≡ length x + (room - length x) = omega arith in
      let e : replicate {A = ℕ} room 0 ≡ replicate {A = ℕ} (length x) 0 ++ replicate (room - length x) 0 =
      rw (replicate-append-replicate {A = ℕ} (length x) (room - length x) 0) (ap (λ (n : ℕ). replicate {A = ℕ} n 0) whole) in
      rw (length-replicate {A = ℕ} room 0, take_all room x h)
      (ap (λ (t : List ℕ). x ++ t) (ap (drop (length x)) e ∙ drop_at (replicate (length x) 0) (replicate (room - length x) 0) (length x) (length-replicate {A = ℕ} (length x) 0)))

module _ (room : ℕ) (bytes : List ℕ) (len : ℕ) (q : length bytes ≡ room) (s : sound room bytes len ≡ true) where
  -- a sound record has its length within its room
  sound_len : len ≤ room
  unfolding sound
  sound_len = leb-true len room (and_left (leb len room) (all is_zero (drop len bytes)) s)

  -- a sound record holds as many bytes as its length says
  pub sound_held : length (held room bytes len) ≡ len
  sound_held = rw (held_in room bytes len sound_len) (omega (arith, length-take len bytes, sound_len))

  -- a sound record is the bytes that it holds, padded
  pub padded_held : padded room (held room bytes len) ≡ bytes
  unfolding sound padded
  padded_held =
      let z : drop len bytes ≡ replicate (length (drop len bytes)) 0 = all_zeros (drop len bytes) (and_right (leb len room) (all is_zero (drop len bytes)) s) in
      let n : length (drop len bytes) ≡ room - len = omega (arith, length-drop len bytes) in
      rw (sound_held, held_in room bytes len sound_len, ← n, ← z) (take-append-drop len bytes)

-- ---- internal keys
-- no key is longer than the room
pub key_of_length : (k : Key) → length (key_of k) ≤ key_room
unfolding key_of
key_of_length k = held_length key_room k.bytes k.len

-- a key is a front part of its record
pub key_of_front : (k : Key) → length k.bytes ≡ key_room → key_of k ≡ take (length (key_of k)) k.bytes
unfolding key_of
key_of_front k q = held_front key_room k.bytes k.len q

-- a byte of the key is that of its record
pub key_of_at : (k : Key) → length k.bytes ≡ key_room → (i : ℕ) → i < length (key_of k) → get_or (key_of k) i 0 ≡ get_or k.bytes i 0
key_of_at k q i h = ap (λ (l : List ℕ). get_or l i 0) (key_of_front k q) ∙ get_or-take (length (key_of k)) k.bytes i 0 h

-- a key's elements are bytes if the record's are
pub key_of_bytes : (k : Key) → are_bytes k.bytes ≡ true → are_bytes (key_of k) ≡ true
unfolding key_of
key_of_bytes k q = held_bytes key_room k.bytes k.len q

-- the kept record of a key fills its room
pub key_record_length : (x : List ℕ) → length x ≤ key_room → length (key_record x).bytes ≡ key_room
unfolding key_record
key_record_length x h = padded_length key_room x h

-- the kept record of a key stands for that key
pub key_of_record : (x : List ℕ) → length x ≤ key_room → key_of (key_record x) ≡ x
unfolding key_of key_record
key_of_record x h = held_padded key_room x h

-- a record of no bytes is sound if all its room is 0
pub sound_empty : (k : Key) → k.len ≡ 0 → sound_key k ≡ all is_zero k.bytes
unfolding sound_key sound
sound_empty k e = rw e

-- the kept record of a key is sound
pub record_sound : (x : List ℕ) → length x ≤ key_room → sound_key (key_record x) ≡ true
unfolding sound_key key_record
record_sound x h = sound_padded key_room x h

-- one key has one sound record
pub sound_is : (k : Key) → length k.bytes ≡ key_room → sound_key k ≡ true → k ≡ key_record (key_of k)
unfolding key_of key_record sound_key
sound_is k q s =
    let p : k.bytes ≡ padded key_room (held key_room k.bytes k.len) = sym (padded_held key_room k.bytes k.len q s) in
    let n : k.len ≡ length (held key_room k.bytes k.len) = sym (sound_held key_room k.bytes k.len q s) in
    λ i. record { bytes = p i; len = n i }

-- the key of a sound record is its first `len` bytes, and the room has them
pub sound_front : (k : Key) → length k.bytes ≡ key_room → sound_key k ≡ true → (k.len ≤ length k.bytes) × (take k.len k.bytes ≡ key_of k)
unfolding key_of sound_key
sound_front k q s =
    let h = sound_len key_room k.bytes k.len q s in
    (omega arith, sym (held_in key_room k.bytes k.len h))

-- testing the first bytes of the room is testing the record and its key: beyond the room both fail
pub whole_is : (longest : ℕ) (k : Key) → sound key_room k.bytes k.len && model.good_key longest (take k.len k.bytes) ≡ sound_key k && model.good_key longest (key_of k)
unfolding key_of sound_key sound held
whole_is longest k = go (leb k.len key_room)
  where
    go : (t : Bool) → t && all is_zero (drop k.len k.bytes) && model.good_key longest (take k.len k.bytes)
        ≡ t && all is_zero (drop k.len k.bytes) && model.good_key longest (cond t (take k.len k.bytes) [])
    go true = refl
    go false = refl

-- ---- user keys
-- no user key is longer than the room
pub user_of_length : (u : UserKey) → length (user_of u) ≤ longest_user
unfolding user_of
user_of_length u = held_length longest_user u.bytes u.len

-- a user key is a front part of its record
pub user_of_front : (u : UserKey) → length u.bytes ≡ longest_user → user_of u ≡ take (length (user_of u)) u.bytes
unfolding user_of
user_of_front u q = held_front longest_user u.bytes u.len q

-- a user key's elements are bytes if the record's are
pub user_of_bytes : (u : UserKey) → are_bytes u.bytes ≡ true → are_bytes (user_of u) ≡ true
unfolding user_of
user_of_bytes u q = held_bytes longest_user u.bytes u.len q

-- the kept record of a user key stands for that user key
pub user_of_record : (x : List ℕ) → length x ≤ longest_user → user_of (user_record x) ≡ x
unfolding user_of user_record
user_of_record x h = held_padded longest_user x h

-- ---- the user key of an internal key
-- it has eight bytes fewer
pub user_length : (x : List ℕ) → length (model.user x) ≡ length x - 8
unfolding model.user
user_length x = omega (arith, length-take (length x - 8) x)

-- it fits the room of a user key
pub user_short : (k : Key) → length (model.user (key_of k)) ≤ longest_user
user_short k = omega (arith, user_length (key_of k), key_of_length k)

-- it is a front part of the key's record
pub user_front : (k : Key) → length k.bytes ≡ key_room → model.user (key_of k) ≡ take (length (model.user (key_of k))) k.bytes
unfolding model.user
user_front k q = front_front (length (key_of k) - 8) (key_of k) k.bytes (omega arith) (key_of_front k q)

-- of the first m bytes of a room, the user key is the first m - 8
pub user_taken : (room : List ℕ) (m x : ℕ) → m ≤ length room → x ≡ m - 8 → model.user (take m room) ≡ take x room
unfolding model.user
user_taken room m x h e =
    let n : length (take m room) - 8 ≡ x = omega (arith, length-take m room) in
    rw n (take-take x m room (omega arith))

-- ---- the trailer
-- a key of no bytes has type 0
pub kind_none : (x : List ℕ) → length x ≡ 0 → model.kind x ≡ 0
unfolding model.kind model.trailer number
kind_none [] h = refl
kind_none (y ∷ x) h = absurd (omega arith)

-- the type is the trailer's lowest byte
pub kind_at : (x : List ℕ) → are_bytes x ≡ true → 0 < length x → model.kind x ≡ get_or x (length x - 8) 0
unfolding model.kind model.trailer
kind_at x e h = omega (arith, number_drop x (length x - 8) (omega arith), bytes_at x (length x - 8) e)

-- the sequence is the trailer without its lowest byte. j is the place after that byte, or the end
pub sequence_from : (x : List ℕ) (j : ℕ) → are_bytes x ≡ true → min (length x - 8 + 1) (length x) ≤ j → j ≤ length x → j ≤ length x - 8 + 1
    → number (drop j x) ≡ model.sequence x
unfolding model.sequence model.trailer number
sequence_from [] j e g h k = rw (drop-nil j)
sequence_from (y ∷ x) j e g h k =
    let l = y ∷ x in
    let p : j ≡ length l - 8 + 1 = omega arith in
    rw p (omega (arith, number_drop l (length l - 8) (omega arith), bytes_at l (length l - 8) e))

-- a good key, part by part
pub record GoodKey (longest : ℕ) (x : List ℕ) : Type 0 where
  pub long : 9 ≤ length x
  pub short : length x ≤ longest + 8
  pub of_bytes : are_bytes x ≡ true
  pub kinds : model.kind x ≤ 1

-- the test says each part
pub good_says : (longest : ℕ) (x : List ℕ) → model.good_key longest x ≡ true → GoodKey longest x
unfolding model.good_key
good_says longest x g =
    let a = leb 9 (length x) in
    let b = leb (length x) (longest + 8) in
    let p : (a && b && are_bytes x) ≡ true = and_left (a && b && are_bytes x) (leb (model.kind x) 1) g in
    let r : (a && b) ≡ true = and_left (a && b) (are_bytes x) p in
    record {
      long = leb-true 9 (length x) (and_left a b r);
      short = leb-true (length x) (longest + 8) (and_right a b r);
      of_bytes = and_right (a && b) (are_bytes x) p;
      kinds = leb-true (model.kind x) 1 (and_right (a && b && are_bytes x) (leb (model.kind x) 1) g);
    }

-- a key of right length is good by its type alone
pub good_is : (longest : ℕ) (x : List ℕ) → 9 ≤ length x → length x ≤ longest + 8 → are_bytes x ≡ true → model.good_key longest x ≡ leb (model.kind x) 1
unfolding model.good_key
good_is longest x g h e = rw (le-leb 9 (length x) g, le-leb (length x) (longest + 8) h, e)

-- a key of eight bytes or fewer is not good
pub too_short : (longest : ℕ) (x : List ℕ) → length x ≤ 8 → model.good_key longest x ≡ false
unfolding model.good_key
too_short longest x h = rw (lt-leb 9 (length x) (omega arith))

-- a user key within the longest is good if it has a byte
pub good_user_is : (longest : ℕ) (u : List ℕ) → length u ≤ longest → are_bytes u ≡ true → model.good_user longest u ≡ ltb 0 (length u)
unfolding model.good_user
good_user_is longest u h e = rw (le-leb (length u) longest h, e) (true_right (leb 1 (length u)))
  where
    true_right : (t : Bool) → (t && true && true) ≡ t
    true_right true = refl
    true_right false = refl

-- a good key fits the room
pub good_length : (x : List ℕ) → model.good_key full.longest x ≡ true → length x ≤ key_room
unfolding full
good_length x g = (good_says longest_user x g).short

-- ---- how two internal keys stand: by their user keys, then the larger rank first
module _ (a b : List ℕ) where
  -- x and y differ and stand as the user keys do: x < y tells whether the key is before
  pub before_users : (x y : ℕ) → (x ≡ y → ⊥) → (x < y → standing model.user_before (model.user a) (model.user b) ≡ Less)
      → (y < x → standing model.user_before (model.user a) (model.user b) ≡ Greater) → ltb x y ≡ model.before a b
  unfolding model.before by_first
  before_users x y d l g = go (ltb x y) refl
    where
      go : (t : Bool) → ltb x y ≡ t → t ≡ model.before a b
      go true e = rw (standing_less model.user_before (model.user a) (model.user b) (l (ltb-true x y e)))
      go false e =
          let h = standing_greater model.user_before (model.user a) (model.user b) (g (omega (arith, ltb-false x y e))) in
          rw (h.0, h.1)

  -- equal user keys: the larger rank is first
  pub before_ranks : standing model.user_before (model.user a) (model.user b) ≡ Equal → model.before a b ≡ ltb (model.rank b) (model.rank a)
  unfolding model.before by_first
  before_ranks e =
      let h = standing_equal model.user_before (model.user a) (model.user b) e in
      rw (h.0, h.1)
