-- Laws of keys: what the tests say, what the order weighs, and a key's parts. Assumes nothing.
use Rattle.std.specs.Prelude.{ℕ, ◌+◌, ◌*◌, ◌-◌, ◌^◌, ◌<◌, ◌≤◌, ◌≡◌, refl, ◌↔◌, Bool, true, false, ◌&&◌, List, ◌++◌, ltb, leb, length}
use Rattle.std.proofs.Common.{sym, length-append, take_at, drop_at, arith}
use borrow.Author.Tests.{lt-ltb, ltb-false, le-ltb, leb-true, le-leb}
use Rattle.std.proofs.Math.Pow.{are_bytes}
use Rattle.lemmas.specs.Order.{StrictWeak, clash, by_first, nat_order, flip_order, on_order, then_order, lex_order, lex_same, first_keys}
use Rattle.lemmas.specs.ListLaws.{and_left, and_right, both}
use Rattle.lemmas.specs.Little.{bytes, bytes_length, bytes_number}
use Rattle.model.specs.Key.{Key, user, trailer, sequence, kind, key, good_user, good_key, user_before, rank, before}

-- ---- laws of the order
-- the order of user keys is a strict weak order
pub user_before_order : StrictWeak user_before
unfolding user_before
user_before_order = lex_order

-- the order of internal keys is a strict weak order
pub before_order : StrictWeak before
unfolding before
before_order = then_order (λ a b. user_before (user a) (user b)) (λ a b. ltb (rank b) (rank a))
    (on_order user_before user user_before_order) (on_order (λ a b. ltb b a) rank (flip_order ltb nat_order))

-- user keys equal in order are the same bytes
pub user_same : (a b : List ℕ) → user_before a b ≡ false → user_before b a ≡ false → a ≡ b
unfolding user_before
user_same = lex_same

-- a key that is not after another has a user key that is not after the other's
pub before_user : (a b : Key) → before b a ≡ false → user_before (user b) (user a) ≡ false
unfolding before
before_user a b h = first_keys user_before user_before_order (user b) (user a) (ltb (rank a) (rank b)) h

-- equal in order: the same user key and the same rank
pub record SameInOrder (a b : Key) : Type 0 where
  pub users : user a ≡ user b
  pub ranks : rank a ≡ rank b

-- keys of which neither is before the other are equal in order
pub before_same : (a b : Key) → before a b ≡ false → before b a ≡ false → SameInOrder a b
unfolding before by_first
before_same a b h k = go (user_before (user a) (user b)) (user_before (user b) (user a)) refl refl
  where
    go : (s t : Bool) → user_before (user a) (user b) ≡ s → user_before (user b) (user a) ≡ t → SameInOrder a b
    go true t e f = clash (rw e) h
    go false true e f = clash (rw f) k
    go false false e f =
        let p : ltb (rank b) (rank a) ≡ false = rw (e, f) at h in
        let q : ltb (rank a) (rank b) ≡ false = rw (e, f) at k in
        record { users = user_same (user a) (user b) e f; ranks = omega (arith, ltb-false (rank b) (rank a) p, ltb-false (rank a) (rank b) q) }

-- ---- what the tests say
-- a good user key, part by part
pub record GoodUser (longest : ℕ) (u : List ℕ) : Type 0 where
  pub some_byte : 1 ≤ length u
  pub few_bytes : length u ≤ longest
  pub bytes : are_bytes u ≡ true

-- the test holds exactly if each part does
pub good_user_says : (longest : ℕ) (u : List ℕ) → good_user longest u ≡ true ↔ GoodUser longest u
unfolding good_user
good_user_says longest u =
    let a = leb 1 (length u) in
    let b = leb (length u) longest in
    let c = are_bytes u in (
      λ h. let ab = and_left (a && b) c h in record { some_byte = leb-true 1 (length u) (and_left a b ab); few_bytes = leb-true (length u) longest (and_right a b ab); bytes = and_right (a && b) c h },
      λ g. both (a && b) c (both a b (le-leb 1 (length u) g.some_byte) (le-leb (length u) longest g.few_bytes)) g.bytes,
    )

-- a good key, part by part
pub record GoodKey (longest : ℕ) (k : Key) : Type 0 where
  pub some_byte : 9 ≤ length k
  pub few_bytes : length k ≤ longest + 8
  pub bytes : are_bytes k ≡ true
  pub kind : kind k ≤ 1

-- the test holds exactly if each part does
pub good_key_says : (longest : ℕ) (k : Key) → good_key longest k ≡ true ↔ GoodKey longest k
unfolding good_key
good_key_says longest k =
    let a = leb 9 (length k) in
    let b = leb (length k) (longest + 8) in
    let c = are_bytes k in
    let d = leb (kind k) 1 in (
      λ h.
          let abc = and_left (a && b && c) d h in
          let ab = and_left (a && b) c abc in
          record { some_byte = leb-true 9 (length k) (and_left a b ab); few_bytes = leb-true (length k) (longest + 8) (and_right a b ab); bytes = and_right (a && b) c abc; kind = leb-true (kind k) 1 (and_right (a && b && c) d h) },
      λ g. both (a && b && c) d (both (a && b) c (both a b (le-leb 9 (length k) g.some_byte) (le-leb (length k) (longest + 8) g.few_bytes)) g.bytes) (le-leb (kind k) 1 g.kind),
    )

-- ---- what the order weighs
-- the type is not weighed: keys of one user key and one sequence are equal in order
pub kind_unweighed : (a b : Key) → user a ≡ user b → sequence a ≡ sequence b → before a b ≡ false
unfolding before rank by_first
kind_unweighed a b u s =
    let e : user_before (user a) (user b) ≡ false = rw u (user_before_order.irrefl (user b)) in
    let f : user_before (user b) (user a) ≡ false = rw u (user_before_order.irrefl (user b)) in
    rw (e, f) (rw s (nat_order.irrefl (sequence b)))

-- of keys with one user key the larger sequence is first
pub larger_first : (a b : Key) → user a ≡ user b → sequence b < sequence a → before a b ≡ true
unfolding before rank by_first
larger_first a b u s =
    let e : user_before (user a) (user b) ≡ false = rw u (user_before_order.irrefl (user b)) in
    let f : user_before (user b) (user a) ≡ false = rw u (user_before_order.irrefl (user b)) in
    rw (e, f) (lt-ltb (sequence b) (sequence a) s)

-- ---- a key made of its parts
-- its user key
pub key_user : (u : List ℕ) (s t : ℕ) → user (key u s t) ≡ u
unfolding user key
key_user u s t = take_at u (bytes 8 (s * 256 + t)) (length (u ++ bytes 8 (s * 256 + t)) - 8) (omega (arith, length-append u (bytes 8 (s * 256 + t)), bytes_length 8 (s * 256 + t)))

-- its trailer
key_trailer : (u : List ℕ) (s t : ℕ) → s * 256 + t < 256 ^ 8 → trailer (key u s t) ≡ s * 256 + t
unfolding trailer key
key_trailer u s t h =
    let e = drop_at u (bytes 8 (s * 256 + t)) (length (u ++ bytes 8 (s * 256 + t)) - 8) (omega (arith, length-append u (bytes 8 (s * 256 + t)), bytes_length 8 (s * 256 + t))) in
    rw e (bytes_number 8 (s * 256 + t) h)

-- its sequence
pub key_sequence : (u : List ℕ) (s t : ℕ) → t < 256 → s * 256 + t < 256 ^ 8 → sequence (key u s t) ≡ s
unfolding sequence
key_sequence u s t k h = omega (arith, key_trailer u s t h)

-- its type
pub key_kind : (u : List ℕ) (s t : ℕ) → t < 256 → s * 256 + t < 256 ^ 8 → kind (key u s t) ≡ t
unfolding kind
key_kind u s t k h = omega (arith, key_trailer u s t h)

-- keys equal in the order: neither is before the other
pub same_before : (a b : Key) → SameInOrder a b → (before a b ≡ false) × (before b a ≡ false)
same_before a b h = (one a b h.users h.ranks, one b a (sym h.users) (sym h.ranks))
  where
    one : (x y : Key) → user x ≡ user y → rank x ≡ rank y → before x y ≡ false
    one x y u r = unfold before by_first in rw (u, user_before_order.irrefl (user y), le-ltb (rank y) (rank x) (omega (arith, r)))
