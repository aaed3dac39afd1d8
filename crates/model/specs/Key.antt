-- Internal keys as lists of bytes: a user key and eight trailer bytes, a little-endian number, sequence × 256 + kind. The order is `before`. All other modules use
-- only its laws, `before_order` and `user_before_order`, so another order can take its place here. Assumes nothing.
use Rattle.std.specs.Prelude.{ℕ, ◌+◌, ◌*◌, ◌-◌, ◌/◌, ◌%◌, Bool, cond, ◌&&◌, List, ◌++◌, ltb, leb, length, take, drop}
use Rattle.std.proofs.Math.Pow.{are_bytes}
use Rattle.lemmas.specs.Order.{by_first, lexb}
use Rattle.lemmas.specs.Little.{number, bytes}

-- an internal key, as its bytes
abbrev pub Key : Type 0
Key = List ℕ

-- the bytes of a trailer
abbrev pub trailer_bytes : ℕ
trailer_bytes = 8

-- ---- the parts of a key
-- the user key: all but the last eight bytes
unfoldable pub user : Key → List ℕ
user k = take (length k - 8) k

-- the trailer: the last eight bytes as a number, sequence × 256 + kind
unfoldable pub trailer : Key → ℕ
trailer k = number (drop (length k - 8) k)

-- the sequence number
unfoldable pub sequence : Key → ℕ
sequence k = trailer k / 256

-- the type: 0 (deletion) or 1 (value)
unfoldable pub kind : Key → ℕ
kind k = trailer k % 256

-- a key made of its parts
unfoldable pub key : List ℕ → ℕ → ℕ → Key
key u s t = u ++ bytes 8 (s * 256 + t)

-- a good user key has 1 to `longest` bytes
unfoldable pub good_user : ℕ → List ℕ → Bool
good_user longest u = leb 1 (length u) && leb (length u) longest && are_bytes u

-- a good key is a user key and eight trailer bytes, with type 0 or 1
unfoldable pub good_key : ℕ → Key → Bool
good_key longest k = leb 9 (length k) && leb (length k) (longest + 8) && are_bytes k && leb (kind k) 1

-- the parts of a key
pub record Parts : Type 0 where
  pub kind : ℕ
  pub sequence : ℕ
  pub user : List ℕ

-- takes a key apart
unfoldable pub parts : Key → Parts
parts k = record { kind = kind k; sequence = sequence k; user = user k }

-- ---- the order
-- user keys compare bytewise, a proper prefix first
unfoldable pub user_before : List ℕ → List ℕ → Bool
user_before a b = lexb a b

-- the number that decides between keys with one user key, the larger first: the sequence. The type is not weighed
unfoldable pub rank : Key → ℕ
rank k = sequence k

-- internal keys compare by user key, then the larger rank first
unfoldable pub before : Key → Key → Bool
before a b = by_first (user_before (user a) (user b)) (user_before (user b) (user a)) (ltb (rank b) (rank a))

-- how two keys stand in the order
pub data Ordering : Type 0 where
  is_less : Ordering
  is_equal : Ordering
  is_greater : Ordering

-- less, greater, or equal in order
unfoldable pub stands : {A : Type 0} → (A → A → Bool) → A → A → Ordering
stands lt a b = cond (lt a b) is_less (cond (lt b a) is_greater is_equal)
