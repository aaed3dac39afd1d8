-- The first bytes of two rooms compared word by word: facts for a turn of that loop, and for its end. Assumes nothing.
use Prim.Native.Nat.{ℕ, ◌+◌, ◌-◌, ◌/◌, ◌%◌, ◌^◌, ◌≤◌, ◌<◌, min}
use mathlib.Core.Path.{◌≡◌, sym, ◌∙◌}
use mathlib.Core.Bool.{true}
use mathlib.Core.List.{List}
use native.Mathlib.Omega.{arith}
use lib.ListN.{length, take, drop}
use lib.Pow.{are_bytes}
use lib.Seq.{length-take-le}
use Rattle.lemmas.specs.AreBytes.{bytes_take}
use Rattle.lemmas.specs.Big.{big}
use Rattle.lemmas.specs.Lex.{not_both}
use Rattle.lemmas.specs.Order.{lexb}
use Rattle.std.specs.declared.cmp.Ordering.TheVariants.{Less, Equal, Greater}
use Rattle.octets.specs.Octets.{standing}
use Rattle.octets.specs.StandingLaws.{stands_less, stands_greater}
use Rattle.octets.proofs.Runs.{both_end, left_ends, right_ends, part_less, part_same}
use Rattle.octets.proofs.Words.{word_front}

-- what the loop's invariant says at place i: a multiple of eight, and the first m bytes of a and n of b agree up to it
abbrev pub Agree : List ℕ → ℕ → List ℕ → ℕ → ℕ → ℕ → Type 0
Agree a m b n both i = (i % 8 ≡ 0) × (take (min i both) (take m a) ≡ take (min i both) (take n b))

-- a room of whole words, of which the first m bytes are compared
pub record Room (a : List ℕ) (m : ℕ) : Type 0 where
  pub enough : m ≤ length a
  pub words : length a % 8 ≡ 0
  pub of_bytes : are_bytes a ≡ true

-- what is known at the loop's head, at place i
pub record Head (a : List ℕ) (m : ℕ) (b : List ℕ) (n both i : ℕ) : Type 0 where
  pub first : Room a m
  pub second : Room b n
  pub lesser : both ≡ min m n
  pub agree : Agree a m b n both i

-- what a turn reads there: the fronts of the two words
pub record Turn (a b : List ℕ) (both i u v : ℕ) : Type 0 where
  pub inside : i < both
  pub first : u ≡ big 0 (take 8 (drop i a)) / 256 ^ (8 - (both - i))
  pub second : v ≡ big 0 (take 8 (drop i b)) / 256 ^ (8 - (both - i))

module _ {a : List ℕ} {m : ℕ} (r : Room a m) where
  -- so many bytes are compared
  front_length : length (take m a) ≡ m
  front_length = length-take-le m a r.enough

  -- they are bytes
  front_bytes : are_bytes (take m a) ≡ true
  front_bytes = bytes_take m a r.of_bytes

  -- the front of the word at i: as many of its bytes as are compared
  front_word : (i both : ℕ) → i % 8 ≡ 0 → i < both → both ≤ m → big 0 (take 8 (drop i a)) / 256 ^ (8 - (both - i)) ≡ big 0 (take (min (both - i) 8) (drop i (take m a)))
  front_word i both z h k = word_front a i (omega arith) r.of_bytes (both - i) m (omega arith)

module _ {a b : List ℕ} {m n both i : ℕ} (g : Head a m b n both i) where
  -- the bytes that are compared
  abbrev A : List ℕ
  A = take m a

  abbrev B : List ℕ
  B = take n b

  -- past the loop they agree up to where the shorter one ends
  ended : both ≤ i → take both A ≡ take both B
  ended h = let p : min i both ≡ both = omega arith in rw p at g.agree.1

  -- the first is the shorter one
  pub ends_less : both ≤ i → m < n → standing lexb A B ≡ Less
  ends_less h k =
      let p = front_length g.first in
      let q = front_length g.second in
      left_ends A B both (omega arith) (omega arith) (ended h) (omega arith) (omega arith)

  -- the second is
  pub ends_greater : both ≤ i → n < m → standing lexb A B ≡ Greater
  ends_greater h k =
      let p = front_length g.first in
      let q = front_length g.second in
      right_ends A B both (omega arith) (omega arith) (ended h) (omega arith) (omega arith)

  -- they are of one length
  pub ends_equal : both ≤ i → m ≡ n → standing lexb A B ≡ Equal
  ends_equal h k =
      let p = front_length g.first in
      let q = front_length g.second in
      both_end A B both (omega arith) (omega arith) (ended h) (omega arith) (omega arith)

  module _ {u v : ℕ} (t : Turn a b both i u v) where
    -- how many bytes a turn compares
    abbrev k : ℕ
    k = min (both - i) 8

    -- its numbers are those of these bytes
    read_a : u ≡ big 0 (take k (drop i A))
    read_a = t.first ∙ front_word g.first i both g.agree.0 t.inside (omega arith)

    read_b : v ≡ big 0 (take k (drop i B))
    read_b = t.second ∙ front_word g.second i both g.agree.0 t.inside (omega arith)

    -- the bytes before its place agree
    here : take i A ≡ take i B
    here = let p : min i both ≡ i = omega arith in rw p at g.agree.1

    -- the first number is the less
    pub turn_less : u < v → standing lexb A B ≡ Less
    turn_less l =
        let p = front_length g.first in
        let q = front_length g.second in
        stands_less lexb A B (part_less A B i k (omega arith) (omega arith) here (front_bytes g.first) (front_bytes g.second) (omega (arith, read_a, read_b)))

    -- the second is
    pub turn_greater : v < u → standing lexb A B ≡ Greater
    turn_greater l =
        let p = front_length g.first in
        let q = front_length g.second in
        let f = part_less B A i k (omega arith) (omega arith) (sym here) (front_bytes g.second) (front_bytes g.first) (omega (arith, read_a, read_b)) in
        stands_greater lexb A B (not_both B A f) f

    -- they are the same: the bytes agree up to the next place
    pub turn_same : u ≡ v → Agree a m b n both (i + 8)
    turn_same z =
        let p = front_length g.first in
        let q = front_length g.second in
        let next : min (i + 8) both ≡ i + k = omega arith in
        let same = part_same A B i k (omega arith) (omega arith) here (front_bytes g.first) (front_bytes g.second) (omega (arith, read_a, read_b)) in
        (omega arith, rw next same)
