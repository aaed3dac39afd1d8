-- The order of two lists of bytes that agree up to a place. Assumes nothing.
use Prim.Native.Nat.{ℕ, ◌+◌, ◌≤◌, ◌<◌}
use mathlib.Core.Path.{◌≡◌, sym, ◌∙◌}
use mathlib.Core.Bool.{true}
use mathlib.Core.List.{List, ◌++◌}
use native.Mathlib.Omega.{arith}
use lib.ListN.{length, take, drop, length-drop}
use lib.Pow.{are_bytes}
use lib.Seq.{take-add, length-take-le}
use borrow.Author.Tests.{lt-ltb}
use Rattle.lemmas.specs.AreBytes.{bytes_take, bytes_drop}
use Rattle.lemmas.specs.Big.{big, big_order, big_same}
use Rattle.lemmas.specs.Order.{lexb}
use Rattle.lemmas.specs.Lex as lex
use Rattle.std.specs.declared.cmp.Ordering.TheVariants.{Less, Equal, Greater}
use Rattle.octets.specs.Octets.{standing}
use Rattle.octets.specs.StandingLaws.{stands_less, stands_greater, stands_equal}

-- they agree up to place i
module _ (a b : List ℕ) (i : ℕ) (h : i ≤ length a) (k : i ≤ length b) (e : take i a ≡ take i b) where
  -- both end there
  pub both_end : length a ≤ i → length b ≤ i → standing lexb a b ≡ Equal
  both_end g l =
      stands_equal lexb a b (lex.agreed i a b h k e ∙ lex.both_end a b i g l) (lex.agreed i b a k h (sym e) ∙ lex.both_end b a i l g)

  -- a proper prefix first
  pub left_ends : length a ≤ i → i < length b → standing lexb a b ≡ Less
  left_ends g l = stands_less lexb a b (lex.agreed i a b h k e ∙ lex.left_ends a b i g l)

  -- the same, the other way round
  pub right_ends : i < length a → length b ≤ i → standing lexb a b ≡ Greater
  right_ends g l =
      stands_greater lexb a b (lex.agreed i a b h k e ∙ lex.right_ends a b i l) (lex.agreed i b a k h (sym e) ∙ lex.left_ends b a i l g)

-- they agree up to place i and have n bytes each from there on
module _ (a b : List ℕ) (i n : ℕ) (h : i + n ≤ length a) (k : i + n ≤ length b) (e : take i a ≡ take i b) (p : are_bytes a ≡ true) (q : are_bytes b ≡ true) where
  length_part : (l : List ℕ) → i + n ≤ length l → length (take n (drop i l)) ≡ n
  length_part l m = length-take-le n (drop i l) (omega (arith, length-drop i l))

  bytes_part : (l : List ℕ) → are_bytes l ≡ true → are_bytes (take n (drop i l)) ≡ true
  bytes_part l m = bytes_take n (drop i l) (bytes_drop i l m)

  -- those bytes stand as the numbers that they are
  pub part_less : big 0 (take n (drop i a)) < big 0 (take n (drop i b)) → lexb a b ≡ true
  part_less l =
      let s = take n (drop i a) in
      let t = take n (drop i b) in
      let here = big_order 0 s t (length_part a h ∙ sym (length_part b k)) (bytes_part a p) (bytes_part b q) ∙ lt-ltb (big 0 s) (big 0 t) l in
      lex.agreed i a b (omega arith) (omega arith) e
      ∙ lex.front_less n (drop i a) (drop i b) (omega (arith, length-drop i a)) (omega (arith, length-drop i b)) here

  -- if the numbers are the same, they agree n bytes on
  pub part_same : big 0 (take n (drop i a)) ≡ big 0 (take n (drop i b)) → take (i + n) a ≡ take (i + n) b
  part_same z =
      let same = big_same (take n (drop i a)) (take n (drop i b)) (length_part a h ∙ sym (length_part b k)) (bytes_part a p) (bytes_part b q) z in
      take-add i n a ∙ (λ j. e j ++ same j) ∙ sym (take-add i n b)
