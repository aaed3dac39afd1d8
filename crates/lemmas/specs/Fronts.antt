-- Front parts and tails of a list as a callee is lent them, and a list written over the front of another. For any element type. Assumes nothing.
use Rattle.std.specs.Prelude.{ℕ, ◌+◌, ◌-◌, ◌≤◌, ◌<◌, ◌≡◌, List, [], ◌∷◌, ◌++◌, length, get_or, take, drop, set}
use Rattle.std.proofs.Common.{sym, ◌∙◌, ap, add-one, arith, length-take, take-take, take-suc}
use Rattle.std.proofs.lemmas.List.{set_at}
use Rattle.std.proofs.Math.Seq.{append_snoc}
use Rattle.lemmas.specs.Slices.{rest_cons}

module _ {A : Type 0} where
  -- a front part of a front part is a front part of the whole
  pub front_front : (n : ℕ) (l whole : List A) → n ≤ length l → l ≡ take (length l) whole → take n l ≡ take (length (take n l)) whole
  front_front n l whole h e =
      let m : length (take n l) ≡ n = omega (arith, length-take n l) in
      rw m (ap (take n) e ∙ take-take n (length l) whole h)

  -- the first n of the whole are the front part of length n
  pub front_taken : (l whole : List A) (n : ℕ) → l ≡ take (length l) whole → n ≡ length l → take n whole ≡ l
  front_taken l whole n h e = rw e (sym h)

  -- the same with n - 0, as a range from 0 to n has it
  pub front_lent : (l whole : List A) (n : ℕ) → l ≡ take (length l) whole → n ≡ length l → take (n - 0) whole ≡ l
  front_lent l whole n h e = front_taken l whole (n - 0) h (omega arith)

  -- a turn of a loop that writes src over the front of out: one element more
  pub lay_turn : (src out : List A) (i : ℕ) (d : A) → i < length src → i < length out
      → set (take i src ++ drop i out) i (get_or src i d) ≡ take (i + 1) src ++ drop (i + 1) out
  lay_turn src out i d h k =
      let n : length (take i src) ≡ i = omega (arith, length-take i src) in
      let t : take (i + 1) src ≡ take i src ++ (get_or src i d ∷ []) = rw add-one (take-suc src i d h) in
      rw (rest_cons out i d k, set_at (take i src) (get_or out i d) (drop (i + 1) out) (get_or src i d) i n, t)
      (sym (append_snoc (take i src) (get_or src i d) (drop (i + 1) out)))
