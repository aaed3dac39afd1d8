-- Laws of scores: the order of fractions, the byte limits, and the level to compact. Assumes nothing.
use Prim.Native.Nat.{ℕ, zero, suc, ◌+◌, ◌*◌, ◌-◌, ◌^◌, ◌<◌, ◌≤◌}
use Rattle.std.specs.Prelude.{◌≡◌, refl, Bool, true, false, not, ltb, length, get_or, pos, Float}
use Rattle.std.proofs.Common.{ap, sym, ◌∙◌, ltb-true, ltb-false, lt-ltb, le-ltb, ne_eqb, lit<, lit≤, pow_mono, shl_lt, mul-lt-mul_of_pos_right, mul-le-mul_right, lt_of_mul-lt-mul_right, le_of_mul-le-mul_right, mul-one, mul_comm, mul_assoc, mul_left_comm, zero-mul, lt_of_lt_of_le, mul-pos}
use Rattle.std.proofs.Math.Path.{subst}
use Rattle.std.proofs.Math.Bool.{cond}
use mathlib.Core.List.Memᴰ.{head as here}
use mathlib.Core.List.Memᴰ.{tail as there}
use mathlib.Core.List.{List, [], ◌∷◌, Memᴰ as In, map}
use Rattle.std.proofs.Math.Option.{some}
use Rattle.std.proofs.lemmas.Bool.{not-true}
use native.Mathlib.Omega.{arith}
use Rattle.std.specs.Float.{binary64, nan, inf, fin}
use Rattle.std.specs.Float.Ieee.{of_int, div, round, up, down, low}
use Rattle.std.specs.Float.Ieee.Exact.{HasValue, round_exact}
use Rattle.std.specs.Float.Ieee.Scale.{round_same}
use Rattle.std.specs.Float.Ieee.Fits.{down_pos}
use Rattle.lemmas.specs.Order.{clash}
use Rattle.lemmas.specs.Lists.{all, find, sum, up_from}
use Rattle.lemmas.specs.ListLaws.{all_in, join_in, join_length, up_from_in, find_up_from}
use Rattle.model.specs.File.{Profile, File, State, level, total, max_size, level_count}
use Rattle.model.specs.Score.{Score, lower, byte_limit, score, scored, has_greatest, level_to_compact, reported, best_from, Lossless}
use Rattle.model.proofs.Formed.{WF, good_file_says}

-- ---- fractions with a denominator above 0
-- the denominator is above 0
abbrev pub Proper : Score → Type 0
Proper a = zero < a.whole

-- no fraction is lower than itself
pub lower_irrefl : (a : Score) → lower a a ≡ false
unfolding lower
lower_irrefl a = le-ltb (a.part * a.whole) (a.part * a.whole) (omega arith)

-- "lower" is transitive
pub lower_trans : (a b c : Score) → Proper a → Proper b → Proper c → lower a b ≡ true → lower b c ≡ true → lower a c ≡ true
unfolding lower
lower_trans a b c pa pb pc h k =
    let x = mul-lt-mul_of_pos_right (ltb-true (a.part * b.whole) (b.part * a.whole) h) pc in
    let y = mul-lt-mul_of_pos_right (ltb-true (b.part * c.whole) (c.part * b.whole) k) pa in
    lt-ltb (a.part * c.whole) (c.part * a.whole) (lt_of_mul-lt-mul_right b.whole (omega arith))

-- "not lower" is transitive
pub lower_ntrans : (a b c : Score) → Proper a → Proper b → Proper c → lower a b ≡ false → lower b c ≡ false → lower a c ≡ false
unfolding lower
lower_ntrans a b c pa pb pc h k =
    let x = mul-le-mul_right c.whole (ltb-false (a.part * b.whole) (b.part * a.whole) h) in
    let y = mul-le-mul_right a.whole (ltb-false (b.part * c.whole) (c.part * b.whole) k) in
    le-ltb (a.part * c.whole) (c.part * a.whole) (le_of_mul-le-mul_right {k = b.whole} (omega arith) pb)

-- each limit is ten times the one before
pub limit_ten : (l : ℕ) → byte_limit (suc l) ≡ 10 * byte_limit l
unfolding byte_limit
limit_ten l = omega arith

-- a power of ten is not 0
pub ten_pow : (l : ℕ) → 1 ≤ 10 ^ l
ten_pow zero = omega arith
ten_pow (suc l) = omega (arith, ten_pow l)

-- no score has the denominator 0
pub score_proper : (s : State) (l : ℕ) → Proper (score s l)
unfolding score byte_limit
score_proper s zero = omega arith
score_proper s (suc l) = omega (arith, ten_pow l)

-- the five limits of document 01
pub limits_are : map byte_limit (up_from 0 5) ≡ 10485760 ∷ 104857600 ∷ 1048576000 ∷ 10485760000 ∷ 104857600000 ∷ []
unfolding byte_limit up_from
limits_are = refl

-- ---- the lowest of the levels with the greatest score, in one pass
-- the lowest of the first n levels with the greatest score
pub record LowestGreatest (sc : ℕ → Score) (n best : ℕ) : Type 0 where
  pub among : best < n
  pub greatest : (j : ℕ) → j < n → lower (sc best) (sc j) ≡ false
  pub lowest : (j : ℕ) → j < best → lower (sc j) (sc best) ≡ true

module _ (sc : ℕ → Score) (proper : (l : ℕ) → Proper (sc l)) where
  -- one more level
  one_more_lem : (l best : ℕ) → LowestGreatest sc l best → LowestGreatest sc (suc l) (cond (lower (sc best) (sc l)) l best)
  one_more_lem l best g = go (lower (sc best) (sc l)) refl
    where
      -- a score not above the best, and the best below the new: below the new
      under : lower (sc best) (sc l) ≡ true → (j : ℕ) → lower (sc best) (sc j) ≡ false → lower (sc j) (sc l) ≡ true
      under e j h = flip (lower (sc j) (sc l)) refl
        where
          flip : (t : Bool) → lower (sc j) (sc l) ≡ t → lower (sc j) (sc l) ≡ true
          flip true q = q
          flip false q = let z = lower_ntrans (sc best) (sc j) (sc l) (proper best) (proper j) (proper l) h q in clash e z

      not_above : (j : ℕ) → lower (sc j) (sc l) ≡ true → lower (sc l) (sc j) ≡ false
      not_above j h = flip (lower (sc l) (sc j)) refl
        where
          flip : (t : Bool) → lower (sc l) (sc j) ≡ t → lower (sc l) (sc j) ≡ false
          flip false q = q
          flip true q = clash (lower_trans (sc l) (sc j) (sc l) (proper l) (proper j) (proper l) q h) (lower_irrefl (sc l))

      -- each level up to l is below l or is l
      each : (P : ℕ → Type 0) → ((j : ℕ) → j < l → P j) → P l → (j : ℕ) → j < suc l → P j
      each P below at j i = split (ltb j l) refl
        where
          split : (t : Bool) → ltb j l ≡ t → P j
          split true q = below j (ltb-true j l q)
          split false q = let same : l ≡ j = omega (arith, ltb-false j l q) in subst (λ (x : ℕ). P x) same at

      go : (t : Bool) → lower (sc best) (sc l) ≡ t → LowestGreatest sc (suc l) (cond t l best)
      go true e = record { among = omega arith; greatest = each (λ j. lower (sc l) (sc j) ≡ false) (λ j i. not_above j (under e j (g.greatest j i))) (lower_irrefl (sc l)); lowest = λ j i. under e j (g.greatest j i) }
      go false e = record { among = omega (arith, g.among); greatest = each (λ j. lower (sc best) (sc j) ≡ false) g.greatest e; lowest = g.lowest }

  -- the pass finds it
  pub best_is : (n l best : ℕ) → LowestGreatest sc l best → LowestGreatest sc (l + n) (best_from sc best l n)
  unfolding best_from
  best_is zero l best g = let e : l ≡ l + 0 = omega arith in subst (λ (k : ℕ). LowestGreatest sc k best) e g
  best_is (suc n) l best g =
      let e : suc l + n ≡ l + suc n = omega arith in
      let b = cond (lower (sc best) (sc l)) l best in
      subst (λ (k : ℕ). LowestGreatest sc k (best_from sc b (suc l) n)) e (best_is n (suc l) b (one_more_lem l best g))

-- ---- the level to compact
-- such a level is the one that `level_to_compact` finds
found : (p : Profile) (s : State) (b : ℕ) → LowestGreatest (score s) (p.levels - 1) b → find (has_greatest p s) (scored p) ≡ some b
unfolding has_greatest scored
found p s b g = find_up_from (has_greatest p s) 0 (p.levels - 1) b (omega arith) (omega (arith, g.among)) passes fails
  where
    passes : all (λ j. not (lower (score s b) (score s j))) (up_from 0 (p.levels - 1)) ≡ true
    passes = (all_in (λ j. not (lower (score s b) (score s j))) (up_from 0 (p.levels - 1))).1
        (λ j m. rw (g.greatest j (omega (arith, ((up_from_in 0 (p.levels - 1) j).0 m).1))))

    fails : (j : ℕ) → j < b → all (λ k. not (lower (score s j) (score s k))) (up_from 0 (p.levels - 1)) ≡ false
    fails j i = flip (all (λ k. not (lower (score s j) (score s k))) (up_from 0 (p.levels - 1))) refl
      where
        flip : (t : Bool) → all (λ k. not (lower (score s j) (score s k))) (up_from 0 (p.levels - 1)) ≡ t → all (λ k. not (lower (score s j) (score s k))) (up_from 0 (p.levels - 1)) ≡ false
        flip false e = e
        flip true e =
            let m = (up_from_in 0 (p.levels - 1) b).1 (omega arith, omega (arith, g.among)) in
            clash (g.lowest j i) (not-true (lower (score s j) (score s b)) ((all_in (λ k. not (lower (score s j) (score s k))) (up_from 0 (p.levels - 1))).0 e b m))

-- with two levels or more, one pass finds such a level
best_among : (p : Profile) (s : State) → 2 ≤ p.levels → LowestGreatest (score s) (p.levels - 1) (best_from (score s) 0 1 (p.levels - 2))
best_among p s h =
    let e : 1 + (p.levels - 2) ≡ p.levels - 1 = omega arith in
    subst (λ (k : ℕ). LowestGreatest (score s) k (best_from (score s) 0 1 (p.levels - 2))) e (best_is (score s) (score_proper s) (p.levels - 2) 1 0 base)
  where
    none_before : {P : Type 0} (j : ℕ) → j < 0 → P
    none_before j i = absurd (omega arith)

    only : (j : ℕ) → j < 1 → lower (score s 0) (score s j) ≡ false
    only j i = let e : 0 ≡ j = omega arith in subst (λ (k : ℕ). lower (score s 0) (score s k) ≡ false) e (lower_irrefl (score s 0))

    base : LowestGreatest (score s) 1 0
    base = record { among = omega arith; greatest = only; lowest = λ j i. none_before j i }

-- the level to compact is the one found in one pass
pub best_level : (p : Profile) (s : State) → 2 ≤ p.levels → best_from (score s) 0 1 (p.levels - 2) ≡ level_to_compact p s
unfolding level_to_compact
best_level p s h = let e = found p s (best_from (score s) 0 1 (p.levels - 2)) (best_among p s h) in rw e

-- the level to compact is the lowest of those with the greatest fraction
pub level_is : (p : Profile) (s : State) → 2 ≤ p.levels → LowestGreatest (score s) (p.levels - 1) (level_to_compact p s)
level_is p s h = subst (λ (b : ℕ). LowestGreatest (score s) (p.levels - 1) b) (best_level p s h) (best_among p s h)

-- there is only one such level
pub one_level : (sc : ℕ → Score) (n a b : ℕ) → LowestGreatest sc n a → LowestGreatest sc n b → a ≡ b
one_level sc n a b g h = go (ltb a b) (ltb b a) refl refl
  where
    go : (s t : Bool) → ltb a b ≡ s → ltb b a ≡ t → a ≡ b
    go true t p q = clash (h.lowest a (ltb-true a b p)) (g.greatest b h.among)
    go false true p q = clash (g.lowest b (ltb-true b a q)) (h.greatest a g.among)
    go false false p q = omega (arith, ltb-false a b p, ltb-false b a q)

-- ---- the conversions lose nothing: both numbers of a well-formed state's score are below 2^53
-- n files of at most 2^40 bytes have at most n times as many
pub total_most : (fs : List File) → ((f : File) → In f fs → f.size ≤ max_size) → total fs ≤ length fs * max_size
unfolding total sum
total_most [] h = omega arith
total_most (f ∷ fs) h = let a = h f (here refl) in let b = total_most fs (λ g m. h g (there m)) in omega arith

-- the five limits are below 2^53
limit_small : (l : ℕ) → l < 5 → byte_limit l < 2 ^ 53
unfolding byte_limit
limit_small zero h = omega arith
limit_small (suc zero) h = omega arith
limit_small (suc (suc zero)) h = omega arith
limit_small (suc (suc (suc zero))) h = omega arith
limit_small (suc (suc (suc (suc zero)))) h = omega arith
limit_small (suc (suc (suc (suc (suc l))))) h = absurd (omega arith)

-- this holds for every level that has a score
pub lossless : (p : Profile) (s : State) → p.levels ≤ level_count → p.room < 2 ^ 13 → WF p s → (l : ℕ) → suc l < p.levels → Lossless (score s l)
unfolding score level
lossless p s few small w zero h = record { part = omega (arith, join_length s.files 0, w.room); whole = omega arith }
lossless p s few small w (suc l) h =
    let fs = get_or s.files (suc l) [] in
    let most = total_most fs (λ f m. ((good_file_says p f).0 (w.good f (join_in s.files (suc l) f m))).size) in
    let n : length fs ≤ 2 ^ 13 - 1 = omega (arith, join_length s.files (suc l), w.room) in
    let b : length fs * max_size ≤ (2 ^ 13 - 1) * max_size = mul-le-mul_right max_size n in
    record { part = omega arith; whole = limit_small l (omega arith) }

-- ---- the reported score is the exact fraction rounded once
-- a number below 2^53 is converted exactly
exact : (n : ℕ) → n < 2 ^ 53 → HasValue (of_int binary64 (pos n)) false n 1
unfolding of_int
exact n h =
    round_exact binary64 false n 1 n (low binary64) (lit< tt) h
    (lt_of_lt_of_le (shl_lt 53 (low binary64) h) (pow_mono {i = 53 + low binary64} {j = low binary64 + 1024} (lit≤ tt)))
    (sym (mul-one (n * 2 ^ low binary64)))

-- equal fractions, multiplied out
cross : (a b m n x y : ℕ) → m ≡ a * x → n ≡ b * y → m * y * b ≡ a * (n * x)
cross a b m n x y p q = rw (p, q) (simp (mul_assoc, mul_comm, mul_left_comm))

-- a factor of a value above 0 is not 0
nonzero : (n u b y : ℕ) → n * u ≡ b * y → 0 < b * y → n ≡ 0 → ⊥
nonzero n u b y e h z =
    let k : 0 * u ≡ b * y = ap (λ (w : ℕ). w * u) (sym z) ∙ e in
    omega (arith, zero-mul u)

-- dividing two numbers that are held exactly rounds their fraction once
div_at : (x y : Float) (a b : ℕ) → 0 < b → HasValue x false a 1 → HasValue y false b 1 → div binary64 x y ≡ round binary64 false a b
unfolding div
div_at nan y a b p h k = absurd h
div_at (inf s) y a b p h k = absurd h
div_at (fin s m e) nan a b p h k = absurd k
div_at (fin s m e) (inf t) a b p h k = absurd k
div_at (fin s m e) (fin t n d) a b p h k =
    let hx : m * up e ≡ a * down e = sym (mul-one (m * up e)) ∙ h.1 in
    let hy : n * up d ≡ b * down d = sym (mul-one (n * up d)) ∙ k.1 in
    let bp : 0 < b * down d = mul-pos p (down_pos d) in
    let np : 0 < n * up d = subst (λ (w : ℕ). 0 < w) (sym hy) bp in
    rw (h.0, k.0, ne_eqb n 0 (nonzero n (up d) b (down d) hy bp))
    (round_same binary64 false (m * up e * down d) (n * up d * down e) a b (mul-pos np (down_pos e)) p (cross a b (m * up e) (n * up d) (down e) (down d) hx hy))

-- so the reported score is the exact fraction rounded once
pub reported_once : (c : Score) → Proper c → Lossless c → reported c ≡ round binary64 false c.part c.whole
unfolding reported
reported_once c p h = div_at (of_int binary64 (pos c.part)) (of_int binary64 (pos c.whole)) c.part c.whole p (exact c.part h.part) (exact c.whole h.whole)
