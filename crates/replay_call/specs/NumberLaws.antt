-- The score that a size pick reports is a number. Assumes nothing.
use Prim.Native.Nat.{ℕ, zero, suc, ◌+◌, ◌-◌, ◌*◌, ◌^◌, ◌%◌, ◌/◌, compare}
use Rattle.std.specs.Prelude.{◌≡◌, refl, Bool, true, false, cond, ltb}
use Rattle.std.proofs.Common.{ap, ◌∙◌, arith}
use Rattle.std.specs.Float.{Format, binary64, inf}
use Rattle.std.specs.Float.Ieee.{prec, emax, low, size, nearest, odd, units, round, is_nan}
use Rattle.model.specs.File.{State, full, well_formed}
use Rattle.model.proofs.Formed.{formed_says}
use Rattle.model.specs.Score.{Score, score, level_to_compact, reported, Lossless}
use Rattle.model.proofs.ScoreLaws.{Proper, score_proper, lossless, level_is, reported_once}

-- ---- rounding
-- a value written with an odd significand is a number
odd_number : (d : ℕ) (s : Bool) (q k l : ℕ) → is_nan (odd d s q k l) ≡ false
unfolding odd is_nan
odd_number d s zero k l = refl
odd_number d s (suc q) k l = refl

-- so is a multiple of a format's smallest value
units_number : (f : Format) (s : Bool) (q k : ℕ) → is_nan (units f s q k) ≡ false
unfolding units is_nan
units_number f s q k = go (ltb (q * 2 ^ k) (2 ^ (low f + suc (emax f))))
  where
    go : (t : Bool) → is_nan (cond t (odd (suc (prec f)) s q k (low f)) (inf s)) ≡ false
    go true = odd_number (suc (prec f)) s q k (low f)
    go false = refl

-- so is a fraction rounded
round_number : (f : Format) (s : Bool) (num den : ℕ) → is_nan (round f s num den) ≡ false
unfolding round
round_number f s num den =
    let n = num * 2 ^ low f in
    let k = size (n / den) - prec f in
    let u = den * 2 ^ k in
    units_number f s (nearest (n / u) (compare (n % u * 2) u)) k

-- ---- scores
-- a score that is converted without loss is reported as a number
pub reported_number : (c : Score) → Proper c → Lossless c → is_nan (reported c) ≡ false
reported_number c p h = ap is_nan (reported_once c p h) ∙ round_number binary64 false c.part c.whole

-- the score of the level to compact is reported as a number
pub level_number : (s : State) → well_formed full s ≡ true → is_nan (reported (score s (level_to_compact full s))) ≡ false
unfolding full
level_number s w =
    let l = level_to_compact full s in
    let among = (level_is full s (omega arith)).among in
    reported_number (score s l) (score_proper s l) (lossless full s (omega arith) (omega arith) ((formed_says full s).0 w) l (omega arith))
