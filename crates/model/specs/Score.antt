-- When to compact: scores as exact fractions, the level to compact, and the score that is reported. Assumes nothing.
use Rattle.std.specs.Prelude.{ℕ, zero, suc, ◌*◌, ◌-◌, ◌^◌, ◌<◌, Bool, not, cond, List, ltb, leb, length, pos, Float}
use Rattle.std.proofs.Math.Option.{get_or}
use Rattle.std.specs.Float.{binary64}
use Rattle.std.specs.Float.Ieee.{of_int, div}
use Rattle.lemmas.specs.Lists.{all, find, up_from}
use Rattle.model.specs.File.{Profile, State, level, total}

-- a fraction, part / whole
pub record Score : Type 0 where
  pub part : ℕ
  pub whole : ℕ

-- the first score is below the second, by cross multiplication
unfoldable pub lower : Score → Score → Bool
lower a b = ltb (a.part * b.whole) (b.part * a.whole)

-- the byte limit of level l + 1: 10485760, 104857600, ..
unfoldable pub byte_limit : ℕ → ℕ
byte_limit l = 10485760 * 10 ^ l

-- the score of a level: files / 4 at level 0, bytes over the limit deeper
unfoldable pub score : State → ℕ → Score
score s zero = record { part = length (level s 0); whole = 4 }
score s (suc l) = record { part = total (level s (suc l)); whole = byte_limit l }

-- the levels that have a score: all but the deepest
unfoldable pub scored : Profile → List ℕ
scored p = up_from 0 (p.levels - 1)

-- no level's score is above this one's
unfoldable pub has_greatest : Profile → State → ℕ → Bool
has_greatest p s l = all (λ j. not (lower (score s l) (score s j))) (scored p)

-- the lowest of the levels with the greatest exact fraction
unfoldable pub level_to_compact : Profile → State → ℕ
level_to_compact p s = get_or (find (has_greatest p s) (scored p)) 0

-- work is due if the fraction is 1 or more
unfoldable pub due : Score → Bool
due c = leb c.whole c.part

-- the score as one f64 division of the two numbers, each converted
unfoldable pub reported : Score → Float
reported c = div binary64 (of_int binary64 (pos c.part)) (of_int binary64 (pos c.whole))

-- ---- the lowest of the levels with the greatest score, in one pass
-- the best level so far against the n levels from l on
unfoldable pub best_from : (ℕ → Score) → ℕ → ℕ → ℕ → ℕ
best_from sc best l zero = best
best_from sc best l (suc n) = best_from sc (cond (lower (sc best) (sc l)) l best) (suc l) n

-- both numbers are below 2^53, so each is converted without loss
pub record Lossless (c : Score) : Type 0 where
  pub part : c.part < 2 ^ 53
  pub whole : c.whole < 2 ^ 53
