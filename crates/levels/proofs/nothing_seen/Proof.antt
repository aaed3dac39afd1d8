-- `levels::nothing_seen` meets its contract. Assumes nothing.
use mathlib.Core.Path.{refl}
use Rattle.levels.specs.Levels.{unarranged}
use Rattle.levels.proofs.nothing_seen.Statement.{statement}
use Rattle.levels.proofs.nothing_seen.Tie as tie

returns : tie.Need-returns
unfolding unarranged
returns c = refl

pub nothing_seen_spec : {M : Type 1} → statement M
nothing_seen_spec = tie.close (tie.spec returns)
