-- `nothing` meets its contract. Assumes nothing.
use mathlib.Core.Path.{refl}
use Rattle.replay_scan.specs.Scan.{passed_by}
use Rattle.replay_scan.proofs.nothing.Statement.{statement}
use Rattle.replay_scan.proofs.nothing.Tie as tie

returns : tie.Need-returns
unfolding passed_by
returns c = refl

pub nothing_spec : {M : Type 1} → statement M
nothing_spec = tie.close (tie.spec returns)
