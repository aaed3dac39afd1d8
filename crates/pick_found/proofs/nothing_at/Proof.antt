-- `pick_found::nothing_at` meets its contract. Assumes nothing.
use borrow.Author.Rules.{rules}
use Rattle.pick_found.specs.FoundRun.{none_at}
use Rattle.pick_found.proofs.nothing_at.Statement.{statement}
use Rattle.pick_found.proofs.nothing_at.Tie as tie

blank-key-requires : tie.Need-blank_key-requires
blank-key-requires c κs = search rules

blank-key-requires-2 : tie.Need-blank_key-requires-2
blank-key-requires-2 c κs = search rules

returns : tie.Need-returns
unfolding none_at
returns c =
    let low = c.blank_key.ensures in
    let high = c.blank_key-2.ensures in
    λ j. record { from = c.args.i; count = 0; ends = record { low = low j; high = high j }; bytes = 0 }

pub nothing_at_spec : {M : Type 1} → statement M
nothing_at_spec = tie.close (tie.spec blank-key-requires blank-key-requires-2 returns)
