-- `pick_range::between` meets its contract. Assumes nothing.
use Rattle.model.specs.Range.{between}
use Rattle.pick_range.specs.Ranges.{span_record}
use borrow.Author.Rules.{rules}
use Rattle.pick_range.proofs.between.Statement.{statement}
use Rattle.pick_range.proofs.between.Tie as tie

user-key-requires : tie.Need-user_key-start-requires
user-key-requires c κs = search rules

user-key-requires-2 : tie.Need-user_key-stop-requires
user-key-requires-2 c κs = search rules

returns : tie.Need-returns
unfolding span_record between
returns c =
    let start = c.user_key-start.ensures in
    let stop = c.user_key-stop.ensures in
    λ i. record { start = start i; stop = stop i }

pub between_spec : {M : Type 1} → statement M
between_spec = tie.close (tie.spec user-key-requires user-key-requires-2 returns)
