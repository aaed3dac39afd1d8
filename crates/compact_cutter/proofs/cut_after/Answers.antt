-- A count above the most becomes 0, and the answer is yes. Assumes nothing.
use Rattle.std.proofs.Common.{lt-ltb, le-ltb}
use Rattle.compact_cutter.specs.Cutter.{cut_after}
use Rattle.compact_cutter.proofs.cut_after.Goals as goal

pub returns-then-cut : goal.returns-then-cut
unfolding cut_after
returns-then-cut c = rw (← c.counted_with-bytes.ensures, lt-ltb c.args.most c.counted_with-bytes.result c.if-cut.true)

pub returns-else-cut : goal.returns-else-cut
unfolding cut_after
returns-else-cut c = rw (← c.counted_with-bytes.ensures, le-ltb c.args.most c.counted_with-bytes.result c.if-cut.false)
