-- `bisect::half` meets its contract. Assumes nothing.
use borrow.Author.Rules.{rules}
use Rattle.bisect.specs.Window.{half_of}
use Rattle.bisect.proofs.half.Statement.{statement}
use Rattle.bisect.proofs.half.Tie as tie

middle-requires : tie.Need-middle-m-requires
middle-requires c κs = search rules

add-t6 : tie.Need-overflow_add-result
add-t6 c = search rules

returns : tie.Need-returns-then-passed
unfolding half_of
returns c = rw (c.if-passed.true, c.middle-m.ensures)

returns_2 : tie.Need-returns-else-passed
unfolding half_of
returns_2 c = rw (c.if-passed.false, c.middle-m.ensures)

pub half_spec : {M : Type 1} → statement M
half_spec = tie.close (tie.spec middle-requires add-t6 returns returns_2)
