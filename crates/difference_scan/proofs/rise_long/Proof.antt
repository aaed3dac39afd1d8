-- `rise_long` meets its contract. Assumes nothing.
use Rattle.difference_scan.specs.Scan.{rise_long}
use Rattle.difference_scan.proofs.rise_long.Statement.{statement}
use Rattle.difference_scan.proofs.rise_long.Tie as tie

returns : tie.Need-returns-then-pointer
unfolding rise_long
returns c = rw c.if-pointer.true

returns_2 : tie.Need-returns
unfolding rise_long
returns_2 c = rw c.if-pointer.false

pub rise_long_spec : {M : Type 1} → statement M
rise_long_spec = tie.close (tie.spec returns returns_2)
