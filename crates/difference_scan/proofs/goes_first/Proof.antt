-- `goes_first_lem` meets its contract. Assumes nothing.
use Rattle.difference_scan.specs.ScanLaws.{first_none, first_alone, first_lower}
use Rattle.difference_scan.proofs.goes_first.Statement.{statement}
use Rattle.difference_scan.proofs.goes_first.Tie as tie

returns : tie.Need-returns-then-n-eq0
returns c =
    let a = c.args in
    first_none a.n a.x a.m a.y c.if-n-eq0.true

returns_2 : tie.Need-returns-then-m-eq0
returns_2 c =
    let i = c in
    let a = i.args in
    first_alone a.n a.x a.m a.y i.if-n-eq0.false c.if-m-eq0.true

returns_3 : tie.Need-returns
returns_3 c =
    let i = c in
    let a = i.args in
    first_lower a.n a.x a.m a.y i.if-n-eq0.false c.if-m-eq0.false

pub goes_first_spec : {M : Type 1} → statement M
goes_first_spec = tie.close (tie.spec returns returns_2 returns_3)
