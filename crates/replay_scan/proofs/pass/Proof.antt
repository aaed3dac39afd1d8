-- `pass` meets its contract. Assumes nothing.
use native.Mathlib.Omega.{arith}
use borrow.Author.Rules.{rules}
use Rattle.replay_scan.specs.ScanLaws.{told, bytes_short, bytes_whole}
use Rattle.replay_scan.proofs.pass.Statement.{statement}
use Rattle.replay_scan.proofs.pass.Tie as tie

sub-if1 : tie.Need-overflow_sub-src
sub-if1 c = search rules

nothing-requires : tie.Need-nothing-requires
nothing-requires c κs = search rules

returns : tie.Need-returns-then-src-at
returns c =
    let a = c.args in
    told (bytes_short a.src.now a.at a.n (omega arith) c.nothing.ensures)

add-t4 : tie.Need-overflow_add-result
add-t4 c = search rules

returns_2 : tie.Need-returns
returns_2 c =
    let a = c.args in
    told (bytes_whole a.src.now a.at a.n (omega arith))

pub pass_spec : {M : Type 1} → statement M
pass_spec = tie.close (tie.spec sub-if1 nothing-requires returns add-t4 returns_2)
