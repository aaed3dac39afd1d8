-- `script_table::is_name` meets its contract. Assumes nothing.
use Prim.Native.Nat.{◌-◌, ◌≤◌, ◌<◌}
use native.Mathlib.Omega.{arith}
use borrow.Author.Tests.{le-leb, lt-leb}
use Rattle.script_table.specs.Faults.{name_long}
use borrow.Author.Rules.{rules}
use Rattle.script_table.proofs.is_name.Statement.{statement}
use Rattle.script_table.proofs.is_name.Tie as tie

returns : tie.Need-returns-then-to-from
unfolding name_long
returns c =
    let s = c.args in
    let h : s.to - s.from ≤ 0 = omega arith in
    simp (le-leb _ _ h)

sub-result : tie.Need-overflow_sub-result
sub-result c = search rules

returns_2 : tie.Need-returns
unfolding name_long
returns_2 c =
    let s = c.args in
    let h : 0 < s.to - s.from = omega arith in
    simp (lt-leb _ _ h)

pub is_name_spec : {M : Type 1} → statement M
is_name_spec = tie.close (tie.spec returns sub-result returns_2)
