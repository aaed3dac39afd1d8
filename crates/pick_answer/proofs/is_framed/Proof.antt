-- `pick_answer::is_framed` meets its contract. Assumes nothing.
use Prim.Native.Nat.{suc, ◌+◌}
use native.Mathlib.Omega.{arith}
use borrow.Author.Rules.{rules}
use borrow.Author.Tests.{lt-ltb, le-ltb, le-leb, lt-leb, eq-eqb, ne_eqb}
use Rattle.model.specs.File.{full, level_count}
use Rattle.model.specs.Pick.{bad_maximum, largest_maximum}
use Rattle.pick_answer.specs.Picked.{framed}
use Rattle.pick_answer.proofs.is_framed.Statement.{statement}
use Rattle.pick_answer.proofs.is_framed.Tie as tie

sub_last : tie.Need-overflow_sub-last
sub_last c = search rules

returns : tie.Need-returns-then-last-level
unfolding framed full
returns c = let a = c.args in rw (le-ltb (suc a.level) level_count (omega arith))

returns_2 : tie.Need-returns-then-maximum-lt1
unfolding framed full bad_maximum
returns_2 c =
    let a = c.args in
    rw (lt-ltb (suc a.level) level_count (omega arith), lt-leb 1 a.maximum (omega arith))

returns_3 : tie.Need-returns-then-maximum-gt-LARGEST_MAXIMUM
unfolding framed full bad_maximum
returns_3 c =
    let a = c.args in
    rw (lt-ltb (suc a.level) level_count (omega arith), le-leb 1 a.maximum (omega arith), lt-leb a.maximum largest_maximum (omega arith))

-- past the test of the maximum
returns-4 : tie.Need-returns-then-first-eq0
unfolding framed full bad_maximum
returns-4 c =
    let a = c.args in
    rw (lt-ltb (suc a.level) level_count (omega arith), le-leb 1 a.maximum (omega arith), le-leb a.maximum largest_maximum (omega arith), eq-eqb a.first 0 (omega arith))

returns-5 : tie.Need-returns-then-level-last
unfolding framed full bad_maximum
returns-5 c =
    let a = c.args in
    rw (lt-ltb (suc a.level) level_count (omega arith), le-leb 1 a.maximum (omega arith), le-leb a.maximum largest_maximum (omega arith), ne_eqb a.first 0 c.if-first-eq0.false, lt-ltb (a.level + 2) level_count (omega arith))

returns-6 : tie.Need-returns
unfolding framed full bad_maximum
returns-6 c =
    let a = c.args in
    rw (lt-ltb (suc a.level) level_count (omega arith), le-leb 1 a.maximum (omega arith), le-leb a.maximum largest_maximum (omega arith), ne_eqb a.first 0 c.if-first-eq0.false, le-ltb (a.level + 2) level_count (omega arith))

pub is_framed_spec : {M : Type 1} → statement M
is_framed_spec = tie.close (tie.spec sub_last returns returns_2 returns_3 returns-4 returns-5 returns-6)
