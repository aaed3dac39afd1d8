-- `script_table::is_of_numbers` meets its contract. Assumes nothing.
use borrow.Author.Tests.{eq-eqb, ne_eqb}
use Rattle.script_table.specs.Faults.{of_numbers}
use Rattle.script_table.proofs.is_of_numbers.Statement.{statement}
use Rattle.script_table.proofs.is_of_numbers.Tie as tie

returns : tie.Need-returns-then-kind-eq76
unfolding of_numbers
returns c = simp (eq-eqb _ _ c.if-kind-eq76.true)

returns_2 : tie.Need-returns-then-kind-eq78
unfolding of_numbers
returns_2 c = simp (ne_eqb _ _ c.if-kind-eq76.false, eq-eqb _ _ c.if-kind-eq78.true)

returns_3 : tie.Need-returns-then-kind-eq83
unfolding of_numbers
returns_3 c = simp (ne_eqb _ _ c.if-kind-eq76.false, ne_eqb _ _ c.if-kind-eq78.false, eq-eqb _ _ c.if-kind-eq83.true)

returns-4 : tie.Need-returns-then-kind-eq77
unfolding of_numbers
returns-4 c = simp (ne_eqb _ _ c.if-kind-eq76.false, ne_eqb _ _ c.if-kind-eq78.false, ne_eqb _ _ c.if-kind-eq83.false, eq-eqb _ _ c.if-kind-eq77.true)

returns-5 : tie.Need-returns
unfolding of_numbers
returns-5 c = simp (ne_eqb _ _ c.if-kind-eq76.false, ne_eqb _ _ c.if-kind-eq78.false, ne_eqb _ _ c.if-kind-eq83.false, ne_eqb _ _ c.if-kind-eq77.false)

pub is_of_numbers_spec : {M : Type 1} → statement M
is_of_numbers_spec = tie.close (tie.spec returns returns_2 returns_3 returns-4 returns-5)
