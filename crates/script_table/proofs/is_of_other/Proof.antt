-- `script_table::is_of_other` meets its contract. Assumes nothing.
use borrow.Author.Tests.{eq-eqb, ne_eqb}
use Rattle.script_table.specs.Faults.{fits_other}
use borrow.Author.Rules.{rules}
use Rattle.script_table.proofs.is_of_other.Statement.{statement}
use Rattle.script_table.proofs.is_of_other.Tie as tie

is-bytes-requires : tie.Need-is_bytes-requires
is-bytes-requires c κs = search rules

returns : tie.Need-returns-then-kind-eq72
unfolding fits_other
returns c = simp (eq-eqb _ _ c.if-kind-eq72.true) c.is_bytes.ensures

is-counter-requires : tie.Need-is_counter-requires
is-counter-requires c κs = search rules

returns_2 : tie.Need-returns-then-kind-eq67
unfolding fits_other
returns_2 c = simp (ne_eqb _ _ c.if-kind-eq72.false, eq-eqb _ _ c.if-kind-eq67.true) c.is_counter.ensures

returns_3 : tie.Need-returns-then-kind-eq84
unfolding fits_other
returns_3 c = simp (ne_eqb _ _ c.if-kind-eq72.false, ne_eqb _ _ c.if-kind-eq67.false, eq-eqb _ _ c.if-kind-eq84.true)

returns-4 : tie.Need-returns-then-kind-eq73
unfolding fits_other
returns-4 c = simp (ne_eqb _ _ c.if-kind-eq72.false, ne_eqb _ _ c.if-kind-eq67.false, ne_eqb _ _ c.if-kind-eq84.false, eq-eqb _ _ c.if-kind-eq73.true)

is-of-snapshots-requires : tie.Need-is_of_snapshots-requires
is-of-snapshots-requires c κs = search rules

returns-5 : tie.Need-returns
unfolding fits_other
returns-5 c = simp (ne_eqb _ _ c.if-kind-eq72.false, ne_eqb _ _ c.if-kind-eq67.false, ne_eqb _ _ c.if-kind-eq84.false, ne_eqb _ _ c.if-kind-eq73.false) c.is_of_snapshots.ensures

pub is_of_other_spec : {M : Type 1} → statement M
is_of_other_spec = tie.close (tie.spec is-bytes-requires returns is-counter-requires returns_2 returns_3 returns-4 is-of-snapshots-requires returns-5)
