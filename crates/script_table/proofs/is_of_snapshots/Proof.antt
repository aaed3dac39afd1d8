-- `script_table::is_of_snapshots` meets its contract. Assumes nothing.
use borrow.Author.Tests.{eq-eqb, ne_eqb}
use Rattle.script_words.specs.WordLaws.{word_length}
use Rattle.script_table.specs.Faults.{fits_snapshots}
use borrow.Author.Rules.{rules}
use Rattle.script_table.proofs.is_of_snapshots.Statement.{statement}
use Rattle.script_table.proofs.is_of_snapshots.Tie as tie

is-held-requires : tie.Need-is_held-requires
is-held-requires c κs = search rules

returns : tie.Need-returns-then-kind-eq66
unfolding fits_snapshots
returns c = simp (eq-eqb _ _ c.if-kind-eq66.true) c.is_held.ensures

is-letter-requires : tie.Need-is_letter-requires
is-letter-requires c κs = search rules

returns_2 : tie.Need-returns-then-kind-eq65
unfolding fits_snapshots
returns_2 c = simp (ne_eqb _ _ c.if-kind-eq66.false, eq-eqb _ _ c.if-kind-eq65.true) c.is_letter.ensures

is-name-requires : tie.Need-is_name-requires
is-name-requires c κs = search rules

returns_3 : tie.Need-returns-then-kind-eq71
unfolding fits_snapshots
returns_3 c = simp (ne_eqb _ _ c.if-kind-eq66.false, ne_eqb _ _ c.if-kind-eq65.false, eq-eqb _ _ c.if-kind-eq71.true, word_length) c.is_name.ensures

returns-4 : tie.Need-returns
unfolding fits_snapshots
returns-4 c = simp (ne_eqb _ _ c.if-kind-eq66.false, ne_eqb _ _ c.if-kind-eq65.false, ne_eqb _ _ c.if-kind-eq71.false)

pub is_of_snapshots_spec : {M : Type 1} → statement M
is_of_snapshots_spec = tie.close (tie.spec is-held-requires returns is-letter-requires returns_2 is-name-requires returns_3 returns-4)
