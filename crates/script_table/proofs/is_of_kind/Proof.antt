-- `script_table::is_of_kind` meets its contract. Assumes nothing.
use mathlib.Core.Path.{sym, ap, ◌∙◌}
use borrow.Author.Tests.{eq-eqb, ne_eqb}
use Rattle.script_words.specs.declared.KeyWord.{KeyWord}
use Rattle.script_words.specs.declared.UserWord.{UserWord}
use Rattle.script_words.specs.declared.NumberWord.{NumberWord}
use Rattle.script_table.specs.Faults.{fits}
use borrow.Author.Rules.{rules}
use Rattle.script_table.proofs.is_of_kind.Statement.{statement}
use Rattle.script_table.proofs.is_of_kind.Tie as tie

internal-key-requires : tie.Need-internal_key-k-requires
internal-key-requires c κs = search rules

returns : tie.Need-returns-then-kind-eq75
unfolding fits
returns c = simp (eq-eqb _ _ c.if-kind-eq75.true) (ap (λ (w : KeyWord). w.fine) c.internal_key-k.ensures)

user-key-requires : tie.Need-user_key-u-requires
user-key-requires c κs = search rules

returns_2 : tie.Need-returns-then-kind-eq85
unfolding fits
returns_2 c = simp (ne_eqb _ _ c.if-kind-eq75.false, eq-eqb _ _ c.if-kind-eq85.true) (ap (λ (w : UserWord). w.fine) c.user_key-u.ensures)

is-of-numbers-requires : tie.Need-is_of_numbers-requires
is-of-numbers-requires c κs = search rules

number-requires : tie.Need-number-n-requires
number-requires c κs = search rules

returns_3 : tie.Need-returns-then-is_of_numbers
unfolding fits
returns_3 c = simp (ne_eqb _ _ c.if-kind-eq75.false, ne_eqb _ _ c.if-kind-eq85.false, sym c.is_of_numbers.ensures ∙ c.if-is_of_numbers.true) (ap (λ (w : NumberWord). w.fine) c.number-n.ensures)

is-of-other-requires : tie.Need-is_of_other-requires
is-of-other-requires c κs = search rules

returns-4 : tie.Need-returns
unfolding fits
returns-4 c = simp (ne_eqb _ _ c.if-kind-eq75.false, ne_eqb _ _ c.if-kind-eq85.false, sym c.is_of_numbers.ensures ∙ c.if-is_of_numbers.false) c.is_of_other.ensures

pub is_of_kind_spec : {M : Type 1} → statement M
is_of_kind_spec = tie.close (tie.spec internal-key-requires returns user-key-requires returns_2 is-of-numbers-requires number-requires returns_3 is-of-other-requires returns-4)
