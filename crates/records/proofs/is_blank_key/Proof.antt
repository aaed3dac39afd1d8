-- `records::is_blank_key` meets its contract. Assumes nothing.
use mathlib.Core.Path.{sym, ◌∙◌}
use borrow.Author.Rules.{rules}
use borrow.Author.Tests.{eq-eqb, ne_eqb}
use Rattle.keys.specs.KeyLaws.{sound_empty}
use Rattle.records.specs.Record.{blank_key}
use Rattle.records.proofs.is_blank_key.Statement.{statement}
use Rattle.records.proofs.is_blank_key.Tie as tie

holds-zeros-requires : tie.Need-holds_zeros-requires
holds-zeros-requires c κs = search rules

returns : tie.Need-returns-then-k-eq0
unfolding blank_key
returns c = rw (eq-eqb _ 0 c.if-k-eq0.true) (c.holds_zeros.ensures ∙ sym (sound_empty c.args.k c.if-k-eq0.true))

returns_2 : tie.Need-returns-else-k-eq0
unfolding blank_key
returns_2 c = rw (ne_eqb _ 0 c.if-k-eq0.false)

pub is_blank_key_spec : {M : Type 1} → statement M
is_blank_key_spec = tie.close (tie.spec holds-zeros-requires returns returns_2)
