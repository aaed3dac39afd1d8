-- `records::is_blank` meets its contract. Assumes nothing.
use mathlib.Core.Path.{sym, ◌∙◌}
use borrow.Author.Rules.{rules}
use borrow.Author.Tests.{eq-eqb, ne_eqb}
use Rattle.records.specs.Record.{is_blank}
use Rattle.records.proofs.is_blank.Statement.{statement}
use Rattle.records.proofs.is_blank.Tie as tie

returns : tie.Need-returns-then-n-ne0
unfolding is_blank
returns c = rw (ne_eqb _ 0 c.if-n-ne0.true)

returns_2 : tie.Need-returns-then-r-ne0
unfolding is_blank
returns_2 c = rw (eq-eqb _ 0 c.if-n-ne0.false, ne_eqb _ 0 c.if-r-ne0.true)

returns_3 : tie.Need-returns-then-r-ne0-2
unfolding is_blank
returns_3 c = rw (eq-eqb _ 0 c.if-n-ne0.false, eq-eqb _ 0 c.if-r-ne0.false, ne_eqb _ 0 c.if-r-ne0-2.true)

is-blank-key-requires : tie.Need-is_blank_key-requires
is-blank-key-requires c κs = search rules

-- number, size and seeks are 0: what is left are the two keys
returns-4 : tie.Need-returns-then-not-is_blank_key
unfolding is_blank
returns-4 c =
    let e = c in
    rw (eq-eqb _ 0 e.if-n-ne0.false, eq-eqb _ 0 e.if-r-ne0.false, eq-eqb _ 0 e.if-r-ne0-2.false, sym c.is_blank_key.ensures ∙ c.if-not-is_blank_key.true)

is-blank-key-requires-2 : tie.Need-is_blank_key-requires-2
is-blank-key-requires-2 c κs = search rules

returns-5 : tie.Need-returns
unfolding is_blank
returns-5 c =
    let f = c in
    let e = f in
    rw (eq-eqb _ 0 e.if-n-ne0.false, eq-eqb _ 0 e.if-r-ne0.false, eq-eqb _ 0 e.if-r-ne0-2.false, sym f.is_blank_key.ensures ∙ f.if-not-is_blank_key.false) c.is_blank_key-2.ensures

pub is_blank_spec : {M : Type 1} → statement M
is_blank_spec = tie.close (tie.spec returns returns_2 returns_3 is-blank-key-requires returns-4 is-blank-key-requires-2 returns-5)
