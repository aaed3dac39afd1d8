-- `ask_find::narrow` meets its contract. Assumes nothing.
use mathlib.Core.Path.{ap, ◌∙◌}
use borrow.Author.Rules.{rules}
use Rattle.records.specs.Record.{file_of}
use Rattle.bisect.specs.Window.{half_of}
use Rattle.ask_find.specs.Finding.{narrow_of}
use Rattle.ask_find.proofs.narrow.Statement.{statement}
use Rattle.ask_find.proofs.narrow.Tie as tie

is-before-requires : tie.Need-is_before-ends_before-requires
is-before-requires c κs = search rules

half-requires : tie.Need-half-requires
half-requires c κs = search rules

returns : tie.Need-returns
unfolding narrow_of file_of
returns c = c.half.ensures ∙ ap (half_of c.args.s) c.is_before-ends_before.ensures

pub narrow_spec : {M : Type 1} → statement M
narrow_spec = tie.close (tie.spec is-before-requires half-requires returns)
