-- `pick_search::narrowed` meets its contract. Assumes nothing.
use mathlib.Core.Path.{ap, ◌∙◌}
use borrow.Author.Rules.{rules}
use Rattle.bisect.specs.Window.{half_of}
use Rattle.pick_search.proofs.narrowed.Statement.{statement}
use Rattle.pick_search.proofs.narrowed.Tie as tie

user-is-after-requires : tie.Need-user_is_after-ends_before-requires
user-is-after-requires c κs = search rules

half-requires : tie.Need-half-requires
half-requires c κs = search rules

returns : tie.Need-returns
returns c = c.half.ensures ∙ ap (half_of c.args.p) c.user_is_after-ends_before.ensures

pub narrowed_spec : {M : Type 1} → statement M
narrowed_spec = tie.close (tie.spec user-is-after-requires half-requires returns)
