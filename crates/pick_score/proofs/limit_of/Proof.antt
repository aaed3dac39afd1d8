-- `pick_score::limit_of` meets its contract. Assumes nothing.
use mathlib.Core.Path.{◌∙◌}
use borrow.Author.Rules.{rules}
use Rattle.pick_score.specs.ScoresLaws.{whole_first, whole_deeper}
use Rattle.pick_score.proofs.limit_of.Statement.{statement}
use Rattle.pick_score.proofs.limit_of.Tie as tie

returns : tie.Need-returns-then-level-eq0
returns c = whole_first c.args.level c.if-level-eq0.true

byte-limit-requires : tie.Need-byte_limit-requires
byte-limit-requires c κs = search rules

returns_2 : tie.Need-returns
returns_2 c = c.byte_limit.ensures ∙ whole_deeper c.args.level c.if-level-eq0.false c.requires

pub limit_of_spec : {M : Type 1} → statement M
limit_of_spec = tie.close (tie.spec returns byte-limit-requires returns_2)
