-- `edit_merge::level_begun` meets its contract. Assumes nothing.
use mathlib.Core.Bool.{false}
use borrow.Author.Rules.{rules}
use Rattle.edit_merge.specs.Neighbours.{level_begun}
use Rattle.edit_merge.proofs.level_begun.Statement.{statement}
use Rattle.edit_merge.proofs.level_begun.Tie as tie

blank-key-requires : tie.Need-blank_key-requires
blank-key-requires c κs = search rules

returns : tie.Need-returns
unfolding level_begun
returns c = λ i. record { end = c.blank_key.ensures i; fits = c.args.fits; deep = (level_begun c.args.fits c.args.level).deep; follows = false; fresh = false }

pub level_begun_spec : {M : Type 1} → statement M
level_begun_spec = tie.close (tie.spec blank-key-requires returns)
