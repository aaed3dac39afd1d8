-- `edit_merge::goes_before` meets its contract. Assumes nothing.
use borrow.Author.Rules.{rules}
use Rattle.model.specs.File.{by_smallest}
use Rattle.records.specs.Record.{file_of}
use Rattle.edit_order.specs.Arrangement.{record_before}
use Rattle.edit_merge.proofs.goes_before.Statement.{statement}
use Rattle.edit_merge.proofs.goes_before.Tie as tie

is-before-requires : tie.Need-is_before-requires
is-before-requires c κs = search rules

returns : tie.Need-returns
unfolding record_before by_smallest file_of
returns c = c.is_before.ensures

pub goes_before_spec : {M : Type 1} → statement M
goes_before_spec = tie.close (tie.spec is-before-requires returns)
