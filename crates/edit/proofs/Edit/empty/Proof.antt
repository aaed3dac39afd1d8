-- `edit::Edit::empty` meets its contract. Assumes nothing.
use Rattle.edit.specs.Edit.{empty_record, blank_pointing, blank_deletion, blank_addition}
use borrow.Author.Rules.{rules}
use Rattle.edit.proofs.Edit.empty.Statement.{statement}
use Rattle.edit.proofs.Edit.empty.Tie as tie

blank-key-requires : tie.Need-blank_key-key-requires
blank-key-requires c κs = search rules

returns : tie.Need-returns
unfolding empty_record blank_pointing blank_deletion blank_addition
returns c = rw c.blank_key-key.ensures

pub empty_spec : {M : Type 1} → statement M
empty_spec = tie.close (tie.spec blank-key-requires returns)
