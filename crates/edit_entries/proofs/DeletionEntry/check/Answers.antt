-- `check` of a deletion meets its contract. Assumes nothing.
use borrow.Author.Tests.{lt-ltb, le-ltb}
use Rattle.model.specs.Answer.{first_of, ◌⇒◌}
use Rattle.model.specs.File.{full}
use Rattle.model.specs.Edit.{deletion_refusals}
use Rattle.answers.specs.Outcome.{outcome_of, passed}
use Rattle.edit.specs.Edit.{deletion_of}
use Rattle.edit_entries.specs.Entries.{deletion_tests}
use Rattle.edit_entries.proofs.DeletionEntry.check.Goals as goal

pub returns-then-self-ge-COUNT : goal.returns-then-self-ge-COUNT
unfolding passed first_of outcome_of ◌⇒◌ deletion_tests deletion_refusals deletion_of full
returns-then-self-ge-COUNT c = rw (le-ltb _ _ c.if-self-ge-COUNT.true)

pub returns : goal.returns
unfolding passed first_of outcome_of ◌⇒◌ deletion_tests deletion_refusals deletion_of full
returns c = rw (lt-ltb _ _ c.if-self-ge-COUNT.false)
