-- `check` of a pointer meets its contract. Assumes nothing.
use Rattle.std.proofs.Common.{sym, ◌∙◌}
use borrow.Author.Tests.{lt-ltb, le-ltb}
use Rattle.model.specs.Answer.{first_of, ◌⇒◌}
use Rattle.model.specs.File.{full}
use Rattle.model.specs.Edit.{pointer_refusals}
use Rattle.answers.specs.Outcome.{outcome_of, passed}
use Rattle.edit.specs.Edit.{pointing_of}
use Rattle.edit_entries.specs.Entries.{pointing_tests}
use Rattle.edit_entries.proofs.PointingEntry.check.Goals as goal

pub returns-then-self-ge-COUNT : goal.returns-then-self-ge-COUNT
unfolding passed first_of outcome_of ◌⇒◌ pointing_tests pointer_refusals pointing_of full
returns-then-self-ge-COUNT c = rw (le-ltb _ _ c.if-self-ge-COUNT.true)

pub returns-then-not-is_good : goal.returns-then-not-is_good
unfolding passed first_of outcome_of ◌⇒◌ pointing_tests pointer_refusals pointing_of full
returns-then-not-is_good c = rw (lt-ltb _ _ c.if-self-ge-COUNT.false, sym c.is_good.ensures ∙ c.if-not-is_good.true)

pub returns : goal.returns
unfolding passed first_of outcome_of ◌⇒◌ pointing_tests pointer_refusals pointing_of full
returns c = rw (lt-ltb _ _ c.if-self-ge-COUNT.false, sym c.is_good.ensures ∙ c.if-not-is_good.false)
