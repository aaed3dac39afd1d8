-- `check` of an addition meets its contract. Assumes nothing.
use Rattle.std.proofs.Common.{sym, ◌∙◌}
use borrow.Author.Tests.{lt-ltb, le-ltb}
use Rattle.model.specs.Answer.{first_of, ◌⇒◌}
use Rattle.model.specs.File.{full}
use Rattle.model.specs.Edit.{addition_refusals}
use Rattle.answers.specs.Outcome.{outcome_of, passed}
use Rattle.edit.specs.Edit.{addition_of}
use Rattle.edit_entries.specs.Entries.{addition_tests}
use Rattle.edit_entries.proofs.AdditionEntry.check.Goals as goal

pub returns-then-self-ge-COUNT : goal.returns-then-self-ge-COUNT
unfolding passed first_of outcome_of ◌⇒◌ addition_tests addition_refusals addition_of full
returns-then-self-ge-COUNT c = rw (le-ltb _ _ c.if-self-ge-COUNT.true)

pub returns-then-not-is_good : goal.returns-then-not-is_good
unfolding passed first_of outcome_of ◌⇒◌ addition_tests addition_refusals addition_of full
returns-then-not-is_good c = rw (lt-ltb _ _ c.if-self-ge-COUNT.false, sym c.is_good.ensures ∙ c.if-not-is_good.true)

pub returns-then-not-is_good-2 : goal.returns-then-not-is_good-2
unfolding passed first_of outcome_of ◌⇒◌ addition_tests addition_refusals addition_of full
returns-then-not-is_good-2 c = rw (lt-ltb _ _ c.if-self-ge-COUNT.false, sym c.is_good.ensures ∙ c.if-not-is_good.false, sym c.is_good-2.ensures ∙ c.if-not-is_good-2.true)

pub returns-then-is_before : goal.returns-then-is_before
unfolding passed first_of outcome_of ◌⇒◌ addition_tests addition_refusals addition_of full
returns-then-is_before c = rw (lt-ltb _ _ c.if-self-ge-COUNT.false, sym c.is_good.ensures ∙ c.if-not-is_good.false, sym c.is_good-2.ensures ∙ c.if-not-is_good-2.false, sym c.is_before.ensures ∙ c.if-is_before.true)

pub returns-then-self-gt-LARGEST_SIZE : goal.returns-then-self-gt-LARGEST_SIZE
unfolding passed first_of outcome_of ◌⇒◌ addition_tests addition_refusals addition_of full
returns-then-self-gt-LARGEST_SIZE c = rw (lt-ltb _ _ c.if-self-ge-COUNT.false, sym c.is_good.ensures ∙ c.if-not-is_good.false, sym c.is_good-2.ensures ∙ c.if-not-is_good-2.false, sym c.is_before.ensures ∙ c.if-is_before.false, lt-ltb _ _ c.if-self-gt-LARGEST_SIZE.true)

pub returns : goal.returns
unfolding passed first_of outcome_of ◌⇒◌ addition_tests addition_refusals addition_of full
returns c = rw (lt-ltb _ _ c.if-self-ge-COUNT.false, sym c.is_good.ensures ∙ c.if-not-is_good.false, sym c.is_good-2.ensures ∙ c.if-not-is_good-2.false, sym c.is_before.ensures ∙ c.if-is_before.false, le-ltb _ _ c.if-self-gt-LARGEST_SIZE.false)
