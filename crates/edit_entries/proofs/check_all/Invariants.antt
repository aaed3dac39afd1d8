-- `edit_entries::check_all`: the tests of the entries from here on have the outcome of all. Assumes nothing.
use Rattle.std.proofs.Common.{◌≡◌, ◌≤◌, length, drop, map}
use Rattle.lemmas.specs.Lists.{join}
use Rattle.answers.specs.Outcome.{passed}
use Rattle.edit_entries.proofs.check_all.Given as goal

abbrev pub invariant-loop-entry : goal.invariant-loop-entry
invariant-loop-entry g l = let tests = g.E.Entry.tests in (l.entry-index ≤ length l.entries) × (passed (join (map tests l.entries)) ≡ passed (join (map tests (drop l.entry-index l.entries))))
