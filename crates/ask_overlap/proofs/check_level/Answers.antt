-- `check_level` makes the tests of the store and the level. Assumes nothing.
use Rattle.std.proofs.Common.{sym, ◌∙◌}
use Rattle.ask_overlap.specs.CallsLaws.{tests_ill, tests_beyond, tests_done}
use Rattle.ask_overlap.proofs.check_level.Goals as goal

pub returns-then-not-is_well_formed : goal.returns-then-not-is_well_formed
returns-then-not-is_well_formed c = sym (tests_ill c.args.s c.args.level (sym c.is_well_formed.ensures ∙ c.if-not-is_well_formed.true))

pub returns-then-level-ge-COUNT : goal.returns-then-level-ge-COUNT
returns-then-level-ge-COUNT c =
    sym (tests_beyond c.args.s c.args.level (sym c.is_well_formed.ensures ∙ c.if-not-is_well_formed.false) c.if-level-ge-COUNT.true)

pub returns : goal.returns
returns c =
    sym (tests_done c.args.s c.args.level (sym c.is_well_formed.ensures ∙ c.if-not-is_well_formed.false) c.if-level-ge-COUNT.false)
