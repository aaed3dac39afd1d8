-- `store_numbers::settled` meets its contract. Assumes nothing.
use Rattle.std.proofs.Common.{sym, ◌∙◌, ap, Ok}
use borrow.Author.Tests.{lt-ltb, le-ltb}
use Rattle.model.specs.File.{max_counter}
use Rattle.store_numbers.specs.Numbering.{setting}
use Rattle.store_numbers.proofs.settled.Goals as goal

pub returns-then-not-is_well_formed : goal.returns-then-not-is_well_formed
unfolding setting
returns-then-not-is_well_formed c = rw (sym c.is_well_formed.ensures ∙ c.if-not-is_well_formed.true)

pub returns-then-n-gt-LARGEST : goal.returns-then-n-gt-LARGEST
unfolding setting
returns-then-n-gt-LARGEST c = rw (sym c.is_well_formed.ensures ∙ c.if-not-is_well_formed.false, lt-ltb max_counter c.args.n c.if-n-gt-LARGEST.true)

pub returns : goal.returns
unfolding setting
returns c =
    rw (sym c.is_well_formed.ensures ∙ c.if-not-is_well_formed.false, le-ltb max_counter c.args.n c.if-n-gt-LARGEST.false) (ap Ok c.with_counters.ensures)
