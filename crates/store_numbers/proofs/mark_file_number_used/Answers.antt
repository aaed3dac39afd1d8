-- `store_numbers::mark_file_number_used` meets its contract. Assumes nothing.
use Rattle.std.proofs.Common.{sym, ap, ◌∙◌, Ok}
use borrow.Author.Tests.{le-leb, lt-leb}
use Rattle.model.specs.File.{max_counter}
use Rattle.model.specs.Counters.{mark, counter_beyond}
use Rattle.counters.specs.Counters.{counters_of}
use Rattle.store.proofs.Shape.{shape}
use Rattle.store_numbers.specs.NumberingLaws.{count_ill, count_beyond, count_done, mark_up, mark_kept}
use Rattle.store_numbers.proofs.mark_file_number_used.Goals as goal
use Rattle.store_numbers.proofs.mark_file_number_used.Goals.{then-next-n, else-next-n}

pub returns-then-not-is_well_formed : goal.returns-then-not-is_well_formed
returns-then-not-is_well_formed c =
    count_ill c.args.s (mark c.args.n.0) (sym c.is_well_formed.ensures ∙ c.if-not-is_well_formed.true)

pub returns-then-n-ge-LARGEST : goal.returns-then-n-ge-LARGEST
unfolding counter_beyond
returns-then-n-ge-LARGEST c =
    let well = sym c.is_well_formed.ensures ∙ c.if-not-is_well_formed.false in
    count_beyond c.args.s (mark c.args.n.0) well (le-leb max_counter c.args.n.0 c.if-n-ge-LARGEST.true)

-- the counters that are left are those of mark
pub returns : goal.returns
unfolding counter_beyond
returns c =
    let a = c.args in
    let well = sym c.is_well_formed.ensures ∙ c.if-not-is_well_formed.false in
    let done = count_done a.s (mark a.n.0) (shape a.s _ c.well_formed.0) c.if-next-n.counters well (lt-leb max_counter a.n.0 c.if-n-ge-LARGEST.false) in
    ap Ok c.with_counters.ensures
    ∙ elim c.if-next-n.branch [
      | then-next-n w ↦ done (ap counters_of w.counters-is ∙ mark_up a.n.0 a.s.counters w.if-next-n.true)
      | else-next-n w ↦ done (ap counters_of w.counters-is ∙ mark_kept a.n.0 a.s.counters w.if-next-n.false)
    ]
