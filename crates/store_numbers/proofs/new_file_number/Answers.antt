-- `store_numbers::new_file_number` meets its contract. Assumes nothing.
use Rattle.std.proofs.Common.{◌+◌, sym, ◌∙◌, ap, add-one, Ok}
use borrow.Author.Tests.{le-leb, lt-leb}
use Rattle.model.specs.File.{max_counter}
use Rattle.model.specs.Counters.{counted, counter_beyond}
use Rattle.counters.specs.Counters.{counters_of}
use Rattle.store.proofs.Shape.{shape}
use Rattle.store.specs.declared.Store.{Store}
use Rattle.store_numbers.specs.declared.Handed.{Handed}
use Rattle.store_numbers.specs.NumberingLaws.{new_ill, new_beyond, new_done, next_is}
use Rattle.store_numbers.proofs.new_file_number.Goals as goal

pub returns-then-not-is_well_formed : goal.returns-then-not-is_well_formed
returns-then-not-is_well_formed c = new_ill c.args.s (sym c.is_well_formed.ensures ∙ c.if-not-is_well_formed.true)

pub returns-then-next-ge-LARGEST : goal.returns-then-next-ge-LARGEST
unfolding counter_beyond counters_of
returns-then-next-ge-LARGEST c =
    let s = c.args.s in
    new_beyond s (sym c.is_well_formed.ensures ∙ c.if-not-is_well_formed.false) (le-leb max_counter s.counters.next.0 c.if-next-ge-LARGEST.true)

pub returns : goal.returns
unfolding counter_beyond counted counters_of
returns c =
    let s = c.args.s in
    let n = s.counters.next.0 in
    let well = sym c.is_well_formed.ensures ∙ c.if-not-is_well_formed.false in
    ap (λ (t : Store). Ok (record { number = s.counters.next; store = t })) c.with_counters.ensures
    ∙ new_done s (shape s _ c.well_formed.0) (next_is n s.counters (n + 1)) well (lt-leb max_counter n c.if-next-ge-LARGEST.false) (rw add-one)
