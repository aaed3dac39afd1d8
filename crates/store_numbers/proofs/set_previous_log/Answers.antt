-- `store_numbers::set_previous_log` meets its contract. Assumes nothing.
use Rattle.std.proofs.Common.{refl, ◌∙◌}
use Rattle.model.specs.Counters.{previous, counted, counter_beyond}
use Rattle.counters.specs.Counters.{counters_of}
use Rattle.counters.specs.declared.Counters.{Counters}
use Rattle.store.proofs.Shape.{shape}
use Rattle.store_numbers.specs.NumberingLaws.{setting_is}
use Rattle.store_numbers.proofs.set_previous_log.Goals as goal

pub returns : goal.returns
unfolding counter_beyond counted counters_of
returns c =
    let a = c.args in
    let after : Counters = record { next = a.s.counters.next; manifest = a.s.counters.manifest; last = a.s.counters.last; log = a.s.counters.log; previous = a.n } in
    c.settled.ensures ∙ setting_is a.s (previous a.n.0) a.n.0 after (shape a.s _ c.well_formed.0) refl refl
