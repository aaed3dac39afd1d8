-- `store_numbers::set_manifest_number` meets its contract. Assumes nothing.
use Rattle.std.proofs.Common.{refl, ◌∙◌}
use Rattle.model.specs.Counters.{manifest, counted, counter_beyond}
use Rattle.counters.specs.Counters.{counters_of}
use Rattle.counters.specs.declared.Counters.{Counters}
use Rattle.store.proofs.Shape.{shape}
use Rattle.store_numbers.specs.NumberingLaws.{setting_is}
use Rattle.store_numbers.proofs.set_manifest_number.Goals as goal

pub returns : goal.returns
unfolding counter_beyond counted counters_of
returns c =
    let a = c.args in
    let after : Counters = record { next = a.s.counters.next; manifest = a.n; last = a.s.counters.last; log = a.s.counters.log; previous = a.s.counters.previous } in
    c.settled.ensures ∙ setting_is a.s (manifest a.n.0) a.n.0 after (shape a.s _ c.well_formed.0) refl refl
