-- The counters that the record stands for. Assumes nothing.
use Rattle.model.specs.File as model
use Rattle.counters.specs.declared.Counters.{Counters}

-- the counters that a record stands for
unfoldable pub counters_of : Counters → model.Counters
counters_of c = record { next = c.next.0; manifest = c.manifest.0; last = c.last.0; log = c.log.0; previous = c.previous.0 }

-- the record of these counters
unfoldable pub counters_record : model.Counters → Counters
counters_record c = record {
  next = record { 0 = c.next };
  manifest = record { 0 = c.manifest };
  last = record { 0 = c.last };
  log = record { 0 = c.log };
  previous = record { 0 = c.previous };
}
