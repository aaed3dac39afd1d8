-- `is_snapshot` meets its contract. Assumes nothing.
use Rattle.std.proofs.Common.{ap, ◌∙◌}
use Rattle.store.specs.declared.Store.{Store}
use Rattle.snapshot_read.specs.Reading.{writes_these}
use Rattle.snapshot_read.specs.ReadingLaws.{snapshot_is}
use Rattle.snapshot_read.proofs.is_snapshot.Goals as goal

pub returns : goal.returns
returns c =
    let src = c.args.src.now in
    c.writes.ensures ∙ ap (λ (s : Store). writes_these s src) c.parse.ensures ∙ snapshot_is src
