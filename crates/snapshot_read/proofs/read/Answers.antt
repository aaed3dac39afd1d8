-- `read` meets its contract. Assumes nothing.
use Rattle.std.proofs.Common.{sym, ap, ◌∙◌, Ok}
use Rattle.store.specs.declared.Store.{Store}
use Rattle.snapshot_read.specs.Reading.{writes_these}
use Rattle.snapshot_read.specs.ReadingLaws.{read_yes, read_no}
use Rattle.snapshot_read.proofs.read.Goals as goal

pub returns-then-not-writes : goal.returns-then-not-writes
returns-then-not-writes c =
    let bs = c.args.src.now in
    read_no bs (ap (λ (s : Store). writes_these s bs) (sym c.parse-s.ensures) ∙ sym c.writes.ensures ∙ c.if-not-writes.true)

pub returns : goal.returns
returns c =
    let bs = c.args.src.now in
    ap Ok c.parse-s.ensures ∙ read_yes bs (ap (λ (s : Store). writes_these s bs) (sym c.parse-s.ensures) ∙ sym c.writes.ensures ∙ c.if-not-writes.false)
