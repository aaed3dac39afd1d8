-- `records::record` meets its contract. Assumes nothing.
use borrow.Author.Rules.{rules}
use Rattle.records.specs.Record.{record_of}
use Rattle.records.proofs.record.Statement.{statement}
use Rattle.records.proofs.record.Tie as tie

kept-requires : tie.Need-kept-low-requires
kept-requires c κs = search rules

kept-requires-2 : tie.Need-kept-high-requires
kept-requires-2 c κs = search rules

allowed-seeks-requires : tie.Need-allowed_seeks-requires
allowed-seeks-requires c κs = search rules

returns : tie.Need-returns
unfolding record_of
returns c = rw (← c.kept-low.ensures, ← c.kept-high.ensures, ← c.allowed_seeks.ensures)

pub record_spec : {M : Type 1} → statement M
record_spec = tie.close (tie.spec kept-requires kept-requires-2 allowed-seeks-requires returns)
