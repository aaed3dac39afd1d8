-- `keys::held_len` meets its contract. Assumes nothing.
use borrow.Author.Tests.{le-leb, lt-leb}
use Rattle.keys.proofs.held_len.Statement.{statement}
use Rattle.keys.proofs.held_len.Tie as tie

returns : tie.Need-returns-then-room-len
returns c = simp (lt-leb _ _ c.if-room-len.true)

returns_2 : tie.Need-returns-else-room-len
returns_2 c = simp (le-leb _ _ c.if-room-len.false)

pub held_len_spec : {M : Type 1} → statement M
held_len_spec = tie.close (tie.spec returns returns_2)
