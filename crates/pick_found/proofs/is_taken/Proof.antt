-- `pick_found::is_taken` meets its contract. Assumes nothing.
use borrow.Author.Rules.{rules}
use borrow.Author.Tests.{lt-ltb, le-ltb}
use Rattle.pick_found.proofs.is_taken.Statement.{statement}
use Rattle.pick_found.proofs.is_taken.Tie as tie

returns : tie.Need-returns-then-most-bytes
returns c = let a = c.args in rw (lt-ltb a.most a.bytes c.if-most-bytes.true)

user-is-before-requires : tie.Need-user_is_before-requires
user-is-before-requires c κs = search rules

returns_2 : tie.Need-returns
returns_2 c =
    let e = c in
    let a = e.args in
    rw (le-ltb a.most a.bytes e.if-most-bytes.false, c.user_is_before.ensures)

pub is_taken_spec : {M : Type 1} → statement M
is_taken_spec = tie.close (tie.spec returns user-is-before-requires returns_2)
