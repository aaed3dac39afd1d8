-- `is_number` meets its contract: what equals itself is a number. Assumes nothing.
use borrow.Author.Rules.{rules}
use Rattle.replay_given.specs.Given.{is_number}
use Rattle.replay_given.specs.GivenLaws.{equals_itself}
use Rattle.replay_given.proofs.is_number.Statement.{statement}
use Rattle.replay_given.proofs.is_number.Tie as tie

enum-known-c : tie.Need-enum_known-c
enum-known-c c = search rules

enum_told : tie.Need-enum_told-1
enum_told c = search rules

returns : tie.Need-returns-in-Size
unfolding is_number
returns c = rw c.in-Size.is (equals_itself c.in-Size.x)

returns_2 : tie.Need-returns-in-Manual
unfolding is_number
returns_2 c = rw c.in-Manual.is

pub is_number_spec : {M : Type 1} → statement M
is_number_spec = tie.close (tie.spec enum-known-c enum_told returns returns_2)
