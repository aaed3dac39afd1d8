-- `script_words::user_of` meets its contract. By the front of the record. Assumes nothing.
use borrow.Author.Rules.{rules}
use Rattle.script_words.proofs.user_of.Statement.{statement}
use Rattle.script_words.proofs.user_of.Tie as tie

front-requires : tie.Need-front-requires
front-requires c κs = search rules

returns : tie.Need-returns
returns c = rw c.front.ensures

pub user_of_spec : {M : Type 1} → statement M
user_of_spec = tie.close (tie.spec front-requires returns)
