-- `bisect::middle` meets its contract. Assumes nothing.
use mathlib.Core.Path.{refl}
use borrow.Author.Rules.{rules}
use Rattle.bisect.proofs.middle.Statement.{statement}
use Rattle.bisect.proofs.middle.Tie as tie

sub-result : tie.Need-overflow_sub-result
sub-result c = search rules

add-result : tie.Need-overflow_add-result
add-result c = search rules

returns : tie.Need-returns
returns c = refl

pub middle_spec : {M : Type 1} → statement M
middle_spec = tie.close (tie.spec sub-result add-result returns)
