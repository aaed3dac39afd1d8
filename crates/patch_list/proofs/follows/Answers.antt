-- `follows` meets its contract. Assumes nothing.
use Rattle.patch_list.specs.FoundLaws.{follows_first, follows_level, follows_number}
use Rattle.patch_list.proofs.follows.Goals as goal

pub returns-in_default : goal.returns-in_default
returns-in_default c = rw c.in_default.is (follows_first c.args.e)

pub returns-then-l-e : goal.returns-then-l-e
returns-then-l-e c = rw c.in-Some.is (follows_level c.in-Some.l c.args.e c.if-l-e.true)

pub returns : goal.returns
returns c = rw c.in-Some.is (follows_number c.in-Some.l c.args.e c.if-l-e.false)
