-- The loop of `has_twice`: no number stands twice among the stayers and the first i added files.
use Rattle.std.proofs.Common.{◌≡◌, true, take, ◌++◌}
use Rattle.lemmas.specs.Lists.{distinct}
use Rattle.edit_stayers.proofs.has_twice.Given as goal

abbrev pub invariant-loop-i : goal.invariant-loop-i
invariant-loop-i l = distinct (l.kept ++ take l.i l.added) ≡ true
