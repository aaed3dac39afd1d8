-- the loop of `search`: the window stands, and shrinks
use Rattle.std.proofs.Common.{◌-◌}
use Rattle.keys.specs.Key.{key_of}
use Rattle.ask_find.specs.SearchLaws.{Standing}
use Rattle.ask_find.proofs.search.Given as goal

abbrev pub invariant-loop-s : goal.invariant-loop-s
invariant-loop-s l = Standing l.files (key_of l.k) l.s

abbrev pub decreases-loop-s : goal.decreases-loop-s
decreases-loop-s l = l.s.hi - l.s.lo
