-- The loop of `part_end`: as many parts are passed as turns are made.
use Rattle.std.proofs.Common.{◌≡◌}
use Rattle.script_parts.specs.Parts.{part_end}
use Rattle.script_parts.proofs.part_end.Given as goal

abbrev pub invariant-loop : goal.invariant-loop
invariant-loop l = l.end ≡ part_end l.line l.p l.counter
