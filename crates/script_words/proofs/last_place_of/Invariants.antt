-- The loop of `last_place_of`: the last place of the rest, or the one found, is the last of the run.
use Rattle.std.proofs.Common.{◌≡◌}
use Rattle.script_words.specs.Words.{word_of, last_place}
use Rattle.script_words.proofs.last_place_of.Given as goal

abbrev pub invariant-loop-i : goal.invariant-loop-i
invariant-loop-i l = last_place l.b l.i l.found (word_of l.line l.i l.to) ≡ last_place l.b l.from l.to (word_of l.line l.from l.to)
