-- The loop of `record_of_text`: the bytes before i are laid.
use Rattle.std.proofs.Common.{◌≡◌, ◌++◌, take, drop}
use Rattle.lemmas.specs.Little.{bytes}
use Rattle.script_words.specs.Words.{word_of, forty}
use Rattle.script_words.proofs.record_of_text.Given as goal

abbrev pub invariant-loop-i : goal.invariant-loop-i
invariant-loop-i l = l.b-items ≡ take l.i (forty (word_of l.line l.from l.to ++ bytes l.width l.x)) ++ drop l.i l.initial.b-items
