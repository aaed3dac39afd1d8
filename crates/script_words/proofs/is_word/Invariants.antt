-- The loop of `is_word`: the rest of the run is the rest of the text exactly if the run is the text.
use Rattle.std.proofs.Common.{◌≡◌, ◌+◌, ◌≤◌, max, drop}
use Rattle.script_words.specs.Words.{word_of, same}
use Rattle.script_words.proofs.is_word.Given as goal

abbrev pub invariant-loop-i : goal.invariant-loop-i
invariant-loop-i l = record {
  within : l.from + l.i ≤ max l.from l.to;
  rest : same (word_of l.line (l.from + l.i) l.to) (drop l.i l.text) ≡ same (word_of l.line l.from l.to) l.text;
}
