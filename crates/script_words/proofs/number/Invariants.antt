-- The loop of `number`: the rest of the digits after the number so far are the whole number.
use Rattle.std.proofs.Common.{◌≡◌, ◌≤◌, true}
use Rattle.script_words.specs.Words.{word_of, number_after, number_word}
use Rattle.script_words.proofs.number.Given as goal

abbrev pub invariant-loop-i : goal.invariant-loop-i
invariant-loop-i l = record {
  fine : l.n.fine ≡ true;
  small : l.n.value ≤ 18446744073709551615;
  rest : number_after l.n.value (word_of l.line l.i l.to) ≡ number_word (word_of l.line l.from l.to);
}
