-- The loop of `record_of_hex`: the bytes before i are laid.
use Rattle.std.proofs.Common.{◌≡◌, ◌++◌, take, drop}
use Rattle.script_words.specs.Words.{hex_bytes, forty}
use Rattle.script_words.proofs.record_of_hex.Given as goal

abbrev pub invariant-loop-i : goal.invariant-loop-i
invariant-loop-i l = l.b-items ≡ take l.i (forty (hex_bytes l.line l.from l.to)) ++ drop l.i l.initial.b-items
