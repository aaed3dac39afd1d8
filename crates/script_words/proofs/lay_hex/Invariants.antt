-- The loop of `lay_hex`: the bytes before i are those of the digits.
use Rattle.std.proofs.Common.{◌≡◌, take}
use Rattle.script_words.specs.Words.{hex_bytes}
use Rattle.script_words.proofs.lay_hex.Given as goal

abbrev pub invariant-loop-i : goal.invariant-loop-i
invariant-loop-i l = take l.i l.b-items ≡ take l.i (hex_bytes l.line l.from l.to)
