-- The loop of `low_byte`: the byte of what is left is the byte at i.
use Rattle.std.proofs.Common.{◌≡◌, ◌-◌, get_or}
use Rattle.lemmas.specs.Little.{bytes}
use Rattle.script_words.proofs.low_byte.Given as goal

abbrev pub invariant-loop : goal.invariant-loop
invariant-loop l = get_or (bytes (l.width - l.counter) l.y) (l.i - l.counter) 0 ≡ get_or (bytes l.width l.x) l.i 0
