-- The loop of `keys::sequence_of`: s is the little-endian number of the key's last bytes, as many as were read. Assumes nothing.
use Rattle.std.proofs.Common.{◌≡◌, ◌-◌, length, take, drop}
use Rattle.lemmas.specs.Little.{number}
use Rattle.keys.proofs.sequence_of.Given as goal

abbrev pub invariant-loop-b : goal.invariant-loop-b
invariant-loop-b l = l.s ≡ number (drop (l.n - length l.yielded) (take l.n l.a))
