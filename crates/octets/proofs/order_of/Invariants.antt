-- The loop of `octets::order_of`: the first bytes of both agree up to the word that comes next. Assumes nothing.
use Rattle.std.proofs.Common.{◌*◌}
use Rattle.octets.proofs.Turns.{Agree}
use Rattle.octets.proofs.order_of.Given as goal

abbrev pub invariant-loop-i : goal.invariant-loop-i
invariant-loop-i l = Agree l.a l.m l.b l.n l.both (8 * l.i)
