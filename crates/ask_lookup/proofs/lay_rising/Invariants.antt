-- The loop of `lay_rising`: writing the sorted numbers from j on gives the whole output.
use Rattle.std.proofs.Common.{◌≡◌, ltb, length, drop}
use Rattle.lemmas.specs.Lists.{sort}
use Rattle.lemmas.specs.Slices.{put}
use Rattle.ask_lookup.proofs.lay_rising.Given as goal

abbrev pub invariant-loop-j : goal.invariant-loop-j
invariant-loop-j l = (length l.out ≡ length l.fn.out) × (put l.out l.j (drop l.j (sort ltb l.numbers)) ≡ put l.fn.out 0 (sort ltb l.numbers))
