-- The loop of `pass`: the files passed so far and those passed from here on are all that the key passes.
use Rattle.std.proofs.Common.{◌≡◌, ◌+◌}
use Rattle.keys.specs.Key.{key_of}
use Rattle.records.specs.Run.{run}
use Rattle.pick_answer.specs.Picked.{picked_of}
use Rattle.compact_cutter.specs.Cutter.{passing_from}
use Rattle.compact_cutter.specs.CutterLaws.{passing_with}
use Rattle.compact_cutter.proofs.pass.Given as goal

abbrev pub invariant-loop-at : goal.invariant-loop-at
invariant-loop-at l = passing_with l.at l.bytes (run (l.from + l.at) (l.from + l.c.grand) l.c.files) (key_of l.k) ≡ passing_from l.fn.place (picked_of l.c).grand (key_of l.k)
