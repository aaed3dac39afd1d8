-- The loop of `point`: setting the edit's pointers from p on gives the whole answer.
use Rattle.std.proofs.Common.{◌≡◌, length, drop}
use Rattle.model.specs.File.{level_count}
use Rattle.edit_apply.specs.Apply.{pointed_by}
use Rattle.edit_apply.proofs.point.Given as goal

abbrev pub invariant-loop-p : goal.invariant-loop-p
invariant-loop-p l = (length l.out ≡ level_count) × (pointed_by (drop l.p-index l.p-items) l.out ≡ pointed_by l.p-items l.fn.pointers)
