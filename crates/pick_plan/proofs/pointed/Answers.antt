-- `pick_plan::pointed` meets its contract. Assumes nothing.
use Rattle.std.proofs.Common.{ap, true, slice_set}
use borrow.Author.Tests.{eq-eqb, ne_eqb}
use Rattle.keys.specs.declared.Key.{Key}
use Rattle.pick_plan.specs.Plans.{pointers_by}
use Rattle.pick_plan.proofs.pointed.Goals as goal

pub returns-then-c-eq0 : goal.returns-then-c-eq0
unfolding pointers_by
returns-then-c-eq0 c = rw (eq-eqb c.args.c.first.count 0 c.if-c-eq0.true)

pub returns : goal.returns
unfolding pointers_by
returns c =
    let a = c.args in
    rw (ne_eqb a.c.first.count 0 c.if-c-eq0.false) (ap (λ (k : Key). slice_set a.pointers a.c.level (record { set = true; key = k })) c.kept-key.ensures)
