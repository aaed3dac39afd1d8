-- `pick_plan::started_by` meets its contract. Assumes nothing.
use Rattle.std.proofs.Common.{ℕ, ap, lt-ltb, le-ltb, None, Some}
use Rattle.pick_found.specs.declared.FoundRun.{FoundRun}
use Rattle.pick_plan.specs.declared.Started.{Started}
use Rattle.pick_plan.specs.Starts.{started_by}
use Rattle.pick_plan.proofs.started_by.Goals as goal

-- a start with nothing
abbrev with_nothing : FoundRun → Started
with_nothing a = record { start = None; first = a }

-- a start at a place
abbrev with_file : ℕ → FoundRun → Started
with_file i a = record { start = Some i; first = a }

pub returns-then-p : goal.returns-then-p
unfolding started_by
returns-then-p c =
    let p = c.args.p in
    rw (le-ltb p.lo p.hi c.if-p.true) (ap with_nothing c.nothing_at.ensures)

pub returns : goal.returns
unfolding started_by
returns c =
    let p = c.args.p in
    rw (lt-ltb p.lo p.hi c.if-p.false) (ap (with_file c.args.i) c.one_file.ensures)
