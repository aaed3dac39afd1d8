-- `store_numbers::reuse_file_number` meets its contract. Assumes nothing.
use Rattle.std.proofs.Common.{arith, refl, sym, ap, ◌∙◌, Ok}
use Rattle.model.specs.Counters.{reuse, counter_beyond}
use Rattle.counters.specs.Counters.{counters_of}
use Rattle.store.proofs.Shape.{shape}
use Rattle.store_numbers.specs.NumberingLaws.{count_ill, count_done, reuse_down, reuse_kept}
use Rattle.store_numbers.proofs.reuse_file_number.Goals as goal
use Rattle.store_numbers.proofs.reuse_file_number.Goals.{then-next-gt0+then-next-n, then-next-gt0+else-next-n, else-next-gt0}

pub returns-then-not-is_well_formed : goal.returns-then-not-is_well_formed
returns-then-not-is_well_formed c =
    count_ill c.args.s (reuse c.args.n.0) (sym c.is_well_formed.ensures ∙ c.if-not-is_well_formed.true)

-- the counters that are left are those of reuse
pub returns : goal.returns
unfolding counter_beyond
returns c =
    let a = c.args in
    let well = sym c.is_well_formed.ensures ∙ c.if-not-is_well_formed.false in
    let done = count_done a.s (reuse a.n.0) (shape a.s _ c.well_formed.0) c.if-next-gt0.counters well refl in
    ap Ok c.with_counters.ensures
    ∙ elim c.if-next-gt0.branch [
      | then-next-gt0+then-next-n w ↦ done (ap counters_of w.counters-is ∙ reuse_down a.n.0 a.s.counters (omega (arith, w.if-next-gt0.true, w.if-next-n.true)))
      | then-next-gt0+else-next-n w ↦ done (ap counters_of w.counters-is ∙ reuse_kept a.n.0 a.s.counters (λ e. w.if-next-n.false (omega arith)))
      | else-next-gt0 w ↦ done (ap counters_of w.counters-is ∙ reuse_kept a.n.0 a.s.counters (λ e. omega (arith, w.if-next-gt0.false)))
    ]
