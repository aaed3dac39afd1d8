-- `edit_apply::accepted` meets its contract. Assumes nothing.
use Rattle.edit_apply.specs.Apply.{accepted_by}
use Rattle.edit_apply.proofs.accepted.Goals as goal

pub returns : goal.returns
unfolding accepted_by
returns c =
    λ i. record {
      files = c.args.files;
      counts = c.add_counts-counts.ensures i;
      pointers = c.point-pointers.ensures i;
      counters = c.with_log-counters.ensures i;
    }
