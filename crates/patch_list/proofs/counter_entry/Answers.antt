-- `counter_entry` meets its contract. Assumes nothing.
use Rattle.std.proofs.Common.{inl, inr, le-leb}
use Rattle.std.proofs.lemmas.Bool.{lt-leb}
use Rattle.patch_list.specs.FoundLaws.{counter_failed, counter_kept}
use Rattle.patch_list.proofs.counter_entry.Goals as goal
use Rattle.patch_list.proofs.counter_entry.Goals.{then-i-via-then-i, then-i-via-else-i+then-value-gt-LARGEST, then-i-via-else-i+else-value-gt-LARGEST+then-src-start-lt-NUMBER}

pub returns-then-i : goal.returns-then-i
returns-then-i c =
    let a = c.args in
    counter_failed a.src.now a.at c.after-start.result c.get_number-i.result c.get_number-value.result c.get_number-i.ensures c.after-start.ensures.1 c.get_number-value.ensures
    (elim c.then-i.branch [
      | then-i-via-then-i w ↦ inr (inr w.if-i.true)
      | then-i-via-else-i+then-value-gt-LARGEST w ↦ inr (inl (lt-leb _ _ w.if-value-gt-LARGEST.true))
      | then-i-via-else-i+else-value-gt-LARGEST+then-src-start-lt-NUMBER w ↦ inl w.if-src-start-lt-NUMBER.true
    ])

pub returns : goal.returns
returns c =
    let a = c.args in
    counter_kept a.src.now a.at c.after-start.result c.get_number-i.result c.get_number-value.result c.get_number-i.ensures c.after-start.ensures.1 c.get_number-value.ensures c.after.result c.after.ensures.1
    c.if-i.false (le-leb _ _ c.if-value-gt-LARGEST.false) c.if-src-start-lt-NUMBER.false
