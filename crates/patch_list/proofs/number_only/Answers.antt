-- `number_only` meets its contract. Assumes nothing.
use Rattle.patch_list.specs.FoundLaws.{number_no_level, number_cut, number_kept}
use Rattle.patch_list.proofs.number_only.Goals as goal
use Rattle.patch_list.proofs.number_only.Goals.{then-level-via-then-level, then-level-via-else-level+then-src-at-lt-NUMBER}

pub returns-then-level : goal.returns-then-level
returns-then-level c =
    let a = c.args in
    elim c.then-level.branch [
      | then-level-via-then-level w ↦ number_no_level a.src.now a.at a.level w.if-level.true
      | then-level-via-else-level+then-src-at-lt-NUMBER w ↦ number_cut a.src.now a.at a.level w.if-src-at-lt-NUMBER.true
    ]

pub returns : goal.returns
returns c =
    let a = c.args in
    number_kept a.src.now a.at a.level c.after.result c.get_number.result c.get_number.ensures c.after.ensures.1 c.if-level.false c.if-src-at-lt-NUMBER.false
