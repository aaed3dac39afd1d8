-- `lay_section` meets its contract. Assumes nothing.
use Rattle.std.proofs.Common.{drop, arith}
use Rattle.patch_scan.specs.Listed.{over_run}
use Rattle.patch_over.specs.PieceLaws.{no_count, no_pieces, section_fits}
use Rattle.patch_over.proofs.lay_section.Goals as goal

pub returns-then-out-at-lt-COUNT : goal.returns-then-out-at-lt-COUNT
returns-then-out-at-lt-COUNT c =
    let a = c.args in
    no_count a.out.now a.at (over_run a.pointer a.from.lefts (drop a.from.left a.left.now) a.from.rights (drop a.from.right a.list.now)) (omega (arith, c.requires.4))

pub returns-in_err-made : goal.returns-in_err-made
returns-in_err-made c =
    let a = c.args in
    let pieces = over_run a.pointer a.from.lefts (drop a.from.left a.left.now) a.from.rights (drop a.from.right a.list.now) in
    rw c.from_residual.ensures (no_pieces a.out.now a.at pieces c.lay_over.new.out c.in_err-made.ensures)

pub returns : goal.returns
returns c =
    let a = c.args in
    let pieces = over_run a.pointer a.from.lefts (drop a.from.left a.left.now) a.from.rights (drop a.from.right a.list.now) in
    let m = c.in_ok-made in
    (section_fits a.out.now a.at pieces c.lay_over.new.out c.put_number.new.out m.made.next m.made.count m.ensures.0 m.ensures.1 c.put_number.ensures, m.ensures.1, m.ensures.2)
