-- `lay_levels` meets its contract. Assumes nothing.
use Rattle.std.proofs.Common.{◌≡◌, ◌≤◌, true, drop, refl, arith}
use Rattle.std.proofs.Math.Pow.{are_bytes}
use Rattle.lemmas.specs.AreBytes.{bytes_all}
use Rattle.difference_list.specs.SectionLaws.{count_few}
use Rattle.difference_scan.specs.declared.Places.{Places}
use Rattle.patch_over.specs.LevelLaws.{LevelFound, run_few, level_on, level_full, levels_done}
use Rattle.patch_over.proofs.lay_levels.Goals as goal

pub lay_section-requires : goal.lay_section-requires
lay_section-requires c =
    let l = c.loop-level in
    let w = l.invariant in
    let lefts : are_bytes c.args.left.now ≡ true = bytes_all c.args.left.now (λ i. omega (arith, c.type_inv.left i)) in
    let few : c.run_long-r.result ≤ l.rest = omega (arith, c.run_long-r.ensures, run_few l.level l.rest (drop l.list_at c.args.list.now)) in
    (c.after-start.ensures.1.within, w.in_list, omega (arith, c.get_number-n.ensures, count_few c.args.left.now l.left_at lefts), omega (arith, few, w.few_rest), w.begun.within)

pub returns-in_err-made : goal.returns-in_err-made
returns-in_err-made c =
    let l = c.loop-level in
    let runs : Places = record { left = c.after-start.result; lefts = c.get_number-n.result; right = l.list_at; rights = c.run_long-r.result } in
    let found : LevelFound c.args.left.now c.args.list.now l.left_at l.list_at l.rest l.level runs = record { below = omega arith; lefts = c.get_number-n.ensures; rights = c.run_long-r.ensures; at_left = c.after-start.ensures.1; at_list = refl } in
    rw c.from_residual.ensures (level_full found l.invariant c.in_err-made.ensures)

pub overflow_sub-rest : goal.overflow_sub-rest
overflow_sub-rest c =
    let l = c.loop-level in
    omega (arith, c.run_long-r.ensures, run_few l.level l.rest (drop l.list_at c.args.list.now))

pub loop-level-preserved : goal.loop-level-preserved
loop-level-preserved c =
    let l = c.loop-level in
    let runs : Places = record { left = c.after-start.result; lefts = c.get_number-n.result; right = l.list_at; rights = c.run_long-r.result } in
    let found : LevelFound c.args.left.now c.args.list.now l.left_at l.list_at l.rest l.level runs = record { below = omega arith; lefts = c.get_number-n.ensures; rights = c.run_long-r.ensures; at_left = c.after-start.ensures.1; at_list = refl } in
    let m = c.in_ok-made in
    level_on found l.invariant m.ensures.0 m.made.left m.made.list m.ensures.2

pub returns : goal.returns
returns c = levels_done c.loop-level.invariant (omega arith)
