-- `lay_levels` meets its contract: each turn writes the entries of one level more. Assumes nothing.
use Rattle.std.proofs.Common.{refl, arith, drop, false}
use Rattle.difference_list.specs.RunLaws.{entries_few}
use Rattle.difference_list.specs.LevelLaws.{level_fits, level_on, levels_done}
use Rattle.difference_list.proofs.lay_levels.Goals as goal

pub lay_run-made-requires : goal.lay_run-made-requires
lay_run-made-requires c =
    let a = c.args in
    let l = c.loop-level in
    let r = c.runs_at-from.ensures in (
      r.at_left.within,
      r.at_right.within,
      r.few_lefts,
      r.few_rights,
      level_fits a.left.now a.right.now l.level l.here.left l.here.right (omega arith) c.runs_at-from.result r a.out.now a.at a.a a.b l.out l.here l.invariant refl refl c.requires.2,
    )

pub overflow_add-here : goal.overflow_add-here
overflow_add-here c =
    let a = c.args in
    let l = c.loop-level in
    let p = c.runs_at-from.result in
    let r = c.runs_at-from.ensures in
    omega (arith, l.invariant.small, c.lay_run-made.ensures.3, entries_few false l.level p.lefts (drop p.left a.left.now) p.rights (drop p.right a.right.now), r.few_lefts, r.few_rights)

pub loop-level-preserved : goal.loop-level-preserved
loop-level-preserved c =
    let a = c.args in
    let l = c.loop-level in
    let m = c.lay_run-made in
    let e = m.ensures in
    level_on a.left.now a.right.now l.level l.here.left l.here.right (omega arith) c.runs_at-from.result c.runs_at-from.ensures m.result.left m.result.right e.0 e.1
    a.out.now a.at a.a a.b l.out l.here l.invariant refl refl c.requires.2 m.result _ refl refl e.2 e.3 _ e.4 refl

pub returns : goal.returns
returns c =
    let a = c.args in
    let l = c.loop-level in
    levels_done a.left.now a.right.now a.out.now a.at a.a a.b l.out l.here l.level l.invariant (omega arith)
