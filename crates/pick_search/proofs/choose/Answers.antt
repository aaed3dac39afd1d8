-- `choose` meets its contract: the laws of all searches. Assumes nothing.
use Rattle.pick_search.specs.ChooseLaws.{choose_starts, choose_level, choose_weighed, choose_goes, choose_ends}
use Rattle.pick_search.proofs.choose.Goals as goal

pub loop-k-init : goal.loop-k-init
loop-k-init c = choose_starts c.args.s.now c.args.c c.args.start c.requires.1

pub searched-d-requires : goal.searched-d-requires
searched-d-requires c =
    let h = c.args.s.now in (
      c.requires.0,
      c.requires.1.well,
      choose_level h c.args.c c.args.start c.requires.1 c.loop-k.k c.loop-k.d c.loop-k.invariant,
      c.loop-k-test.true,
      choose_weighed h c.args.c c.args.start c.requires.1 c.loop-k.k c.loop-k.d c.loop-k.invariant,
    )

pub loop-k-preserved : goal.loop-k-preserved
loop-k-preserved c =
    choose_goes c.args.s.now c.args.c c.args.start c.requires.1 c.loop-k.k c.loop-k.d c.loop-k.invariant c.requires.0 c.loop-k-test.true c.searched-d.result c.searched-d.ensures

pub returns : goal.returns
returns c = choose_ends c.args.s.now c.args.c c.args.start c.requires.1 c.loop-k.k c.loop-k.d c.loop-k.invariant c.loop-k-test.false
