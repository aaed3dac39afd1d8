-- `search` meets its contract: each turn keeps the place where the search ends (`SearchLaws.antt`). Assumes nothing.
use Rattle.keys.specs.Key.{key_of}
use Rattle.ask_find.specs.SearchLaws.{starts, ended, keeps, nearer}
use Rattle.ask_find.proofs.search.Goals as goal

pub loop-s-init : goal.loop-s-init
loop-s-init c = starts c.args.files.now (key_of c.args.k)

pub loop-s-smaller : goal.loop-s-smaller
loop-s-smaller c =
    let e = c.probe-s.ensures in
    let n = nearer c.args.files.now (key_of c.args.k) c.loop-s.s c.loop-s-test.true in
    rw e n

pub loop-s-preserved : goal.loop-s-preserved
loop-s-preserved c =
    let e = c.probe-s.ensures in
    rw e (keeps c.args.files.now (key_of c.args.k) c.loop-s.s c.loop-s.invariant c.loop-s-test.true)

pub returns : goal.returns
returns c = ended c.args.files.now (key_of c.args.k) c.loop-s.s c.loop-s.invariant c.loop-s-test.false
