-- `numbers_at` meets its contract: each turn writes the number at one more place.
use Rattle.std.proofs.Common.{length, get_or, sym, ◌∙◌, arith}
use Rattle.std.proofs.Math.ListN.{length-set}
use Rattle.lemmas.specs.Loops.{view_laid, view_all_laid}
use Rattle.edit_stayers.specs.Stayers.{number_at}
use Rattle.edit_stayers.specs.PlaceLaws.{below_at}
use Rattle.edit_stayers.proofs.numbers_at.Goals as goal

pub offset_bounds-numbers-at : goal.offset_bounds-numbers-at
offset_bounds-numbers-at c = omega (arith, below_at (length c.args.numbers.now) c.args.places.now c.loop-i.i c.requires.1 (omega arith))

pub bounds-numbers-at : goal.bounds-numbers-at
bounds-numbers-at c = below_at (length c.args.numbers.now) c.args.places.now c.loop-i.i c.requires.1 (omega arith)

pub loop-i-preserved : goal.loop-i-preserved
loop-i-preserved c =
    let ps = c.args.places.now in
    let ns = c.args.numbers.now in (
      length-set c.loop-i.out c.loop-i.i (number_at ns (get_or ps c.loop-i.i 0)) ∙ c.loop-i.invariant.0,
      view_laid (number_at ns) c.loop-i.i (length ps) ps c.loop-i.out 0 (omega arith) (omega arith) (omega arith) ∙ c.loop-i.invariant.1,
    )

pub returns : goal.returns
returns c =
    let ps = c.args.places.now in
    sym (view_all_laid (number_at c.args.numbers.now) c.loop-i.i (length ps) ps c.loop-i.out (omega arith) (omega arith)) ∙ c.loop-i.invariant.1
