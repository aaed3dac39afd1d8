-- `put` meets its contract: each turn writes one byte more. Assumes nothing.
use Rattle.std.proofs.Common.{refl, arith}
use Rattle.script_lines.specs.LineLaws.{laid_none, laid_next, laid_all}
use Rattle.script_lines.proofs.put.Goals as goal

pub loop-b-init : goal.loop-b-init
loop-b-init c = laid_none c.args.out.now c.args.at

pub loop-b-preserved : goal.loop-b-preserved
loop-b-preserved c = laid_next c.args.text.now c.loop-b.b-index _ (omega arith) refl c.loop-b.invariant c.put_byte-to.ensures

pub returns : goal.returns
returns c = laid_all c.args.text.now c.loop-b.b-index (omega arith) c.loop-b.invariant
