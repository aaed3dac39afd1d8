-- `put_refused` meets its contract. One text after another. Assumes nothing.
use Rattle.script_lines.specs.Lines.{refused_text}
use Rattle.script_lines.specs.LineLaws.{laid_then}
use Rattle.script_lines.proofs.put_refused.Goals as goal

pub returns : goal.returns
unfolding refused_text
returns c = rw (← c.from.ensures) (laid_then c.put-to.ensures c.put_number.ensures)
