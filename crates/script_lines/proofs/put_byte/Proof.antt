-- `script_lines::put_byte` meets its contract. A byte has room, or nothing is written. Assumes nothing.
use mathlib.Core.List.{[], ◌∷◌}
use native.Mathlib.Omega.{arith}
use borrow.Author.Rules.{rules}
use Rattle.script_lines.specs.LineLaws.{laid_byte, laid_past}
use Rattle.script_lines.proofs.put_byte.Statement.{statement}
use Rattle.script_lines.proofs.put_byte.Tie as tie

slice-write-out : tie.Need-bounds-out-at
slice-write-out c = search rules

add-result : tie.Need-overflow_add-result
add-result c = search rules

same_length : tie.Need-shape_of-out-then-at-out
same_length c = search rules

returns : tie.Need-returns-then-at-out
returns c = laid_byte c.args.out.now c.args.at c.args.b (omega arith)

returns_2 : tie.Need-returns
returns_2 c = laid_past c.args.out.now c.args.at (c.args.b ∷ []) (omega arith)

pub put_byte_spec : {M : Type 1} → statement M
put_byte_spec = tie.close (tie.spec slice-write-out add-result same_length returns returns_2)
