-- `put_gap` meets its contract. Assumes nothing.
use borrow.Author.Tests.{eq-eqb, ne_eqb}
use borrow.Author.Rules.{rules}
use Rattle.script_lines.specs.Lines.{gap_text}
use Rattle.script_lines.specs.LineLaws.{laid_none}
use Rattle.script_lines.proofs.put_gap.Statement.{statement}
use Rattle.script_lines.proofs.put_gap.Tie as tie

returns : tie.Need-returns-then-at-eq0
unfolding gap_text
returns c = simp (eq-eqb _ _ c.if-at-eq0.true) (laid_none _ _)

put-byte-requires : tie.Need-put_byte-requires
put-byte-requires c κs = search rules

same_length : tie.Need-shape_of-out
same_length c = search rules

returns_2 : tie.Need-returns
unfolding gap_text
returns_2 c = simp (ne_eqb _ _ c.if-at-eq0.false) c.put_byte.ensures

pub put_gap_spec : {M : Type 1} → statement M
put_gap_spec = tie.close (tie.spec returns put-byte-requires same_length returns_2)
