-- `shell_reply::put_mark` meets its contract. Assumes nothing.
use borrow.Author.Tests.{eq-eqb, ne_eqb}
use Rattle.shell_reply.specs.Replies.{mark_text}
use borrow.Author.Rules.{rules}
use Rattle.shell_reply.proofs.put_mark.Statement.{statement}
use Rattle.shell_reply.proofs.put_mark.Tie as tie

put-number-requires : tie.Need-put_number-requires
put-number-requires c κs = search rules

same_length : tie.Need-shape_of-out-then-mark-eq37
same_length c = search rules

returns : tie.Need-returns-then-mark-eq37
unfolding mark_text
returns c = rw (eq-eqb _ _ c.if-mark-eq37.true) c.put_number.ensures

put-bits-requires : tie.Need-put_bits-requires
put-bits-requires c κs = search rules

same_length_2 : tie.Need-shape_of-out-then-mark-eq35
same_length_2 c = search rules

returns_2 : tie.Need-returns-then-mark-eq35
unfolding mark_text
returns_2 c = rw (ne_eqb _ _ c.if-mark-eq37.false, eq-eqb _ _ c.if-mark-eq35.true) c.put_bits.ensures

put-byte-requires : tie.Need-put_byte-requires
put-byte-requires c κs = search rules

same_length_3 : tie.Need-shape_of-out
same_length_3 c = search rules

returns_3 : tie.Need-returns
unfolding mark_text
returns_3 c = rw (ne_eqb _ _ c.if-mark-eq37.false, ne_eqb _ _ c.if-mark-eq35.false) c.put_byte.ensures

pub put_mark_spec : {M : Type 1} → statement M
put_mark_spec = tie.close (tie.spec put-number-requires same_length returns put-bits-requires same_length_2 returns_2 put-byte-requires same_length_3 returns_3)
