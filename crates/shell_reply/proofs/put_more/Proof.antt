-- `shell_reply::put_more` meets its contract. Assumes nothing.
use Rattle.script_lines.specs.LineLaws.{laid_then}
use Rattle.shell_reply.specs.Replies.{more_text}
use borrow.Author.Rules.{rules}
use Rattle.shell_reply.proofs.put_more.Statement.{statement}
use Rattle.shell_reply.proofs.put_more.Tie as tie

put-byte-requires : tie.Need-put_byte-to-requires
put-byte-requires c κs = search rules

put-number-requires : tie.Need-put_number-requires
put-number-requires c κs = search rules

same_length : tie.Need-shape_of-out
same_length c = search rules

returns : tie.Need-returns
unfolding more_text
returns c = laid_then c.put_byte-to.ensures c.put_number.ensures

pub put_more_spec : {M : Type 1} → statement M
put_more_spec = tie.close (tie.spec put-byte-requires put-number-requires same_length returns)
