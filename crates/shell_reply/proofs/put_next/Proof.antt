-- `shell_reply::put_next` meets its contract. Assumes nothing.
use Rattle.script_lines.specs.LineLaws.{laid_then}
use Rattle.shell_reply.specs.Replies.{next_text}
use borrow.Author.Rules.{rules}
use Rattle.shell_reply.proofs.put_next.Statement.{statement}
use Rattle.shell_reply.proofs.put_next.Tie as tie

put-requires : tie.Need-put-at-requires
put-requires c κs = search rules

put-number-requires : tie.Need-put_number-requires
put-number-requires c κs = search rules

same_length : tie.Need-shape_of-out
same_length c = search rules

returns : tie.Need-returns
unfolding next_text
returns c = laid_then c.put-at.ensures c.put_number.ensures

pub put_next_spec : {M : Type 1} → statement M
put_next_spec = tie.close (tie.spec put-requires put-number-requires same_length returns)
