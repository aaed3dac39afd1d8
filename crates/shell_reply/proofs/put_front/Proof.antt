-- `shell_reply::put_front` meets its contract. Assumes nothing.
use Rattle.script_lines.specs.LineLaws.{laid_none}
use Rattle.shell_reply.specs.ReplyLaws.{front_in, front_out}
use borrow.Author.Rules.{rules}
use Rattle.shell_reply.proofs.put_front.Statement.{statement}
use Rattle.shell_reply.proofs.put_front.Tie as tie

returns : tie.Need-returns-then-bytes-n
returns c = rw (front_out _ _ c.if-bytes-n.true) (laid_none _ 0)

sub-put-hex : tie.Need-slice_bounds-put_hex-count
sub-put-hex c = search rules

part-put-hex-start : tie.Need-slice_bounds-put_hex-start
part-put-hex-start c = search rules

part-put-hex-end : tie.Need-slice_bounds-put_hex-end
part-put-hex-end c = search rules

put-hex-requires : tie.Need-put_hex-requires
put-hex-requires c κs = search rules

same_length : tie.Need-shape_of-out
same_length c = search rules

returns_2 : tie.Need-returns
returns_2 c = rw (front_in _ _ c.if-bytes-n.false) c.put_hex.ensures

pub put_front_spec : {M : Type 1} → statement M
put_front_spec = tie.close (tie.spec returns sub-put-hex part-put-hex-start part-put-hex-end put-hex-requires same_length returns_2)
