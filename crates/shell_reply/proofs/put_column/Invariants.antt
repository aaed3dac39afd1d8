-- The loop of `put_column`: what is laid, with a comma and a number for each of the others from this one on, is the whole.
use Rattle.std.proofs.Common.{drop}
use Rattle.shell_reply.specs.Replies.{numbers_text, more_texts}
use Rattle.shell_reply.specs.ReplyLaws.{Ends}
use Rattle.shell_reply.proofs.put_column.Given as goal

abbrev pub invariant-loop-n : goal.invariant-loop-n
invariant-loop-n l = Ends l.out l.at (more_texts (drop l.n-index l.others)) l.fn.out l.start (numbers_text l.column)
