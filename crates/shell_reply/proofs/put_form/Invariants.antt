-- The loop of `put_form`: what is laid, with what the rest of the form gives after it, is the whole.
use Rattle.std.proofs.Common.{drop}
use Rattle.shell_reply.specs.Replies.{form_text}
use Rattle.shell_reply.specs.ReplyLaws.{Ends}
use Rattle.shell_reply.proofs.put_form.Given as goal

abbrev pub invariant-loop-mark : goal.invariant-loop-mark
invariant-loop-mark l = Ends l.out l.at (form_text l.numbers (drop l.mark-index l.form) l.k) l.fn.out l.start (form_text l.numbers l.form 0)
