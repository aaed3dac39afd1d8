-- `edit_entries::has_bad_log` meets its contract. Assumes nothing.
use Rattle.std.proofs.Common.{arith}
use borrow.Author.Tests.{lt-ltb, le-ltb}
use Rattle.model.specs.Edit.{bad_log}
use Rattle.counters.specs.Counters.{counters_of}
use Rattle.edit.specs.Edit.{log_of}
use Rattle.edit_entries.proofs.has_bad_log.Goals as goal

pub returns-in_default : goal.returns-in_default
unfolding bad_log log_of
returns-in_default c = rw c.in_default.is

pub returns-then-n-c : goal.returns-then-n-c
unfolding bad_log log_of counters_of
returns-then-n-c c = rw (c.in-Some.is, lt-ltb c.in-Some.n.0 c.args.c.log.0 c.if-n-c.true)

pub returns-then-c-n : goal.returns-then-c-n
unfolding bad_log log_of counters_of
returns-then-c-n c = let n = c.in-Some.n.0 in rw (c.in-Some.is, le-ltb n c.args.c.log.0 (omega arith), le-ltb n c.args.c.next.0 (omega arith))

pub returns : goal.returns
unfolding bad_log log_of counters_of
returns c = let n = c.in-Some.n.0 in rw (c.in-Some.is, le-ltb n c.args.c.log.0 (omega arith), lt-ltb n c.args.c.next.0 (omega arith))
