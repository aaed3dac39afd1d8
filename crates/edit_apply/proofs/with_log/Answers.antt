-- `edit_apply::with_log` meets its contract. Assumes nothing.
use Rattle.std.proofs.Common.{sym, ap, Option}
use Rattle.model.specs.Edit.{logged}
use Rattle.counters.specs.Counters.{counters_of, counters_record}
use Rattle.keys.specs.declared.FileNumber.{FileNumber}
use Rattle.edit.specs.Edit.{log_of}
use Rattle.edit_apply.proofs.with_log.Goals as goal

pub returns-in-None : goal.returns-in-None
unfolding counters_record counters_of logged log_of
returns-in-None c = sym (ap (λ (x : Option FileNumber). counters_record (logged (log_of x) (counters_of c.args.c))) c.in-None.is)

pub returns-in-Some : goal.returns-in-Some
unfolding counters_record counters_of logged log_of
returns-in-Some c = sym (ap (λ (x : Option FileNumber). counters_record (logged (log_of x) (counters_of c.args.c))) c.in-Some.is)
