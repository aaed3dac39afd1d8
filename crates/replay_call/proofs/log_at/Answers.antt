-- `log_at` meets its contract. Assumes nothing.
use Rattle.std.proofs.Common.{ℕ, ap, sym, ◌∙◌, Some, arith}
use Rattle.replay_call.specs.Call.{log_record}
use Rattle.replay_call.specs.ReadLaws.{log_none, log_some, log_within}
use Rattle.replay_call.proofs.log_at.Goals as goal

pub returns-then-n-eq0 : goal.returns-then-n-eq0
unfolding log_record
returns-then-n-eq0 c =
    let n = c.get_number-n.ensures in
    ap log_record (sym (log_none c.requires (omega arith)))

pub get_number-number-requires : goal.get_number-number-requires
get_number-number-requires c = let n = c.get_number-n.ensures in (log_within c.requires, omega arith)

pub returns : goal.returns
unfolding log_record
returns c =
    let n = c.get_number-n.ensures in
    ap (λ (k : ℕ). Some (record { 0 = k })) c.get_number-number.ensures ∙ ap log_record (sym (log_some c.requires (λ e. omega arith)))
