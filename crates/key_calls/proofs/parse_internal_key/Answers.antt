-- `key_calls::parse_internal_key` meets its contract. Assumes nothing.
use Rattle.std.proofs.Common.{not, sym, ◌∙◌, [], ◌∷◌}
use Rattle.model.specs.Answer.{◌⇒◌}
use Rattle.model.specs.File.{full}
use Rattle.model.specs.Key.{good_key, parts}
use Rattle.model.specs.Calls.{parse_key}
use Rattle.answers.specs.OutcomeLaws.{result_refused, result_given, handed_on}
use Rattle.keys.specs.Key.{key_of}
use Rattle.key_calls.specs.Comparing.{parsed_record, parsed}
use Rattle.key_calls.proofs.parse_internal_key.Goals as goal

pub returns-in_err-check : goal.returns-in_err-check
unfolding parsed parse_key
returns-in_err-check c =
    let k = key_of c.args.k in
    let told = sym c.check.ensures ∙ c.in_err-check.was in
    handed_on _ _ c.from_residual.ensures.1 ∙ sym (result_refused parsed_record (parts k) ((not (good_key full.longest k) ⇒ 2) ∷ []) c.in_err-check.field-0.0 told)

pub returns : goal.returns
unfolding parsed parsed_record parse_key parts
returns c =
    let k = key_of c.args.k in
    let x = result_given parsed_record (parts k) ((not (good_key full.longest k) ⇒ 2) ∷ []) tt (sym c.check.ensures ∙ c.in_ok-check.was) in
    rw (x, c.kind.ensures, c.sequence.ensures, c.user_key.ensures)
