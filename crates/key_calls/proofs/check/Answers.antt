-- `key_calls::check` meets its contract. Assumes nothing.
use Rattle.std.proofs.Common.{sym, ap, ◌∙◌, not}
use Rattle.model.specs.File.{full}
use Rattle.model.specs.Key.{good_key}
use Rattle.answers.specs.OutcomeLaws.{passed_nil, passed_here, passed_later}
use Rattle.keys.specs.Key.{key_of}
use Rattle.key_calls.proofs.check.Goals as goal

pub returns-then-is_good : goal.returns-then-is_good
returns-then-is_good c = sym (passed_later (not (good_key full.longest (key_of c.args.k))) 2 _ (ap not (sym c.is_good.ensures ∙ c.if-is_good.true)) ∙ passed_nil)

pub returns-else-is_good : goal.returns-else-is_good
returns-else-is_good c = sym (passed_here (not (good_key full.longest (key_of c.args.k))) 2 _ (ap not (sym c.is_good.ensures ∙ c.if-is_good.false)))
