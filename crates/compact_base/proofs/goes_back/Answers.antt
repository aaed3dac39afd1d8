-- Whether a key is before the one asked last, if one was. Assumes nothing.
use Rattle.std.proofs.Common.{sym, ◌∙◌}
use Rattle.keys.specs.Key.{user_of}
use Rattle.compact_base.specs.BaseLaws.{before_asked, none_asked}
use Rattle.compact_base.proofs.goes_back.Goals as goal

pub returns-then-m : goal.returns-then-m
returns-then-m c = c.user_key_is_before.ensures ∙ sym (before_asked c.args.m (user_of c.args.u) c.if-m.true)

pub returns-else-m : goal.returns-else-m
returns-else-m c = c.if-m.false ∙ sym (none_asked c.args.m (user_of c.args.u) c.if-m.false)
