-- A memory is well-formed in its three cases. Assumes nothing.
use Rattle.std.proofs.Common.{sym, ◌∙◌}
use Rattle.compact_base.specs.BaseLaws.{memory_unsound, memory_some, memory_none}
use Rattle.compact_base.proofs.is_well_formed_memory.Goals as goal

pub returns-then-not-is_sound_user : goal.returns-then-not-is_sound_user
returns-then-not-is_sound_user c = sym (memory_unsound c.args.m (sym c.is_sound_user.ensures ∙ c.if-not-is_sound_user.true))

pub returns-then-m : goal.returns-then-m
returns-then-m c = c.is_good_user.ensures ∙ sym (memory_some c.args.m (sym c.is_sound_user.ensures ∙ c.if-not-is_sound_user.false) c.if-m.true)

pub returns-else-m : goal.returns-else-m
returns-else-m c = sym (memory_none c.args.m (sym c.is_sound_user.ensures ∙ c.if-not-is_sound_user.false) c.if-m.false)
