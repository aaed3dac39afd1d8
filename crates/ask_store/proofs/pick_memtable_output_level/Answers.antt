-- `pick_memtable_output_level` meets its contract: 14, 2, then the level. Assumes nothing.
use Rattle.std.proofs.Common.{sym, ap, ◌∙◌}
use Rattle.model.specs.Answer.{gives}
use Rattle.answers.specs.Outcome.{answer_of}
use Rattle.keys.specs.Key.{user_of}
use Rattle.pick_range.specs.Ranges.{span_of}
use Rattle.ask_store.specs.QuestionLaws.{table_ill, table_start, table_stop, table_gives}
use Rattle.ask_store.proofs.pick_memtable_output_level.Goals as goal

pub returns-then-not-is_well_formed : goal.returns-then-not-is_well_formed
unfolding answer_of
returns-then-not-is_well_formed c =
    let a = c.args in
    sym (table_ill a.s (user_of a.start) (user_of a.stop) (sym c.is_well_formed.ensures ∙ c.if-not-is_well_formed.true))

pub returns-then-not-is_good_user : goal.returns-then-not-is_good_user
unfolding answer_of
returns-then-not-is_good_user c =
    let a = c.args in
    let well = sym c.is_well_formed.ensures ∙ c.if-not-is_well_formed.false in
    sym (table_start a.s (user_of a.start) (user_of a.stop) well (sym c.is_good_user.ensures ∙ c.if-not-is_good_user.true))

pub returns-then-not-is_good_user-2 : goal.returns-then-not-is_good_user-2
unfolding answer_of
returns-then-not-is_good_user-2 c =
    let a = c.args in
    let well = sym c.is_well_formed.ensures ∙ c.if-not-is_well_formed.false in
    let begun = sym c.is_good_user.ensures ∙ c.if-not-is_good_user.false in
    sym (table_stop a.s (user_of a.start) (user_of a.stop) well begun (sym c.is_good_user-2.ensures ∙ c.if-not-is_good_user-2.true))

pub memtable_output_level-requires : goal.memtable_output_level-requires
memtable_output_level-requires c = sym c.is_well_formed.ensures ∙ c.if-not-is_well_formed.false

pub returns : goal.returns
unfolding answer_of span_of
returns c =
    let a = c.args in
    let well = sym c.is_well_formed.ensures ∙ c.if-not-is_well_formed.false in
    let begun = sym c.is_good_user.ensures ∙ c.if-not-is_good_user.false in
    ap gives c.memtable_output_level.ensures
    ∙ sym (table_gives a.s (user_of a.start) (user_of a.stop) well begun (sym c.is_good_user-2.ensures ∙ c.if-not-is_good_user-2.false))
