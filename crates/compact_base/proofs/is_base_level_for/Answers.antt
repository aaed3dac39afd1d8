-- `is_base_level_for` meets its contract: 14, 1, 2, 12, then the answer and the key as the new memory. Assumes nothing.
use Rattle.std.proofs.Common.{true, sym, ap, ◌∙◌, Ok}
use Rattle.answers.specs.Outcome.{result_of}
use Rattle.keys.specs.Key.{user_of}
use Rattle.compact_base.specs.Base.{asked_record, base_record, based_by}
use Rattle.compact_base.specs.BaseLaws.{base_ill, base_bad, base_beyond, base_key, base_back, base_gives}
use Rattle.compact_base.proofs.is_base_level_for.Goals as goal

pub returns-then-not-is_well_formed : goal.returns-then-not-is_well_formed
unfolding based_by result_of
returns-then-not-is_well_formed c =
    let a = c.args in
    ap based_by (sym (base_ill a.s a.memory a.level (user_of a.u) (sym c.is_well_formed.ensures ∙ c.if-not-is_well_formed.true)))

pub returns-then-not-is_well_formed_memory : goal.returns-then-not-is_well_formed_memory
unfolding based_by result_of
returns-then-not-is_well_formed_memory c =
    let a = c.args in
    let well = sym c.is_well_formed.ensures ∙ c.if-not-is_well_formed.false in
    ap based_by (sym (base_bad a.s a.memory a.level (user_of a.u) well (sym c.is_well_formed_memory.ensures ∙ c.if-not-is_well_formed_memory.true)))

pub returns-then-level-ge-COUNT : goal.returns-then-level-ge-COUNT
unfolding based_by result_of
returns-then-level-ge-COUNT c =
    let a = c.args in
    let well = sym c.is_well_formed.ensures ∙ c.if-not-is_well_formed.false in
    let remembered = sym c.is_well_formed_memory.ensures ∙ c.if-not-is_well_formed_memory.false in
    ap based_by (sym (base_beyond a.s a.memory a.level (user_of a.u) well remembered c.if-level-ge-COUNT.true))

pub returns-then-not-is_good_user : goal.returns-then-not-is_good_user
unfolding based_by result_of
returns-then-not-is_good_user c =
    let a = c.args in
    let well = sym c.is_well_formed.ensures ∙ c.if-not-is_well_formed.false in
    let remembered = sym c.is_well_formed_memory.ensures ∙ c.if-not-is_well_formed_memory.false in
    ap based_by (sym (base_key a.s a.memory a.level (user_of a.u) well remembered c.if-level-ge-COUNT.false (sym c.is_good_user.ensures ∙ c.if-not-is_good_user.true)))

pub returns-then-goes_back : goal.returns-then-goes_back
unfolding based_by result_of
returns-then-goes_back c =
    let a = c.args in
    let well = sym c.is_well_formed.ensures ∙ c.if-not-is_well_formed.false in
    let remembered = sym c.is_well_formed_memory.ensures ∙ c.if-not-is_well_formed_memory.false in
    let keyed = sym c.is_good_user.ensures ∙ c.if-not-is_good_user.false in
    ap based_by (sym (base_back a.s a.memory a.level (user_of a.u) well remembered c.if-level-ge-COUNT.false keyed (sym c.goes_back.ensures ∙ c.if-goes_back.true)))

pub is_base_level-requires : goal.is_base_level-requires
is_base_level-requires c = (sym c.is_well_formed.ensures ∙ c.if-not-is_well_formed.false, c.if-level-ge-COUNT.false)

pub returns : goal.returns
unfolding based_by base_record asked_record result_of
returns c =
    let a = c.args in
    let well = sym c.is_well_formed.ensures ∙ c.if-not-is_well_formed.false in
    let remembered = sym c.is_well_formed_memory.ensures ∙ c.if-not-is_well_formed_memory.false in
    let keyed = sym c.is_good_user.ensures ∙ c.if-not-is_good_user.false in
    (λ j. Ok (record { base = c.is_base_level.ensures j; memory = record { any = true; user = c.kept_user.ensures j } }))
    ∙ ap based_by (sym (base_gives a.s a.memory a.level (user_of a.u) well remembered c.if-level-ge-COUNT.false keyed (sym c.goes_back.ensures ∙ c.if-goes_back.false)))
