-- `pick_plan::range_planned` meets its contract. Assumes nothing.
use Rattle.std.proofs.Common.{ℕ, Bool, List, ◌≡◌, sym, ap, ◌∙◌, arith}
use Rattle.lemmas.specs.ListLaws.{both}
use Rattle.model.specs.Answer.{Answer}
use Rattle.model.specs.File.{full}
use Rattle.model.specs.Key.{good_key}
use Rattle.model.specs.Pick as model
use Rattle.model.specs.Range.{between}
use Rattle.keys.specs.Key.{key_of}
use Rattle.answers.specs.declared.Refusal.TheVariants.{Level, Key, Counter, LastLevel, Form}
use Rattle.store.specs.declared.Store.{Store}
use Rattle.store.specs.Store.{on_store}
use Rattle.pick_range.specs.declared.Span.{Span}
use Rattle.pick_range.specs.Ranges.{span_record}
use Rattle.pick_range.specs.RangesLaws.{span_between}
use Rattle.pick_found.specs.CallsLaws.{wrong_left, wrong_right}
use Rattle.pick_answer.specs.declared.Cause.TheVariants.{Manual}
use Rattle.pick_search.specs.declared.Choice.{Choice}
use Rattle.pick_search.specs.Choice.{begun}
use Rattle.pick_search.specs.Search.{Ready}
use Rattle.pick_search.specs.InvariantLaws.{invariant_begun}
use Rattle.pick_plan.specs.PlansLaws.{plans_none, plans_done}
use Rattle.pick_plan.specs.ChoiceLaws.{maximum_most}
use Rattle.pick_plan.specs.PickCallsLaws.{range_ill, range_beyond, range_key, range_bad, range_last, range_picks}
use Rattle.pick_plan.proofs.range_planned.Goals as goal

-- the model's answer
abbrev answer : Store → ℕ → ℕ → List ℕ → List ℕ → Answer model.Pick
answer s m n a b = on_store s (λ t. model.manual_pick full t m n a b)

-- whether a key is good
abbrev good : List ℕ → Bool
good k = good_key full.longest k

pub returns-then-not-well : goal.returns-then-not-well
returns-then-not-well c s h =
    let p = c.args in
    let a = key_of p.start in
    let b = key_of p.stop in
    plans_none s (answer s p.maximum p.level a b) Form (range_ill s p.maximum p.level a b (h ∙ c.if-not-well.true))

pub returns-then-level-ge-COUNT : goal.returns-then-level-ge-COUNT
returns-then-level-ge-COUNT c s h =
    let p = c.args in
    let a = key_of p.start in
    let b = key_of p.stop in
    plans_none s (answer s p.maximum p.level a b) Level (range_beyond s p.maximum p.level a b (h ∙ c.if-not-well.false) c.if-level-ge-COUNT.true)

pub returns-then-not-is_good : goal.returns-then-not-is_good
returns-then-not-is_good c s h =
    let p = c.args in
    let a = key_of p.start in
    let b = key_of p.stop in
    let wrong = wrong_left (good a) (good b) (sym c.is_good.ensures ∙ c.if-not-is_good.true) in
    plans_none s (answer s p.maximum p.level a b) Key (range_key s p.maximum p.level a b (h ∙ c.if-not-well.false) c.if-level-ge-COUNT.false wrong)

pub returns-then-not-is_good-2 : goal.returns-then-not-is_good-2
returns-then-not-is_good-2 c s h =
    let p = c.args in
    let a = key_of p.start in
    let b = key_of p.stop in
    let wrong = wrong_right (good a) (good b) (sym c.is_good.ensures ∙ c.if-not-is_good.false) (sym c.is_good-2.ensures ∙ c.if-not-is_good-2.true) in
    plans_none s (answer s p.maximum p.level a b) Key (range_key s p.maximum p.level a b (h ∙ c.if-not-well.false) c.if-level-ge-COUNT.false wrong)

pub returns-then-is_bad_maximum : goal.returns-then-is_bad_maximum
returns-then-is_bad_maximum c s h =
    let p = c.args in
    let a = key_of p.start in
    let b = key_of p.stop in
    let keys = both (good a) (good b) (sym c.is_good.ensures ∙ c.if-not-is_good.false) (sym c.is_good-2.ensures ∙ c.if-not-is_good-2.false) in
    plans_none s (answer s p.maximum p.level a b) Counter
    (range_bad s p.maximum p.level a b (h ∙ c.if-not-well.false) c.if-level-ge-COUNT.false keys (sym c.is_bad_maximum.ensures ∙ c.if-is_bad_maximum.true))

pub returns-then-level-ge-COUNT-2 : goal.returns-then-level-ge-COUNT-2
returns-then-level-ge-COUNT-2 c s h =
    let p = c.args in
    let a = key_of p.start in
    let b = key_of p.stop in
    let keys = both (good a) (good b) (sym c.is_good.ensures ∙ c.if-not-is_good.false) (sym c.is_good-2.ensures ∙ c.if-not-is_good-2.false) in
    plans_none s (answer s p.maximum p.level a b) LastLevel
    (range_last s p.maximum p.level a b (h ∙ c.if-not-well.false) c.if-level-ge-COUNT.false keys (sym c.is_bad_maximum.ensures ∙ c.if-is_bad_maximum.false) c.if-level-ge-COUNT-2.true)

pub returns : goal.returns
unfolding begun
returns c s h =
    let p = c.args in
    let a = key_of p.start in
    let b = key_of p.stop in
    let keys = both (good a) (good b) (sym c.is_good.ensures ∙ c.if-not-is_good.false) (sym c.is_good-2.ensures ∙ c.if-not-is_good-2.false) in
    let maximum = sym c.is_bad_maximum.ensures ∙ c.if-is_bad_maximum.false in
    let asked = c.asking-asked.ensures ∙ ap (λ (x : Span). begun p.level p.maximum x c.limit_of.result) c.between-span.ensures
    ∙ ap (begun p.level p.maximum (span_record (between a b))) c.limit_of.ensures in
    let level : c.asking-asked.result.level ≡ p.level = ap (λ (x : Choice). x.level) c.asking-asked.ensures in
    let ready : Ready s c.asking-asked.result 0 = rw c.asking-asked.ensures
    record {
      well = h ∙ c.if-not-well.false;
      level = c.if-level-ge-COUNT.false;
      maximum = maximum_most p.maximum maximum;
      order = omega arith;
      stands = invariant_begun s p.level p.maximum c.limit_of.result c.between-span.result;
    } in
    plans_done s (answer s p.maximum p.level a b) Manual c.asking-asked.result 0
    (range_picks s p.maximum p.level a b (h ∙ c.if-not-well.false) c.if-level-ge-COUNT.false keys maximum (omega (arith, c.if-level-ge-COUNT-2.false)) c.asking-asked.result asked (span_between p.start p.stop))
    ready (omega (arith, c.if-level-ge-COUNT-2.false))
