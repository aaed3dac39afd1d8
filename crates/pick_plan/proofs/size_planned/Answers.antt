-- `pick_plan::size_planned` meets its contract. Assumes nothing.
use Rattle.std.proofs.Common.{ℕ, ◌<◌, ◌≡◌, sym, ap, subst, ◌∙◌, Bool, true, false, arith, None, Some, Ok}
use Rattle.model.specs.Answer.{Answer}
use Rattle.model.specs.File.{full, last_level, max_word}
use Rattle.model.proofs.Formed.{formed_says}
use Rattle.model.specs.Pick as model
use Rattle.model.specs.Score.{score, level_to_compact, due, reported}
use Rattle.answers.specs.declared.Refusal.TheVariants.{Counter, Nothing}
use Rattle.store.specs.declared.Store.{Store}
use Rattle.store.specs.Store.{state_of, well_store, on_store, StoreShape}
use Rattle.store.specs.StoreLaws as store
use Rattle.pick_score.specs.declared.Scored.{Scored}
use Rattle.pick_score.specs.Scores.{scored_as, scored_of}
use Rattle.pick_score.specs.ScoresLaws.{level_below}
use Rattle.pick_range.specs.declared.Span.{Span}
use Rattle.pick_found.specs.declared.FoundRun.{FoundRun}
use Rattle.pick_answer.specs.declared.Cause.TheVariants.{Size}
use Rattle.pick_search.specs.declared.Choice.{Choice}
use Rattle.pick_search.specs.Choice.{begun, filled_with}
use Rattle.pick_plan.specs.declared.Started.{Started}
use Rattle.pick_plan.specs.Starts.{search_of, Starts}
use Rattle.pick_plan.specs.Plans.{Plans}
use Rattle.pick_plan.specs.PlansLaws.{plans_none, plans_done}
use Rattle.pick_plan.specs.ChoiceLaws.{search_few, maximum_most}
use Rattle.pick_plan.specs.PickCallsLaws.{one_asked, size_stands, size_firsts, nothing_due, found_due, found_at, size_bad, size_idle, size_picks}
use Rattle.pick_plan.proofs.size_planned.Goals as goal

-- the model's answer
abbrev answer : Store → ℕ → Answer model.Pick
answer s m = on_store s (λ t. model.size_pick full t m)

-- ---- a store whose level to compact is this one
module _ (s : Store) (q : StoreShape s) (h : well_store s ≡ true) (c : Scored) (e : c ≡ scored_of (state_of s)) where
  -- the level, the score and whether work is due are those of the model
  level_is : c.level ≡ level_to_compact full (state_of s)
  unfolding scored_of scored_as
  level_is = ap (λ (x : Scored). x.level) e

  due_is : c.due ≡ due (score (state_of s) c.level)
  unfolding scored_of scored_as
  due_is = ap (λ (x : Scored). x.due) e ∙ ap (λ (n : ℕ). due (score (state_of s) n)) (sym level_is)

  score_is : c.score ≡ reported (score (state_of s) c.level)
  unfolding scored_of scored_as
  score_is = ap (λ (x : Scored). x.score) e ∙ ap (λ (n : ℕ). reported (score (state_of s) n)) (sym level_is)

  -- the level is below 6
  below : c.level < last_level
  below = rw level_is (level_below (state_of s) ((formed_says full (state_of s)).0 ((store.well_says s).0 h).formed))

  -- ---- whose start is this one
  module _ (z : Started) (f : Starts s c.level c.due z) where
    -- by whether work is due in the model
    starts : Starts s c.level (due (score (state_of s) c.level)) z
    starts = subst (λ (d : Bool). Starts s c.level d z) due_is f

    -- it has no place: no work is due
    idle : z.start ≡ None → due (score (state_of s) c.level) ≡ false
    idle = nothing_due s c.level h q.files z starts

    -- it is at i: the pick from its files on is the model's
    size_plans : (i : ℕ) → z.start ≡ Some i → (m : ℕ) → model.bad_maximum m ≡ false → (asked : Choice) → asked ≡ one_asked c.level m z.first → (k : ℕ) → k ≡ search_of c.level
        → Plans s (answer s m) (Ok (record { cause = Size c.score; asked = asked; search = k }))
    unfolding one_asked filled_with begun
    size_plans i found m good asked Asked-is k search_is =
        let n = c.level in
        let few = below in
        let works = found_due s n h q.files z starts i found in
        let now = subst (λ (d : Bool). Starts s n d z) works starts in
        let firsts_are = size_firsts s n m z now asked k Asked-is search_is h (omega arith) in
        let level : asked.level ≡ n = ap (λ (y : Choice). y.level) Asked-is in
        let maximum : asked.maximum ≡ m = ap (λ (y : Choice). y.maximum) Asked-is in
        plans_done s (answer s m) (Size c.score) asked k (size_picks s m h good n level_is works (omega arith) c.score z.first asked k score_is Asked-is firsts_are)
        record {
          well = h;
          level = omega arith;
          maximum = omega (arith, maximum_most m good);
          order = rw search_is (search_few n);
          stands = size_stands s n m z now asked k Asked-is search_is;
        }
        (omega arith)

pub returns-then-is_bad_maximum : goal.returns-then-is_bad_maximum
returns-then-is_bad_maximum c s q h e f =
    let m = c.args.maximum in
    plans_none s (answer s m) Counter (size_bad s m h (sym c.is_bad_maximum.ensures ∙ c.if-is_bad_maximum.true))

pub returns-in_default : goal.returns-in_default
returns-in_default c s q h e f =
    let m = c.args.maximum in
    let x = c.args.scored in
    let good = sym c.is_bad_maximum.ensures ∙ c.if-is_bad_maximum.false in
    plans_none s (answer s m) Nothing (size_idle s m h good x.level (level_is s q h x e) (idle s q h x e c.args.started f c.in_default.is))

pub returns : goal.returns
unfolding filled_with one_asked
returns c s q h e f =
    let m = c.args.maximum in
    let x = c.args.scored in
    let z = c.args.started in
    let good = sym c.is_bad_maximum.ensures ∙ c.if-is_bad_maximum.false in
    let i = c.in-Some.i in
    let first : FoundRun = record { from = i; count = z.first.count; ends = z.first.ends; bytes = z.first.bytes } in
    let same = found_at s x.level h q.files z (starts s q h x e z f) i c.in-Some.is in
    let asked = ap (λ (y : Choice). filled_with y 0 first) (c.asking-asked.ensures ∙ ap (λ (y : Span). begun x.level m y max_word) c.range_of-span.ensures) ∙ ap (one_asked x.level m) same in
    size_plans s q h x e z f i c.in-Some.is m good (filled_with c.asking-asked.result 0 first) asked c.search_of.result c.search_of.ensures
