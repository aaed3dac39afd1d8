-- The plan of a pick, its result, and the store that it leaves. Assumes nothing.
use Rattle.std.specs.Prelude.{ℕ, ◌<◌, ◌≡◌, Bool, true, cond, List, [], ◌∷◌, eqb, set, Result, Ok, Err, IfOk}
use Rattle.lemmas.specs.Lists.{is_empty}
use Rattle.model.specs.Answer.{Answer, gives, refused, ◌⇒◌, first_of}
use Rattle.model.specs.File.{full, last_level}
use Rattle.model.specs.Pick as model
use Rattle.answers.specs.Outcome.{number_of, result_of}
use Rattle.answers.specs.declared.Refusal.{Refusal}
use Rattle.keys.specs.Key.{key_of, key_record}
use Rattle.records.specs.declared.FileRecord.{FileRecord}
use Rattle.store.specs.declared.Pointer.{Pointer}
use Rattle.store.specs.declared.Store.{Store}
use Rattle.store.specs.Store.{state_of, store_of, well_store, on_store, StoreShape}
use Rattle.pick_score.specs.declared.Scored.{Scored}
use Rattle.pick_score.specs.Scores.{scored_of}
use Rattle.pick_answer.specs.declared.Cause.{Cause}
use Rattle.pick_answer.specs.declared.Picked.{Picked}
use Rattle.pick_answer.specs.Picked.{cause_of, picked_record}
use Rattle.pick_search.specs.declared.Choice.{Choice}
use Rattle.pick_search.specs.Choice.{firsts}
use Rattle.pick_search.specs.Search.{Ready}
use Rattle.pick_plan.specs.declared.PickPlan.{PickPlan}
use Rattle.pick_plan.specs.declared.Started.{Started}
use Rattle.pick_plan.specs.Starts.{Starts}

-- ---- the plan
-- the pick from a search on: 10 if there are no first inputs
unfoldable pub picks_from : Store → Cause → Choice → ℕ → Answer model.Pick
picks_from s x c k = first_of ((is_empty (firsts s k c) ⇒ 10) ∷ []) (model.complete full (state_of s) c.maximum (cause_of x) c.level (firsts s k c))

-- the answer that follows from a plan: the pick from its first search on, or the plan's refusal
unfoldable pub planned_answer : Store → Result PickPlan Refusal → Answer model.Pick
planned_answer s (Ok p) = picks_from s p.cause p.asked p.search
planned_answer s (Err r) = refused (number_of r)

-- the searches of a plan can begin
pub record Feasible (s : Store) (p : PickPlan) : Type 0 where
  pub ready : Ready s p.asked p.search
  pub level : p.asked.level < last_level

-- the plan gives this answer, and if it is not refused, its searches can begin
pub record Plans (s : Store) (a : Answer model.Pick) (p : Result PickPlan Refusal) : Type 0 where
  pub answers : planned_answer s p ≡ a
  pub feasible : IfOk p (Feasible s)

-- the plan of a size pick on any well-formed store with this level to compact and this start
abbrev pub SizePlanned : Scored → Started → ℕ → Result PickPlan Refusal → Type 0
SizePlanned c z m p = (s : Store) → StoreShape s → well_store s ≡ true → c ≡ scored_of (state_of s) → Starts s c.level c.due z → Plans s (on_store s (λ t. model.size_pick full t m)) p

-- the plan of a manual pick on any store, given whether that is well-formed
abbrev pub RangePlanned : Bool → ℕ → ℕ → List ℕ → List ℕ → Result PickPlan Refusal → Type 0
RangePlanned well m n a b p = (s : Store) → well_store s ≡ well → Plans s (on_store s (λ t. model.manual_pick full t m n a b)) p

-- ---- what a pick leaves
-- the record of a pick's answer
unfoldable pub taken_record : model.Pick → Picked
taken_record k = picked_record k.picked

-- its result
unfoldable pub taken_of : Answer model.Pick → Result Picked Refusal
taken_of a = result_of taken_record a

-- the store: that of the new state. After a refusal the same store
unfoldable pub left_by : Store → Answer model.Pick → Store
left_by s (gives k) = store_of k.after
left_by s (refused n) = s

-- the store with other pointers
unfoldable pub with_pointers : Store → List Pointer → Store
with_pointers s ps = record { files = s.files; counts = s.counts; pointers = ps; counters = s.counters }

-- the result is the model's, and with these pointers the store is the one that the model leaves
pub record Makes (s : Store) (a : Answer model.Pick) (c : Picked) (ps : List Pointer) : Type 0 where
  pub taken : Ok c ≡ taken_of a
  pub left : with_pointers s ps ≡ left_by s a

-- ---- at the end of the searches
-- the level's pointer becomes the first inputs' largest key, if there are any
unfoldable pub pointers_by : List Pointer → Choice → List Pointer
pointers_by ps c = cond (eqb c.first.count 0) ps (set ps c.level (record { set = true; key = key_record (key_of c.first.ends.high) }))

-- the answer with the chosen files
unfoldable pub taken_by : Cause → Choice → List FileRecord → Picked
taken_by x c fs = record {
  level = c.level;
  cause = x;
  maximum = c.maximum;
  files = fs;
  first = c.first.count;
  second = c.second.count;
  grand = c.grand.count;
}
