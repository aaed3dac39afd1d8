-- The plan of an edit on a store, and the store that it leaves. Assumes nothing.
use Rattle.std.specs.Prelude.{◌≡◌, true, ℕ, ◌≤◌, List, [], ◌∷◌, map, length, set, take}
use Rattle.lemmas.specs.Lists.{distinct, join, sum}
use Rattle.model.specs.File.{max_additions, max_deletions, max_files}
use Rattle.model.specs.Edit as model
use Rattle.keys.specs.Key.{key_of, key_record}
use Rattle.counters.specs.Counters.{counters_of, counters_record}
use Rattle.records.specs.declared.FileRecord.{FileRecord}
use Rattle.store.specs.declared.Pointer.{Pointer}
use Rattle.store.specs.declared.Store.{Store}
use Rattle.edit.specs.Edit.{log_of}
use Rattle.edit.specs.declared.Pointing.{Pointing}
use Rattle.edit.specs.declared.Edit.{Edit}
use Rattle.edit_stayers.specs.Stayers.{number_at, record_number}
use Rattle.edit_order.specs.Arrangement.{are_levels}
use Rattle.edit_merge.specs.Builder.{sums}
use Rattle.edit_plan.specs.Planning.{levels_in, stay_places, plan_of}
use Rattle.edit_plan.specs.declared.EditPlan.{EditPlan}

-- the plan of an edit on levels whose files have these numbers
unfoldable pub plan_by : List ℕ → List ℕ → Edit → EditPlan
plan_by column counts e = plan_of column counts (take e.deletion_count e.deletions) (take e.addition_count e.additions)

-- such a plan can be made
pub record Plannable (column counts : List ℕ) (e : Edit) : Type 0 where
  -- the column has a number for each file
  pub counted : sum counts ≤ length column
  -- it is within the room
  pub room : length column ≤ max_files
  -- no number stands twice among the files that stay
  pub distinct_stay : distinct (map (number_at column) (join (stay_places column counts (take e.deletion_count e.deletions) (take e.addition_count e.additions)))) ≡ true
  -- the edit has no more entries than it may have
  pub deletions : e.deletion_count ≤ max_deletions
  pub additions : e.addition_count ≤ max_additions
  -- its levels exist
  pub levels : are_levels (levels_in (take e.addition_count e.additions)) ≡ true

-- the plan of an edit on a store
unfoldable pub plan_for : Store → Edit → EditPlan
plan_for s e = plan_by (map record_number (take (sum s.counts) s.files)) s.counts e

-- each pointer of an edit set in turn, so that the last for a level counts
unfoldable pub pointed_by : List Pointing → List Pointer → List Pointer
pointed_by [] ps = ps
pointed_by (q ∷ qs) ps = pointed_by qs (set ps q.level (record { set = true; key = key_record (key_of q.key) }))

-- the store that an accepted edit leaves: the survivors by the plan, their counts, and the edit's pointers and log number
unfoldable pub accepted_by : Store → Edit → EditPlan → List FileRecord → Store
accepted_by s e p files = record {
  files = files;
  counts = sums p.counts p.new_counts;
  pointers = pointed_by (take e.pointing_count e.pointings) s.pointers;
  counters = counters_record (model.logged (log_of e.log) (counters_of s.counters));
}
