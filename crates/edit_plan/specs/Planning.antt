-- The plan of an edit on columns, places and records. Assumes nothing.
use Rattle.std.specs.Prelude.{ℕ, Bool, not, ◌&&◌, List, [], ◌∷◌, ◌++◌, map, ltb, length, replicate}
use Rattle.lemmas.specs.Lists.{all, distinct, join, up_from}
use Rattle.lemmas.specs.Slices.{put, parts}
use Rattle.model.specs.Answer.{Refusal, ◌⇒◌}
use Rattle.model.specs.File.{File, full, good_file}
use Rattle.model.specs.Edit as model
use Rattle.keys.specs.Key.{key_record}
use Rattle.keys.specs.declared.Key.{Key}
use Rattle.records.specs.Record.{record_of, vacant}
use Rattle.records.specs.declared.FileRecord.{FileRecord}
use Rattle.edit.specs.Edit.{addition_of}
use Rattle.answers.specs.Outcome.{passed}
use Rattle.edit.specs.declared.Deletion.{Deletion}
use Rattle.edit.specs.declared.Addition.{Addition}
use Rattle.edit_stayers.specs.Stayers.{stays_by, stayers_by, stayers_from, number_at, places_of, kept_of}
use Rattle.edit_stayers.specs.StayLaws.{stays_in}
use Rattle.edit_order.specs.Arrangement.{record_before, key_before, sorted_levels, arranged_of}
use Rattle.edit_merge.specs.Builder.{merges}
use Rattle.edit_plan.specs.declared.EditPlan.{EditPlan}

-- the levels of the deletions
unfoldable pub levels_gone : List Deletion → List ℕ
levels_gone ds = map (λ (d : Deletion). d.level) ds

-- their numbers
unfoldable pub numbers_gone : List Deletion → List ℕ
numbers_gone ds = map (λ (d : Deletion). d.number.0) ds

-- n blank keys
unfoldable pub no_keys : ℕ → List Key
no_keys n = replicate n (key_record [])

-- the levels of the additions
unfoldable pub levels_in : List Addition → List ℕ
levels_in as' = map (λ (a : Addition). a.level) as'

-- their numbers
unfoldable pub numbers_in : List Addition → List ℕ
numbers_in as' = map (λ (a : Addition). a.number.0) as'

-- their smallest keys, blank keys past them
unfoldable pub keys_in : List Addition → List Key
keys_in as' = put (no_keys full.additions) 0 (map (λ (a : Addition). a.smallest) as')

-- the kept records of the additions, blank records past them
unfoldable pub news_of : List Addition → List FileRecord
news_of as' = put (vacant full.additions) 0 (map (λ (a : Addition). record_of (addition_of a).file) as')

-- the places of the stayers, level by level, by the column of the base's numbers
unfoldable pub stay_places : List ℕ → List ℕ → List Deletion → List Addition → List (List ℕ)
stay_places column counts ds as' =
    stayers_by (number_at column) (stays_by (levels_gone ds) (numbers_gone ds) (levels_in as') (numbers_in as')) 0 (places_of counts)

-- the places of the additions in order, level by level
unfoldable pub new_places : List Addition → List (List ℕ)
new_places as' = sorted_levels (key_before (keys_in as')) (levels_in as') (up_from 0 (length as'))

-- refusals 6 and 8, by the numbers of all survivors
unfoldable pub crowding : List ℕ → List Refusal
crowding ns = (not (distinct ns) ⇒ 6) ∷ (ltb full.room (length ns) ⇒ 8) ∷ []

-- the plan for these deletions and additions
unfoldable pub plan_of : List ℕ → List ℕ → List Deletion → List Addition → EditPlan
plan_of column counts ds as' = record {
  outcome = passed (crowding (map (number_at column) (join (stay_places column counts ds as')) ++ numbers_in as'));
  places = (kept_of (stay_places column counts ds as')).places;
  counts = (kept_of (stay_places column counts ds as')).counts;
  order = (arranged_of (new_places as')).order;
  new_counts = (arranged_of (new_places as')).counts;
}

-- every addition has a right level and a good file
unfoldable pub additions_fine : model.Edit → Bool
additions_fine e = all (λ (a : model.Addition). ltb a.level full.levels && good_file full a.file) e.additions

-- ---- the survivors as records

-- the level of an addition
abbrev pub level_in : model.Addition → ℕ
level_in a = a.level

-- its file
abbrev pub file_in : model.Addition → File
file_in a = a.file

-- its number
abbrev pub number_in : model.Addition → ℕ
number_in a = a.file.number

-- the stayers of the levels
abbrev pub staying : List FileRecord → List ℕ → model.Edit → List (List FileRecord)
staying files counts m = stayers_from (stays_in m) 0 (parts files counts)

-- the additions of the edit in order, level by level
abbrev pub ordered : model.Edit → List (List FileRecord)
ordered m = sorted_levels record_before (map level_in m.additions) (map record_of (map file_in m.additions))

-- both merged
abbrev pub united : List FileRecord → List ℕ → model.Edit → List (List FileRecord)
united files counts m = merges (staying files counts m) (ordered m)
