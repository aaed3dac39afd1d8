-- The calls that a record holds, as code makes them. Assumes nothing.
use Rattle.std.specs.Prelude.{ℕ, ◌≤◌, ◌≡◌, List, [], ◌∷◌, map, length, get_or, take, drop, replicate, Some, None, Result}
use Rattle.std.specs.Prelude as prelude
use Rattle.std.proofs.Math.Option.{Option, none, some}
use Rattle.lemmas.specs.Slices.{put}
use Rattle.model.specs.Key as key
use Rattle.model.specs.File.{full, max_pointers, max_deletions, max_additions}
use Rattle.model.specs.Edit as model
use Rattle.model.specs.Edit.{empty_edit}
use Rattle.model.specs.History as history
use Rattle.model.specs.History.{picks_range, after}
use Rattle.model.specs.Counters.{CounterCall, new, reuse, mark, last, manifest, previous, counter}
use Rattle.model.specs.Snapshot.{Read}
use Rattle.model_replay.specs.Given.{given}
use Rattle.model_replay.specs.Held.{held_key}
use Rattle.model_replay.specs.Recording.{Asked, asks_size, edit_form, range_form, count_form, asked_form}
use Rattle.answers.specs.declared.Refusal.{Refusal}
use Rattle.keys.specs.declared.FileNumber.{FileNumber}
use Rattle.keys.specs.Key.{key_record}
use Rattle.edit.specs.declared.Deletion.{Deletion}
use Rattle.edit.specs.declared.Addition.{Addition}
use Rattle.edit.specs.declared.Pointing.{Pointing}
use Rattle.edit.specs.declared.Edit.{Edit}
use Rattle.edit.specs.Edit.{blank_pointing, blank_deletion, blank_addition}
use Rattle.store.specs.declared.Store.{Store}
use Rattle.store.specs.Store.{state_of, store_of, on_store, stored}
use Rattle.model_replay.specs.Takes.{Takes}
use Rattle.replay_given.specs.Given.{given_bytes}
use Rattle.replay_call.specs.declared.Made.{Made}

-- ---- what bytes hold
-- the value that bytes begin with, or another if they begin with none
module _ {A : Type 0} where
  unfoldable pub value_or : A → Option (Read A) → A
  value_or d none = d
  value_or d (some q) = q.value

-- from a place on bytes begin with a whole part
pub record Begins (f : Takes) (src : List ℕ) (at : ℕ) : Type 0 where
  pub within : at ≤ length src
  pub long : ℕ
  pub whole : f (drop at src) ≡ some long

-- ---- an edit as code has it
-- a pointer
unfoldable pub pointing_record : model.Pointer → Pointing
pointing_record q = record { level = q.level; key = key_record (held_key full q.key) }

-- a deletion
unfoldable pub deletion_record : model.Deletion → Deletion
deletion_record d = record { level = d.level; number = record { 0 = d.number } }

-- an addition
unfoldable pub addition_record : model.Addition → Addition
addition_record a = record {
  level = a.level;
  number = record { 0 = a.file.number };
  size = a.file.size;
  smallest = key_record (held_key full a.file.smallest);
  largest = key_record (held_key full a.file.largest);
}

-- a log number
unfoldable pub log_record : Option ℕ → prelude.Option FileNumber
log_record none = None
log_record (some n) = Some (record { 0 = n })

-- the entries of an edit that its room holds, then blank ones
module _ {A B : Type 0} where
  unfoldable pub filled : ℕ → B → (A → B) → List A → List B
  filled room blank f l = put (replicate room blank) 0 (map f (take room l))

-- an edit: what its room holds of it, and how many entries it has
unfoldable pub edit_record : model.Edit → Edit
edit_record e = record {
  pointings = filled max_pointers blank_pointing pointing_record e.pointers;
  pointing_count = length e.pointers;
  deletions = filled max_deletions blank_deletion deletion_record e.deletions;
  deletion_count = length e.deletions;
  additions = filled max_additions blank_addition addition_record e.additions;
  addition_count = length e.additions;
  log = log_record e.log;
}

-- the edit that bytes begin with
unfoldable pub edit_in : List ℕ → model.Edit
edit_in bs = value_or empty_edit (edit_form.read bs)

-- the manual pick that bytes begin with, under a maximum file size
unfoldable pub range_in : ℕ → List ℕ → history.Call
range_in m bs = ranged (value_or (0, ([], [])) (range_form.read bs))
  where
    ranged : ℕ × (key.Key × key.Key) → history.Call
    ranged t = picks_range m t.0 t.1.0 t.1.1

-- the counter call that bytes begin with
unfoldable pub count_in : List ℕ → CounterCall
count_in bs = value_or new (count_form.read bs)

-- the counter call of a tag, with its number
unfoldable pub count_of : ℕ → ℕ → CounterCall
count_of tag n = get_or (new ∷ reuse n ∷ mark n ∷ last n ∷ manifest n ∷ previous n ∷ []) tag new

-- its result
unfoldable pub counted_by : Store → ℕ → ℕ → Result Store Refusal
counted_by s tag n = stored (on_store s (λ t. counter full t (count_of tag n)))

-- the call that bytes begin with
unfoldable pub asked_in : List ℕ → Asked
asked_in bs = value_or asks_size (asked_form.read bs)

-- ---- a call that is made
-- the store after a call on a well-formed store, and how long the bytes of its answer are
unfoldable pub made_by : Store → history.Call → Made
made_by s c = record { store = store_of (after full (state_of s) c); length = length (given_bytes (given full (state_of s) c)) }

-- lent room with the bytes of its answer at the start
unfoldable pub answered : Store → history.Call → List ℕ → List ℕ
answered s c room = put room 0 (given_bytes (given full (state_of s) c))
