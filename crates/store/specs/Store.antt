-- The state that a store stands for, and the store that holds a state. Assumes nothing.
use Rattle.std.specs.Prelude.{ℕ, ◌≡◌, Bool, true, false, ◌&&◌, ◌||◌, cond, List, [], map, eqb, length, Result}
use Rattle.std.proofs.Math.Option.{Option, none, some}
use Rattle.lemmas.specs.Lists.{all}
use Rattle.lemmas.specs.Each.{Each}
use Rattle.model.specs.Answer.{Answer, gives, refused}
use Rattle.model.specs.File as model
use Rattle.model.specs.File.{State, full, well_formed, max_files, level_count, key_room}
use Rattle.answers.specs.Outcome.{result_of}
use Rattle.answers.specs.declared.Refusal.{Refusal}
use Rattle.keys.specs.Key.{key_of, key_record, sound_key}
use Rattle.records.specs.Record.{AllShaped}
use Rattle.counters.specs.Counters.{counters_of, counters_record}
use Rattle.levels.specs.Levels.{levels_of, laid_out, counts_of, sound_levels, survey_of}
use Rattle.store.specs.declared.Pointer.{Pointer}
use Rattle.store.specs.declared.Store.{Store}
use Rattle.store.specs.declared.Looked.{Looked}
use Rattle.store.specs.declared.Numbered.{Numbered}

-- the pointer that a record stands for
unfoldable pub pointer_of : Pointer → Option (List ℕ)
pointer_of p = cond p.set (some (key_of p.key)) none

-- the record that is kept of a pointer
unfoldable pub pointer_record : Option (List ℕ) → Pointer
pointer_record none = record { set = false; key = key_record [] }
pointer_record (some k) = record { set = true; key = key_record k }

-- a sound pointer: zeros past its key's end, and no bytes if it is not set
unfoldable pub sound_pointer : Pointer → Bool
sound_pointer p = sound_key p.key && (p.set || eqb p.key.len 0)

-- a well-formed pointer: sound, and its key is good if it is set
unfoldable pub well_pointer : Pointer → Bool
well_pointer p = sound_pointer p && model.good_pointer full (pointer_of p)

-- the state that a store stands for
unfoldable pub state_of : Store → State
state_of s = record { files = levels_of s.files s.counts; pointers = map pointer_of s.pointers; counters = counters_of s.counters }

-- the store that holds a state
unfoldable pub store_of : State → Store
store_of t = record {
  files = laid_out t.files;
  counts = counts_of t.files;
  pointers = map pointer_record t.pointers;
  counters = counters_record t.counters;
}

-- a sound store: room, blank places, zeros past keys' ends, allowed seeks
unfoldable pub sound_store : Store → Bool
sound_store s = sound_levels s.files s.counts && all sound_pointer s.pointers

-- a well-formed store: sound, and its state is well-formed
unfoldable pub well_store : Store → Bool
well_store s = sound_store s && well_formed full (state_of s)

-- the result of one look at a store
unfoldable pub look_of : Store → Looked
look_of s = record { bytes = (survey_of s.files s.counts).bytes; well = well_store s }

-- the numbers of the files and their total, and whether the store is well-formed
unfoldable pub numbered_of : Store → Numbered
numbered_of s = record { numbers = (survey_of s.files s.counts).numbers; total = (survey_of s.files s.counts).total; well = well_store s }

-- a call on a store: 14 if its records are not sound, else the call's answer for its state
unfoldable pub on_store : {A : Type 0} → Store → (State → Answer A) → Answer A
on_store s call = cond (sound_store s) (call (state_of s)) (refused 14)

-- the store after a call: the store of the new state, or after a refusal the one given
unfoldable pub leaves : Store → Answer State → Store
leaves s (gives t) = store_of t
leaves s (refused n) = s

-- the result of a call that returns a store: the store of the new state, or the refusal
unfoldable pub stored : Answer State → Result Store Refusal
stored a = result_of store_of a

-- the pointer's key has its room
abbrev pub PointerShaped : Pointer → Type 0
PointerShaped p = length p.key.bytes ≡ key_room

-- the lengths of a store's arrays
pub record StoreShape (s : Store) : Type 0 where
  pub files : length s.files ≡ max_files
  pub records : AllShaped s.files
  pub counts : length s.counts ≡ level_count
  pub pointers : length s.pointers ≡ level_count
  pub keys : Each PointerShaped s.pointers
