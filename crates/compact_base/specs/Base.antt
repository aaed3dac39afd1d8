-- The memory that a record of base-level questions stands for, and their answers by value. Assumes nothing.
use Rattle.std.specs.Prelude.{ℕ, Bool, true, false, ◌&&◌, ◌||◌, cond, List, [], eqb, Result}
use Rattle.std.proofs.Math.Option.{Option, none, some}
use Rattle.model.specs.Answer.{Answer, refused}
use Rattle.model.specs.File.{full}
use Rattle.model.specs.Calls as calls
use Rattle.answers.specs.Outcome.{result_of}
use Rattle.answers.specs.declared.Refusal.{Refusal}
use Rattle.keys.specs.Key.{user_of, user_record, sound_user}
use Rattle.compact_base.specs.declared.Asked.{Asked}
use Rattle.compact_base.specs.declared.Based.{Based}

-- the last user key asked, if any
unfoldable pub asked_of : Asked → Option (List ℕ)
asked_of m = cond m.any (some (user_of m.user)) none

-- the record that is kept of it
unfoldable pub asked_record : Option (List ℕ) → Asked
asked_record none = record { any = false; user = user_record [] }
asked_record (some u) = record { any = true; user = user_record u }

-- a sound memory: zeros past the user key's end, and no bytes if none was asked
unfoldable pub sound_asked : Asked → Bool
sound_asked m = sound_user m.user && (m.any || eqb m.user.len 0)

-- a well-formed memory: sound, and its user key is good if one was asked
unfoldable pub well_asked : Asked → Bool
well_asked m = sound_asked m && calls.good_memory full (asked_of m)

-- a question with a memory: 14 if its record is not sound
unfoldable pub on_asked : {A : Type 0} → Asked → Answer A → Answer A
on_asked m a = cond (sound_asked m) a (refused 14)

-- the record of an answer: whether the level is the key's base, and the memory after the question
unfoldable pub base_record : calls.Base → Based
base_record b = record { base = b.answer; memory = asked_record b.memory }

-- the result of a question
unfoldable pub based_by : Answer calls.Base → Result Based Refusal
based_by a = result_of base_record a
