-- What code's answers say, as the model has them, and the bytes that a record keeps of them. Assumes nothing.
use Rattle.std.specs.Prelude.{ℕ, ◌+◌, ◌*◌, Bool, true, not, ◌&&◌, List, map, Result, Ok, Err}
use Rattle.std.specs.Float.Ieee.{is_nan}
use Rattle.lemmas.specs.Lists.{join}
use Rattle.model.specs.Answer.{gives, refused}
use Rattle.model.specs.File.{max_files, key_room}
use Rattle.model.specs.Snapshot.{byte_long, count_long, number_long, file_long, write_file, section}
use Rattle.model_replay.specs.Given as model
use Rattle.model_replay.specs.Given.{accepted, handed, picked, choice_of, why_of}
use Rattle.model_replay.specs.Recording.{given_form, why_form}
use Rattle.keys.specs.declared.FileNumber.{FileNumber}
use Rattle.pick_answer.specs.declared.Cause.{Cause}
use Rattle.pick_answer.specs.declared.Cause.TheVariants.{Size, Manual}
use Rattle.pick_answer.specs.declared.Picked.{Picked}
use Rattle.pick_answer.specs.Picked.{cause_of, lists_in, picked_of, well_picked}

-- ---- what is said
-- the result of a call: what is said of its value, or the number of its refusal
unfoldable pub said_by : {A : Type 0} → (A → model.Said) → Result A ℕ → model.Given
said_by f (Ok a) = gives (f a)
said_by f (Err n) = refused n

-- the answer of an edit, or of a counter call but new
abbrev pub plain_given : Result Unit ℕ → model.Given
plain_given o = said_by (λ _. accepted) o

-- the answer of new: the number handed out
abbrev pub handed_given : Result FileNumber ℕ → model.Given
handed_given o = said_by (λ n. handed n.0) o

-- the answer of a pick: what was picked
abbrev pub picked_given : Result Picked ℕ → model.Given
picked_given o = said_by (λ c. picked (choice_of (picked_of c))) o

-- ---- its bytes
-- the bytes of an answer
abbrev pub given_bytes : model.Given → List ℕ
given_bytes g = given_form.write g

-- the bytes of a cause
abbrev pub why_bytes : Cause → List ℕ
why_bytes c = why_form.write (why_of (cause_of c))

-- the bytes of the three lists of a picked answer, each after its count
abbrev pub lists_bytes : Picked → List ℕ
lists_bytes c = join (map (section write_file) (lists_in c))

-- the longest answer that is no pick: a number handed out
abbrev pub short_given : ℕ
short_given = byte_long + number_long

-- the longest answer: a picked one with as many files as a store has room for, all with the longest keys
abbrev pub longest_given : ℕ
longest_given = byte_long + number_long + (byte_long + number_long) + number_long + 3 * count_long + max_files * (file_long + 2 * key_room)

-- ---- which picks can be told
-- a score is a number
unfoldable pub is_number : Cause → Bool
is_number (Size x) = not (is_nan x)
is_number Manual = true

-- the answer of a pick can be kept: it is a refusal, or the picked answer is well-formed and its score a number
unfoldable pub can_tell : Result Picked ℕ → Bool
can_tell (Ok c) = well_picked c && is_number c.cause
can_tell (Err n) = true
