-- The tests of an edit before anything is built. Assumes nothing.
use Rattle.std.specs.Prelude.{List, [], ◌∷◌}
use Rattle.model.specs.Answer.{Refusal, ◌⇒◌}
use Rattle.model.specs.File.{full}
use Rattle.model.specs.File as model_file
use Rattle.model.specs.Edit as model
use Rattle.edit.specs.Edit.{addition_of, deletion_of, pointing_of}
use Rattle.edit.specs.declared.Addition.{Addition}
use Rattle.edit.specs.declared.Deletion.{Deletion}
use Rattle.edit.specs.declared.Pointing.{Pointing}

-- the tests of one pointer
unfoldable pub pointing_tests : Pointing → List Refusal
pointing_tests p = model.pointer_refusals full (pointing_of p ∷ [])

-- the tests of one deletion
unfoldable pub deletion_tests : Deletion → List Refusal
deletion_tests d = model.deletion_refusals full (deletion_of d ∷ [])

-- the tests of one addition
unfoldable pub addition_tests : Addition → List Refusal
addition_tests a = model.addition_refusals full (addition_of a ∷ [])

-- the tests: too many entries, the log number, the entries in turn
unfoldable pub checks : model_file.Counters → model.Edit → List Refusal
checks c e = (model.too_many full e ⇒ 3) ∷ (model.bad_log c e.log ⇒ 9) ∷ model.entry_refusals full e
