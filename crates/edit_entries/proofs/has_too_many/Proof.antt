-- `edit_entries::has_too_many` meets its contract. Assumes nothing.
use mathlib.Core.Path.{◌≡◌, refl, sym}
use Prim.Native.Nat.{◌≤◌}
use mathlib.Core.Bool.{Bool, true, false}
use native.Mathlib.Omega.{arith}
use lib.Dec.{ltb}
use borrow.Author.Tests.{ltb-true, ltb-false}
use Rattle.model.specs.File.{full, max_additions, max_deletions, max_pointers}
use Rattle.model.specs.Edit.{too_many}
use Rattle.edit.specs.declared.Edit.{Edit}
use Rattle.edit.specs.Edit.{edit_of}
use Rattle.edit.specs.EditLaws.{HasRoom, enough, many}
use Rattle.edit.proofs.Shape.{has_room}
use Rattle.edit_entries.proofs.has_too_many.Statement.{statement}
use Rattle.edit_entries.proofs.has_too_many.Tie as tie

-- the other counts within the room: by the count of pointers
last : (e : Edit) → HasRoom e → e.deletion_count ≤ max_deletions → e.addition_count ≤ max_additions → (t : Bool) → ltb max_pointers e.pointing_count ≡ t → t ≡ too_many full (edit_of e)
last e r h k true q = sym (many e r (λ w. let b = w.pointings in omega (arith, ltb-true max_pointers e.pointing_count q)))
last e r h k false q = sym (enough e r (record { pointings = ltb-false max_pointers e.pointing_count q; deletions = h; additions = k }))

returns : tie.Need-returns-then-e-gt-DELETIONS
returns c =
    let s = c in
    sym (many s.args.e (has_room s.args.e _ s.well_formed.0) (λ w. let b = w.deletions in omega arith))

returns_2 : tie.Need-returns-then-e-gt-ADDITIONS
returns_2 c =
    let s = c in
    sym (many s.args.e (has_room s.args.e _ s.well_formed.0) (λ w. let b = w.additions in omega arith))

returns_3 : tie.Need-returns
returns_3 c =
    let s = c in
    last s.args.e (has_room s.args.e _ s.well_formed.0) (omega arith) (omega arith) (ltb max_pointers s.args.e.pointing_count) refl

pub has_too_many_spec : {M : Type 1} → statement M
has_too_many_spec = tie.close (tie.spec returns returns_2 returns_3)
