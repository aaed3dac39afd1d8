-- What owning an array of pointers says: each pointer's key has its room. Assumes nothing.
use Prim.Native.Nat.{ℕ}
use mathlib.Core.List.{List}
use mir.Val.{Val}
use denote.Array.{Array}
use denote.Laws.{Is}
use Rattle.lemmas.specs.Each.{Each}
use Rattle.lemmas.specs.Owned.{each_owned}
use Rattle.store.specs.declared.Pointer.{Pointer}
use Rattle.store.specs.Store.{PointerShaped}
use Rattle.store.specs.contracts.Pointer as pointer_type
use Rattle.store.proofs.Shape.{pointer_shaped}

-- for a parameter `pointers: [Pointer; 7]`, the first, and the function's start s: `pointers_shaped 7 s.args.t1 _ s.good.0`
pub pointers_shaped : (n : ℕ) (ps : List Pointer) (vs : List Val) → Is (Array pointer_type.the_row n) ps vs → Each PointerShaped ps
pointers_shaped n ps vs is = each_owned (pointer_type.the_row).own_val PointerShaped pointer_shaped ps is.0 is.1.1
