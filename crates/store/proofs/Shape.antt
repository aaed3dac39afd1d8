-- What owning a store says: the lengths of its arrays. Assumes nothing.
use mathlib.Core.List.{List}
use mathlib.Core.Path.{◌≡◌}
use lib.ListN.{length}
use denote.Array.{each}
use denote.Shadow.{shadow}
use Rattle.model.specs.File.{level_count, max_files}
use mir.Val.{Val}
use borrow.Author.Rules.{rules}
use borrow.Struct.Parts.{StructFacts}
use denote.Laws.{Is}
use Rattle.lemmas.specs.Owned.{each_owned}
use Rattle.lemmas.specs.Slices.{length_of_map}
use Rattle.records.specs.Record.{Shaped}
use Rattle.records.specs.contracts.FileRecord as record_type
use Rattle.records.proofs.Shape.{shaped}
use Rattle.store.specs.declared.Pointer.{Pointer}
use Rattle.store.specs.declared.Store.{Store}
use Rattle.store.specs.Store.{StoreShape, PointerShaped}
use Rattle.store.specs.contracts.Pointer as pointer_type
use Rattle.store.specs.contracts.Store as store_type
use Rattle.store.proofs.Store.TheLaws.{the_maybe}

-- of one pointer
pub pointer_shaped : (p : Pointer) (vs : List Val) → Is pointer_type.the_row p vs → PointerShaped p
pointer_shaped p vs is = search rules

-- of a store, by what owning its arrays says
shape_of : (s : Store) (us ws : List Val) → length s.files ≡ max_files → length s.counts ≡ level_count → length s.pointers ≡ level_count
    → shadow (each (record_type.the_row).Denot (record_type.the_row).own_val s.files us) → shadow (each (pointer_type.the_row).Denot (pointer_type.the_row).own_val s.pointers ws) → StoreShape s
shape_of s us ws f n p r k = record {
  files = f;
  records = each_owned (record_type.the_row).own_val Shaped shaped s.files us r;
  counts = n;
  pointers = p;
  keys = each_owned (pointer_type.the_row).own_val PointerShaped pointer_shaped s.pointers ws k;
}

-- of a store behind a reference, once an element of one of its arrays is read
pub shape_told : (s : Store) → StructFacts store_type.the_type the_maybe s → StoreShape s
shape_told s h =
    let files = h.0 in
    let counts = h.1.0 in
    let pointers = h.1.1.0 in
    shape_of s files.0 pointers.0 (search (rules, length_of_map)) (search rules) (search (rules, length_of_map)) files.1.1 pointers.1.1

-- of a store. For a parameter `s: Store`, the first, and the function's start c: `shape c.args.s _ c.well_formed.0 : StoreShape c.args.s`
pub shape : (s : Store) (vs : List Val) → Is store_type.the_row s vs → StoreShape s
shape s vs is =
    let files = is.1.1.0 in
    let pointers = is.1.1.1.1.0 in
    shape_of s files.0 pointers.0 (search (rules, length_of_map)) (search rules) (search (rules, length_of_map)) files.1.1 pointers.1.1
