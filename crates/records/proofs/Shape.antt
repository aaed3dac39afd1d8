-- What owning records says: each record's keys have their room, and its number fits 64 bits. Assumes nothing.
use mathlib.Core.List.{List, [], ◌∷◌, map}
use Prim.Native.Nat.{ℕ, ◌^◌, ◌<◌}
use native.Mathlib.Omega.{arith}
use mir.Syntax.{w64}
use mir.Val.{Val, Fits}
use borrow.Author.Rules.{rules}
use denote.Array.{Array, each}
use denote.Laws.{Is}
use denote.Shadow.{shadow}
use Rattle.lemmas.specs.Each.{Each}
use Rattle.lemmas.specs.Owned.{each_owned}
use Rattle.records.specs.declared.FileRecord.{FileRecord}
use Rattle.records.specs.RecordLaws.{AllWords}
use Rattle.records.specs.Record.{Shaped, AllShaped}
use Rattle.records.specs.contracts.FileRecord as record_type

-- of one record
pub shaped : (r : FileRecord) (vs : List Val) → Is record_type.the_row r vs → Shaped r
shaped r vs is = record { smallest = search rules; largest = search rules }

-- of an array of records
pub all_shaped : (n : ℕ) (rs : List FileRecord) (vs : List Val) → Is (Array record_type.the_row n) rs vs → AllShaped rs
all_shaped n rs vs is = each_owned (record_type.the_row).own_val Shaped shaped rs is.0 is.1.1

-- of an array of records that is a field of a struct, where the records stand as their parts
abbrev parts : FileRecord → (record_type.the_field).row.Denot
parts = (record_type.the_field).into

shaped_parts : (rs : List FileRecord) (us : List Val) → shadow (each (record_type.the_field).row.Denot (record_type.the_field).row.own_val (map parts rs) us) → AllShaped rs
unfolding Each
shaped_parts [] us p = tt
shaped_parts (r ∷ rs) [] p = absurd p
shaped_parts (r ∷ rs) (u ∷ us) p = (shaped r (u ∷ []) p.0, shaped_parts rs us p.1)

pub field_shaped : (n : ℕ) (rs : List FileRecord) (vs : List Val) → Is (Array (record_type.the_field).row n) (map parts rs) vs → AllShaped rs
field_shaped n rs vs is = shaped_parts rs is.0 is.1.1

-- In a proof, of a parameter, of a call's result, and of a field of either, from any later place:
-- `let w : AllShaped s.args.store.files = search shapes in ..` and `let w : Shaped s.args.r = search shapes in ..`.
-- The record at a place is then `each_at Shaped files i past w (omega arith)`.
pub ruleset shapes = (shaped, all_shaped, field_shaped)

-- of one record: its number
word : (r : FileRecord) (vs : List Val) → Is record_type.the_row r vs → r.number.0 < 2 ^ 64
word r vs is =
    let f : Fits w64 r.number.0 = search rules in
    omega arith

-- of an array of records, as above
pub all_words : (n : ℕ) (rs : List FileRecord) (vs : List Val) → Is (Array record_type.the_row n) rs vs → AllWords rs
all_words n rs vs is = each_owned (record_type.the_row).own_val (λ (r : FileRecord). r.number.0 < 2 ^ 64) word rs is.0 is.1.1
