-- The stayers of each level as places of a column of numbers, and the records at places. Assumes nothing.
use Rattle.std.specs.Prelude.{ℕ, suc, Bool, false, not, ◌&&◌, ◌||◌, List, [], ◌∷◌, map, eqb, ltb, length, get_or, replicate}
use Rattle.lemmas.specs.Lists.{keep, all, join, up_from}
use Rattle.lemmas.specs.Slices.{put, parts}
use Rattle.model.specs.File.{full}
use Rattle.records.specs.Record.{past}
use Rattle.records.specs.declared.FileRecord.{FileRecord}
use Rattle.edit_stayers.specs.declared.Kept.{Kept}

-- the level and the number are side by side in two columns
unfoldable pub has_pair : ℕ → ℕ → List ℕ → List ℕ → Bool
has_pair level number (l ∷ ls) (n ∷ ns) = (eqb l level && eqb n number) || has_pair level number ls ns
has_pair level number [] ns = false
has_pair level number (l ∷ ls) [] = false

-- the number is not left deleted at the level: not deleted there, or also added there. Deletions and additions are columns of levels and of numbers
unfoldable pub stays_by : List ℕ → List ℕ → List ℕ → List ℕ → ℕ → ℕ → Bool
stays_by dl dn al an level number = not (has_pair level number dl dn && not (has_pair level number al an))

-- of each level from l on, the items whose level and number pass the test
unfoldable pub stayers_by : {A : Type 0} → (A → ℕ) → (ℕ → ℕ → Bool) → ℕ → List (List A) → List (List A)
stayers_by number test l [] = []
stayers_by number test l (xs ∷ rest) = keep (λ x. test l (number x)) xs ∷ stayers_by number test (suc l) rest

-- the number of a record
abbrev pub record_number : FileRecord → ℕ
record_number r = r.number.0

-- the records of each level that stay
abbrev pub stayers_from : (ℕ → ℕ → Bool) → ℕ → List (List FileRecord) → List (List FileRecord)
stayers_from = stayers_by record_number

-- the number at a place of a column
abbrev pub number_at : List ℕ → ℕ → ℕ
number_at column p = get_or column p 0

-- the places of each level of a version
unfoldable pub places_of : List ℕ → List (List ℕ)
places_of counts = parts (up_from 0 full.room) counts

-- each place is below a number
unfoldable pub is_below : ℕ → List ℕ → Bool
is_below n ps = all (λ p. ltb p n) ps

-- the places of each level one after another in a version's room with zeros after them, how many each level has, and how many there are
unfoldable pub kept_of : List (List ℕ) → Kept
kept_of ls = record { places = put (replicate full.room 0) 0 (join ls); counts = map length ls; total = length (join ls) }

-- the records at places
unfoldable pub records_at : List FileRecord → List ℕ → List FileRecord
records_at files ps = map (λ p. get_or files p past) ps
