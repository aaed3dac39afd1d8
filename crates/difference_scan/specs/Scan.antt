-- The files of a level and the pointers as runs of bytes, read leniently: where each ends, the number that it stands by, and the entry that a list has of it. `p` tells
-- pointers from files. Assumes nothing.
use Rattle.std.specs.Prelude.{ℕ, ◌-◌, Bool, cond, true, false, List, [], ◌∷◌, ◌++◌, eqb, ltb, length, take}
use Rattle.lemmas.specs.Little.{bytes}
use Rattle.lemmas.specs.Compare.{compare}
use Rattle.model.specs.Snapshot.{same_bytes, byte_long, number_long}
use Rattle.model.specs.DifferenceBytes.{left_kind, right_kind, changed_kind}
use Rattle.snapshot_parse.specs.Parsing.{number_in, after_file, after_entry, parts_in, after_parts}
use Rattle.difference_scan.specs.declared.Kind.{Kind}
use Rattle.difference_scan.specs.declared.Kind.TheVariants.{Left, Right, Changed, Same}

-- ---- the parts
-- the bytes after the part that these begin with
unfoldable pub after_part : Bool → List ℕ → List ℕ
after_part true bs = after_entry bs
after_part false bs = after_file bs

-- the bytes of that part
unfoldable pub part_bytes : Bool → List ℕ → List ℕ
part_bytes p bs = take (length bs - length (after_part p bs)) bs

-- the bytes of the number that parts rise by: a pointer's level, a file's number
unfoldable pub rise_long : Bool → ℕ
rise_long true = byte_long
rise_long false = number_long

-- that number
unfoldable pub rise_of : Bool → List ℕ → ℕ
rise_of p bs = number_in (rise_long p) bs

-- n parts one after another
unfoldable pub parts_at : Bool → ℕ → List ℕ → List (List ℕ)
parts_at p n bs = parts_in (part_bytes p) (after_part p) n bs

-- the bytes after them
unfoldable pub after_all : Bool → ℕ → List ℕ → List ℕ
after_all p n bs = after_parts (part_bytes p) (after_part p) n bs

-- ---- the entries
-- what an entry begins with: of files the kind and the level
unfoldable pub head : Bool → ℕ → ℕ → List ℕ
head true k l = []
head false k l = bytes byte_long k ++ bytes byte_long l

-- what an entry of a part that only the left has ends with: of pointers the length of no key
unfoldable pub tail : Bool → List ℕ
tail true = bytes byte_long 0
tail false = []

-- the entry of a part that only the left has
unfoldable pub left_entry : Bool → ℕ → List ℕ → List ℕ
left_entry p l x = head p left_kind l ++ (take (rise_long p) x ++ tail p)

-- the entry of a part of the right, of this kind
unfoldable pub right_entry : Bool → ℕ → ℕ → List ℕ → List ℕ
right_entry p k l y = head p k l ++ y

-- what differs between two runs of parts
unfoldable pub run_entries : Bool → ℕ → List (List ℕ) → List (List ℕ) → List (List ℕ)
run_entries p l xs ys = compare (rise_of p) same_bytes (left_entry p l) (right_entry p right_kind l) (right_entry p changed_kind l) xs ys

-- ---- one turn
-- what a turn finds that is neither on one side alone nor changed
abbrev pub same_kind : ℕ
same_kind = 3

-- the byte of what a turn finds
abbrev pub byte_of : Kind → ℕ
byte_of Left = left_kind
byte_of Right = right_kind
byte_of Changed = changed_kind
byte_of Same = same_kind

-- of n parts the first, with number x, goes before the first of m parts, with number y
unfoldable pub goes_first : ℕ → ℕ → ℕ → ℕ → Bool
goes_first n x m y = cond (eqb n 0) false (cond (eqb m 0) true (ltb x y))

-- what a turn finds: n parts of the left are left, with first number x, and m of the right, with first number y
unfoldable pub kind_by : ℕ → ℕ → ℕ → ℕ → Bool → ℕ
kind_by n x m y same = cond (goes_first n x m y) left_kind (cond (goes_first m y n x) right_kind (cond same same_kind changed_kind))

-- the same of the bytes that both begin with
unfoldable pub kind_at : Bool → ℕ → List ℕ → ℕ → List ℕ → ℕ
kind_at p n bs m cs = kind_by n (rise_of p bs) m (rise_of p cs) (same_bytes (part_bytes p bs) (part_bytes p cs))

-- the entry of a turn of this kind: none, or one
unfoldable pub entry_of : Bool → ℕ → ℕ → List ℕ → List ℕ → List (List ℕ)
entry_of p k l x y = cond (eqb k same_kind) [] (cond (eqb k left_kind) (left_entry p l x ∷ []) (right_entry p k l y ∷ []))
