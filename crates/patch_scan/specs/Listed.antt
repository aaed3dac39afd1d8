-- The entries of a list as runs of bytes, read leniently: where each ends, the number that it stands by, what it brings. `p` tells pointers from files. Assumes nothing.
use Rattle.std.specs.Prelude.{ℕ, zero, suc, ◌-◌, Bool, cond, true, false, List, [], ◌∷◌, eqb, length, take, drop}
use Rattle.lemmas.specs.Compare.{overlay}
use Rattle.model.specs.Snapshot.{byte_long, number_long}
use Rattle.model.specs.DifferenceBytes.{left_kind, head_long}
use Rattle.snapshot_parse.specs.Parsing.{number_in, after_file, after_entry, parts_in, after_parts}
use Rattle.difference_scan.specs.Scan.{rise_of, parts_at}

-- the kind of an entry of files
unfoldable pub kind_in : List ℕ → ℕ
kind_in bs = number_in byte_long bs

-- its level, which follows
unfoldable pub level_in : List ℕ → ℕ
level_in bs = number_in byte_long (drop byte_long bs)

-- the bytes after the entry that these begin with
unfoldable pub after_listed : Bool → List ℕ → List ℕ
after_listed true bs = after_entry bs
after_listed false bs = cond (eqb (kind_in bs) left_kind) (drop number_long (drop head_long bs)) (after_file (drop head_long bs))

-- the bytes of that entry
unfoldable pub listed_bytes : Bool → List ℕ → List ℕ
listed_bytes p bs = take (length bs - length (after_listed p bs)) bs

-- the number that entries rise by: a pointer's level, a file's number
unfoldable pub named_of : Bool → List ℕ → ℕ
named_of true bs = number_in byte_long bs
named_of false bs = number_in number_long (drop head_long bs)

-- what an entry brings: a pointer that has a key, a file that the right has; else nothing
unfoldable pub brought_by : Bool → List ℕ → List (List ℕ)
brought_by true e = cond (eqb (number_in byte_long (drop byte_long e)) 0) [] (e ∷ [])
brought_by false e = cond (eqb (kind_in e) left_kind) [] (drop head_long e ∷ [])

-- n entries one after another
unfoldable pub listed_at : Bool → ℕ → List ℕ → List (List ℕ)
listed_at p n bs = parts_in (listed_bytes p) (after_listed p) n bs

-- the bytes after them
unfoldable pub after_each : Bool → ℕ → List ℕ → List ℕ
after_each p n bs = after_parts (listed_bytes p) (after_listed p) n bs

-- n parts of a snapshot with m entries laid over them
unfoldable pub over_run : Bool → ℕ → List ℕ → ℕ → List ℕ → List (List ℕ)
over_run p n bs m cs = overlay (rise_of p) (named_of p) (brought_by p) (parts_at p n bs) (listed_at p m cs)

-- how many of n entries of files, from the first on, are of a level
unfoldable pub run_long : ℕ → ℕ → List ℕ → ℕ
run_long l zero bs = 0
run_long l (suc n) bs = cond (eqb (level_in bs) l) (suc (run_long l n (after_listed false bs))) 0
