-- Two runs of parts gone through turn by turn: what differs between them, and what is left of each after a turn. Assumes nothing.
use Rattle.std.specs.Prelude.{ℕ, ◌-◌, Bool, cond, List, eqb}
use Rattle.difference_scan.specs.Scan.{after_part, parts_at, run_entries}

-- what differs between n parts of bs and m parts of cs
unfoldable pub entries_of : Bool → ℕ → ℕ → List ℕ → ℕ → List ℕ → List (List ℕ)
entries_of p l n bs m cs = run_entries p l (parts_at p n bs) (parts_at p m cs)

-- how many parts are left after a turn of kind k, on the side that kind o passes by
unfoldable pub left_over : ℕ → ℕ → ℕ → ℕ
left_over o k n = cond (eqb k o) n (n - 1)

-- the place after it
unfoldable pub place_after : ℕ → ℕ → ℕ → ℕ → ℕ
place_after o k at end = cond (eqb k o) at end

-- the bytes after it
unfoldable pub bytes_after : Bool → ℕ → ℕ → List ℕ → List ℕ
bytes_after p o k bs = cond (eqb k o) bs (after_part p bs)
