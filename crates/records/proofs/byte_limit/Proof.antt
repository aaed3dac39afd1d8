-- `records::byte_limit` meets its contract. Assumes nothing.
use Prim.Native.Nat.{ℕ, zero, suc, ◌+◌, ◌-◌, ◌<◌, ◌≤◌}
use mathlib.Core.Path.{◌≡◌, sym, ◌∙◌, ap}
use mathlib.Core.List.{List, [], ◌∷◌}
use native.Mathlib.Omega.{arith}
use lib.ListN.{get_or}
use borrow.Author.Rules.{rules}
use borrow.Author.Tests.{le-leb, lt-leb, lt-ltb, le-ltb}
use Rattle.model.specs.File.{full, level_count}
use Rattle.lemmas.specs.Lists.{up_from}
use Rattle.lemmas.specs.Slices.{get_or_map}
use Rattle.model.specs.Score.{byte_limit}
use Rattle.model.proofs.ScoreLaws.{limits_are}
use Rattle.records.specs.Record.{limit_of}
use Rattle.records.proofs.byte_limit.Statement.{statement}
use Rattle.records.proofs.byte_limit.Tie as tie

-- counting from k on, the number at a place
count_at_lem : (k n i : ℕ) → i < n → get_or (up_from k n) i 0 ≡ k + i
unfolding up_from
count_at_lem k zero i h = elim h [ ]
count_at_lem k (suc n) zero h = omega arith
count_at_lem k (suc n) (suc i) h = count_at_lem (suc k) n i (omega arith) ∙ omega arith

-- the table has the level's limit at each place
table : (i : ℕ) → i < 5 → get_or (10485760 ∷ 104857600 ∷ 1048576000 ∷ 10485760000 ∷ 104857600000 ∷ []) i 0 ≡ byte_limit i
unfolding up_from
table i h =
    ap (λ (l : List ℕ). get_or l i 0) (sym limits_are)
    ∙ get_or_map byte_limit (up_from 0 5) i 0 0 h
    ∙ ap byte_limit (count_at_lem 0 5 i h ∙ omega arith)

returns : tie.Need-returns-then-level-lt1
unfolding limit_of
returns c = rw (lt-leb 1 _ c.if-level-lt1.true)

returns_2 : tie.Need-returns-then-i-ge5
unfolding limit_of full
returns_2 c =
    let l = c.args.level in
    let h : level_count ≤ l + 1 = omega arith in
    rw (le-leb 1 l c.if-level-lt1.false, le-ltb (l + 1) level_count h)

mul-result : tie.Need-offset_bounds-i
mul-result c = search rules

array-read-result : tie.Need-bounds-i
array-read-result c = search rules

returns_3 : tie.Need-returns
unfolding limit_of full
returns_3 c =
    let l = c.args.level in
    let h : l + 1 < level_count = omega arith in
    rw (le-leb 1 l c.if-level-lt1.false, lt-ltb (l + 1) level_count h) (table (l - 1) (omega arith))

pub byte_limit_spec : {M : Type 1} → statement M
byte_limit_spec = tie.close (tie.spec returns returns_2 mul-result array-read-result returns_3)
