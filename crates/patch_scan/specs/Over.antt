-- One turn of a list laid over a snapshot: what goes first, what is written of it, and how far the output holds it. Assumes nothing.
use Rattle.std.specs.Prelude.{ℕ, ◌+◌, ◌≡◌, ◌≤◌, ◌<◌, Bool, cond, true, false, List, [], ◌∷◌, eqb, length, drop}
use Rattle.lemmas.specs.Slices.{put}
use Rattle.model.specs.Snapshot.{byte_long}
use Rattle.model.specs.DifferenceBytes.{left_kind, head_long}
use Rattle.snapshot_parse.specs.Parsing.{number_in}
use Rattle.difference_scan.specs.Scan.{rise_of, kind_by}
use Rattle.patch_scan.specs.Listed.{kind_in, after_listed, named_of, brought_by}

-- an entry brings nothing
unfoldable pub is_bare : Bool → List ℕ → Bool
is_bare true e = eqb (number_in byte_long (drop byte_long e)) 0
is_bare false e = eqb (kind_in e) left_kind

-- where in an entry what it brings begins
unfoldable pub brought_at : Bool → ℕ
brought_at true = 0
brought_at false = head_long

-- what goes first of n parts of a snapshot and m entries of a list: the part, the entry, or both, where the entry has the part's number
unfoldable pub over_kind : Bool → ℕ → List ℕ → ℕ → List ℕ → ℕ
over_kind p n bs m cs = kind_by n (rise_of p bs) m (named_of p cs) false

-- what is written of a turn of this kind: the part, or what the entry brings
unfoldable pub piece_of : Bool → ℕ → List ℕ → List ℕ → List (List ℕ)
piece_of p k x y = cond (eqb k left_kind) (x ∷ []) (brought_by p y)

-- the bytes after a turn, of the entries of a list
unfoldable pub listed_after : Bool → ℕ → ℕ → List ℕ → List ℕ
listed_after p o k cs = cond (eqb k o) cs (after_listed p cs)

-- there is room for bytes at a place, and they are written there: the place after them, and the output, which keeps its length
pub record Fitted (out₀ : List ℕ) (at : ℕ) (bs out : List ℕ) (next : ℕ) : Type 0 where
  pub room : at + length bs ≤ length out₀
  pub long : length out ≡ length out₀
  pub place : next ≡ at + length bs
  pub laid : out ≡ put out₀ at bs

-- there is no room for them: the output keeps its length
pub record TooLong (out₀ : List ℕ) (at : ℕ) (bs out : List ℕ) : Type 0 where
  pub over : length out₀ < at + length bs
  pub long : length out ≡ length out₀
