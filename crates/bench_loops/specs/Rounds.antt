-- Many searches of two keys in turn, in one list. Assumes nothing.
use Rattle.std.specs.Prelude.{ℕ, zero, suc, ◌+◌, ◌-◌, ◌*◌, ◌^◌, ◌≤◌, List, length}
use Rattle.model.specs.File.{File, max_files}
use Rattle.model.specs.Question.{passed}
use Rattle.ask_find.specs.Finding.{Deep}
use Rattle.bench_loops.specs.declared.Round.{Round}

-- the round after one more search: the place is added, and the keys change places
abbrev pub turned : Round → ℕ → Round
turned r at = record { next = r.after; after = r.next; left = r.left - 1; sum = r.sum + at }

-- the sum of the places found by n searches for two keys in turn
unfoldable pub asked : ℕ → List ℕ → List ℕ → List File → ℕ
asked zero a b fs = 0
asked (suc n) a b fs = passed a fs + asked n b a fs

-- the largest sum of a round, far from where a sum would wrap
abbrev pub round_most : ℕ
round_most = 2 ^ 40

-- a round that can be made on a list: a level above 0 within the room, and a sum that stays small
pub record Asking (fs : List File) (r : Round) : Type 0 where
  pub deep : Deep fs
  pub few : length fs ≤ max_files
  pub small : r.sum + max_files * r.left ≤ round_most
