-- Where the runs of two sections begin. Assumes nothing.
use Rattle.std.specs.Prelude.{ℕ, ◌<◌, ◌≡◌, List, drop}
use Rattle.model.specs.Snapshot.{count_long}
use Rattle.snapshot_parse.specs.Parsing.{At, number_in}
use Rattle.difference_scan.specs.declared.Places.{Places}

-- p has the counts of the sections at a and b, and the places after them. A count is below 65536
pub record RunsAt (left : List ℕ) (a : ℕ) (right : List ℕ) (b : ℕ) (p : Places) : Type 0 where
  pub lefts : p.lefts ≡ number_in count_long (drop a left)
  pub rights : p.rights ≡ number_in count_long (drop b right)
  pub at_left : At left p.left (drop count_long (drop a left))
  pub at_right : At right p.right (drop count_long (drop b right))
  pub few_lefts : p.lefts < 65536
  pub few_rights : p.rights < 65536
