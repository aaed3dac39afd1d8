-- Where the runs of a snapshot and of a list end. Assumes nothing.
use Rattle.std.specs.Prelude.{ℕ, Bool, List, drop}
use Rattle.snapshot_parse.specs.Parsing.{At}
use Rattle.difference_scan.specs.Scan.{after_all}
use Rattle.difference_scan.specs.declared.Places.{Places}
use Rattle.patch_scan.specs.Listed.{after_each}

-- the places after the runs that begin at p
pub record RunEnds (pointer : Bool) (left list : List ℕ) (p : Places) (a b : ℕ) : Type 0 where
  pub at_left : At left a (after_all pointer p.lefts (drop p.left left))
  pub at_list : At list b (after_each pointer p.rights (drop p.right list))
