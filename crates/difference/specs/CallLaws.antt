-- Laws of the comparison of two snapshots: what each test decides, and that the list made of their bytes is the answer. Assumes nothing.
use Rattle.std.specs.Prelude.{ℕ, ◌≤◌, ◌<◌, ◌≡◌, true, false, List, length}
use Rattle.std.proofs.Common.{sym, ap, ◌∙◌, arith}
use Rattle.model.specs.Answer.{gives, refused}
use Rattle.model.specs.File.{State, full}
use Rattle.model.specs.Snapshot.{encode}
use Rattle.model.specs.Difference.{differences}
use Rattle.model.specs.DifferenceBytes.{write_differences, longest_list, differing}
use Rattle.model.proofs.DifferenceLengthLaws.{list_most_bytes}
use Rattle.model.proofs.DifferingLaws.{snapshot_says, differing_left, differing_right, differing_short, differing_gives}
use Rattle.snapshot_read.specs.Reading.{is_snapshot}
use Rattle.snapshot_read.specs.ReadingLaws.{snapshot_read, snapshot_none}
use Rattle.difference_scan.specs.Listing.{list_of}
use Rattle.difference_scan.specs.ListingLaws.{list_back}

-- ---- the answer
module _ (left right : List ℕ) (room : ℕ) where
  -- the left is no snapshot
  pub no_left : is_snapshot left ≡ false → differing full left right room ≡ refused 14
  no_left h = differing_left full left right room (snapshot_none left h)

  -- the right is none
  pub no_right : is_snapshot left ≡ true → is_snapshot right ≡ false → differing full left right room ≡ refused 14
  no_right h k = let s = snapshot_read left h in differing_right full left right room s.0 s.1 (snapshot_none right k)

  module _ (h : is_snapshot left ≡ true) (k : is_snapshot right ≡ true) where
    -- the states that both hold
    abbrev s : State
    s = (snapshot_read left h).0

    abbrev t : State
    t = (snapshot_read right k).0

    -- the list made of the bytes is that of the states
    list_is : list_of left right ≡ write_differences (differences s t)
    list_is =
        let a = snapshot_says full left s (snapshot_read left h).1 in
        let b = snapshot_says full right t (snapshot_read right k).1 in
        sym (ap (λ (bs : List ℕ). list_of bs (encode t)) a.1 ∙ ap (list_of left) b.1) ∙ list_back s t a.0 b.0

    -- it is no longer than the longest
    pub list_most : length (list_of left right) ≤ longest_list
    list_most =
        let a = snapshot_says full left s (snapshot_read left h).1 in
        let b = snapshot_says full right t (snapshot_read right k).1 in
        omega (arith, ap length list_is, list_most_bytes s t a.0 b.0)

    -- the output is shorter
    pub list_short : room < length (list_of left right) → differing full left right room ≡ refused 13
    list_short q = differing_short full left right room s t (snapshot_read left h).1 (snapshot_read right k).1 (omega (arith, ap length list_is))

    -- it is not
    pub list_given : length (list_of left right) ≤ room → differing full left right room ≡ gives (list_of left right)
    list_given q = differing_gives full left right room s t (snapshot_read left h).1 (snapshot_read right k).1 (omega (arith, ap length list_is)) ∙ ap (λ (d : List ℕ). gives d) (sym list_is)
