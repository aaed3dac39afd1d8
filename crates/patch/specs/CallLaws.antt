-- Laws of a list applied to a snapshot: what each test decides, and that the outcome made of their bytes is the answer. Assumes nothing.
use Rattle.std.specs.Prelude.{ℕ, ◌-◌, ◌≤◌, ◌<◌, ◌≡◌, refl, true, false, List, length, take, drop}
use Rattle.std.proofs.Common.{sym, ap, ◌∙◌, arith, take_at}
use Rattle.std.proofs.Math.Option.{Option, none, some}
use Rattle.std.proofs.Math.Pow.{are_bytes}
use Rattle.lemmas.specs.Order.{clash}
use Rattle.lemmas.specs.Slices.{put_front}
use Rattle.model.specs.Answer.{gives, refused}
use Rattle.model.specs.File.{State, full}
use Rattle.model.specs.Calls.{read, or_bad}
use Rattle.model.specs.Snapshot.{encode, longest_snapshot}
use Rattle.model.proofs.SnapshotLaws.{full_fits}
use Rattle.model.specs.Difference.{Difference}
use Rattle.model.specs.DifferenceBytes.{write_differences, decode_list, on_given, fitting, patching}
use Rattle.model.proofs.DifferenceReadingLaws.{decode_list_sound}
use Rattle.model.proofs.DifferingLaws.{snapshot_says, fitting_short, fitting_gives, patching_left, patching_list}
use Rattle.model.specs.Patched.{patched}
use Rattle.model.proofs.OverlaidLaws.{patching_candidate, patching_long}
use Rattle.snapshot_read.specs.Reading.{is_snapshot}
use Rattle.snapshot_read.specs.ReadingLaws.{snapshot_read, snapshot_none}
use Rattle.patch_list.specs.List.{is_some, is_list}
use Rattle.patch_list.specs.ListLaws.{few}
use Rattle.patch_scan.specs.Outcome.{outcome_of}
use Rattle.patch_scan.specs.OutcomeLaws.{outcome_back}
use Rattle.patch_scan.specs.Over.{Fitted}

-- ---- lists
-- what is a list is read
list_read : (bs : List ℕ) → is_list bs ≡ true → (ds : List Difference) × (decode_list full bs ≡ some ds)
unfolding is_list is_some
list_read bs h = go (decode_list full bs) refl h
  where
    go : (o : Option (List Difference)) → decode_list full bs ≡ o → is_some o ≡ true → (ds : List Difference) × (decode_list full bs ≡ some ds)
    go none e k = clash k refl
    go (some ds) e k = (ds, e)

-- what is none is not
list_none : (bs : List ℕ) → is_list bs ≡ false → decode_list full bs ≡ none
unfolding is_list is_some
list_none bs h = go (decode_list full bs) refl h
  where
    go : (o : Option (List Difference)) → decode_list full bs ≡ o → is_some o ≡ false → decode_list full bs ≡ none
    go none e k = e
    go (some ds) e k = clash refl k

-- ---- the answer
module _ (left list : List ℕ) (room : ℕ) where
  -- the left is no snapshot
  pub no_left : is_snapshot left ≡ false → patching full left list room ≡ refused 14
  no_left h = patching_left full left list room (snapshot_none left h)

  -- the list is none
  pub no_list : is_snapshot left ≡ true → is_list list ≡ false → patching full left list room ≡ refused 14
  no_list h k = let s = snapshot_read left h in patching_list full left list room s.0 s.1 (list_none list k)

  module _ (h : is_snapshot left ≡ true) (k : is_list list ≡ true) (b : are_bytes list ≡ true) where
    -- the state and the entries that they hold
    abbrev s : State
    s = (snapshot_read left h).0

    abbrev ds : List Difference
    ds = (list_read list k).0

    -- the outcome made of the bytes is the snapshot of the patched state
    outcome_is : outcome_of left list ≡ encode (patched s ds)
    outcome_is =
        let a = snapshot_says full left s (snapshot_read left h).1 in
        let d = decode_list_sound full list ds (list_read list k).1 in
        sym (ap (λ (bs : List ℕ). outcome_of bs (write_differences ds)) a.1 ∙ ap (outcome_of left) d.1) ∙ outcome_back s ds a.0 d.0 (few list b ds (list_read list k).1)

    -- it is longer than any snapshot
    pub too_long_lem : longest_snapshot < length (outcome_of left list) → patching full left list room ≡ refused 14
    too_long_lem q = patching_long left list room s ds (snapshot_read left h).1 (list_read list k).1 (omega (arith, ap length outcome_is))

    module _ (q : length (outcome_of left list) ≤ longest_snapshot) where
      -- it is the answer, if it is a snapshot and fits
      candidate : patching full left list room ≡ on_given (read full (outcome_of left list)) (λ t. fitting room (outcome_of left list))
      candidate = patching_candidate full full_fits left list room s ds (snapshot_read left h).1 (list_read list k).1 (omega (arith, ap length outcome_is)) ∙ rw outcome_is

      -- it is no snapshot
      pub no_outcome : is_snapshot (outcome_of left list) ≡ false → patching full left list room ≡ refused 14
      unfolding on_given read or_bad
      no_outcome e = candidate ∙ rw (snapshot_none (outcome_of left list) e)

      -- it is one
      outcome : is_snapshot (outcome_of left list) ≡ true → patching full left list room ≡ fitting room (outcome_of left list)
      unfolding on_given read or_bad
      outcome e = candidate ∙ rw (snapshot_read (outcome_of left list) e).1

      -- the output is shorter
      pub outcome_short : is_snapshot (outcome_of left list) ≡ true → room < length (outcome_of left list) → patching full left list room ≡ refused 13
      outcome_short e l = outcome e ∙ fitting_short room (outcome_of left list) l

      -- it is not
      pub outcome_given : is_snapshot (outcome_of left list) ≡ true → length (outcome_of left list) ≤ room → patching full left list room ≡ gives (outcome_of left list)
      outcome_given e l = outcome e ∙ fitting_gives room (outcome_of left list) l

-- ---- the outcome at the start of room of its own
module _ {x own own' : List ℕ} {n : ℕ} (w : Fitted own 0 x own' n) where
  -- how long it is
  pub laid_long : n ≡ length x
  laid_long = omega (arith, w.place)

  -- it is within the room
  pub laid_within : length x ≤ length own
  laid_within = omega (arith, w.room)

  -- the bytes up to its end are it
  pub laid_cut : take (n - 0) own' ≡ x
  laid_cut = ap (take (n - 0)) (w.laid ∙ put_front own x) ∙ take_at x (drop (length x) own) (n - 0) (omega (arith, w.place))
