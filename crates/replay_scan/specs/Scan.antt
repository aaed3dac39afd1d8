-- What code returns of a part that it passes. Assumes nothing.
use Rattle.std.specs.Prelude.{ℕ, ◌+◌, Bool, true, false, List}
use Rattle.std.proofs.Math.Option.{Option, none, some}
use Rattle.model_replay.specs.Recording.{read_recording}
use Rattle.replay_scan.specs.declared.Passed.{Passed}

-- whether a part is whole, and the place after it, where it begins at a place and takes so many bytes
unfoldable pub passed_by : ℕ → Option ℕ → Passed
passed_by at none = record { good = false; at = 0 }
passed_by at (some n) = record { good = true; at = at + n }

module _ {A : Type 0} where
  -- there is one
  unfoldable pub is_some : Option A → Bool
  is_some none = false
  is_some (some a) = true

-- whether bytes are a record
unfoldable pub is_recording : List ℕ → Bool
is_recording bs = is_some (read_recording bs)
