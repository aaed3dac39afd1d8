-- Whether bytes are a list of differences. Assumes nothing.
use Rattle.std.specs.Prelude.{ℕ, Bool, true, false, List}
use Rattle.std.proofs.Math.Option.{Option, none, some}
use Rattle.model.specs.File.{full}
use Rattle.model.specs.Difference.{Difference}
use Rattle.model.specs.DifferenceBytes.{decode_list}

-- there are entries
unfoldable pub is_some : Option (List Difference) → Bool
is_some none = false
is_some (some ds) = true

-- the bytes are a list
unfoldable pub is_list : List ℕ → Bool
is_list bs = is_some (decode_list full bs)
