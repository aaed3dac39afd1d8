-- Whether bytes are the snapshot of a store. Assumes nothing.
use Rattle.std.specs.Prelude.{ℕ, Bool, true, false, ◌&&◌, List}
use Rattle.std.proofs.Math.Option.{Option, none, some}
use Rattle.model.specs.File.{State, full}
use Rattle.model.specs.Snapshot.{encode, same_bytes, decode}
use Rattle.store.specs.Store.{state_of, well_store}
use Rattle.store.specs.declared.Store.{Store}

-- the store is well-formed and writes these very bytes
unfoldable pub writes_these : Store → List ℕ → Bool
writes_these s bs = well_store s && same_bytes (encode (state_of s)) bs

-- some state
unfoldable pub is_some : Option State → Bool
is_some none = false
is_some (some s) = true

-- the bytes hold a state
unfoldable pub is_snapshot : List ℕ → Bool
is_snapshot bs = is_some (decode full bs)
