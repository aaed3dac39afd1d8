-- The snapshot of a store for lent output. Assumes nothing.
use Rattle.std.specs.Prelude.{ℕ, List}
use Rattle.model.specs.Answer.{Answer}
use Rattle.model.specs.File.{full}
use Rattle.model.specs.Calls as calls
use Rattle.store.specs.Store.{on_store}
use Rattle.store.specs.declared.Store.{Store}

-- the snapshot of a store for output of this length, or a refusal
unfoldable pub snapshot_of : Store → ℕ → Answer (List ℕ)
snapshot_of s room = on_store s (λ t. calls.write full t room)
